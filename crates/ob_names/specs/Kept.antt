-- The bindings and mentions that a walk keeps, as the definitions have them.
use Rattle.ob_tree.specs.Scopes as scopes
use Rattle.ob_names.specs.Meanings.{meaning_of}
use Rattle.ob_names.specs.declared.walker.Bound.{Bound}
use Rattle.ob_names.specs.declared.walker.Mention.{Mention}

abbrev pub bound_of : Bound → scopes.Bound
bound_of b = record { name = b.name.now; constant = b.constant }

abbrev pub mention_of : Mention → scopes.Mention
mention_of m = record { form = m.form; name = m.name.now; means = meaning_of m.means }
