-- What names mean, as the walk keeps it.
use Rattle.ob_tree.specs.Scopes as scopes
use Rattle.ob_names.specs.declared.meaning.Meaning.{Meaning}
use Rattle.ob_names.specs.declared.meaning.Meaning.TheVariants as kept

abbrev pub meaning_of : Meaning → scopes.Meaning
meaning_of kept.Free = scopes.Free
meaning_of (kept.Local n) = scopes.Local n
meaning_of (kept.Captured n) = scopes.Captured n
