use Rattle.std.proofs.Common.{◌≡◌, ◌++◌, drop, map}
use Rattle.ob_names.specs.Sets.{ref_of}
use Rattle.ob_names.proofs.name_set.copies_of.Given as goal

abbrev pub invariant-loop-form : goal.invariant-loop-form
invariant-loop-form l = l.names ++ map ref_of (drop l.form-index l.keys) ≡ map ref_of l.keys
