use Rattle.std.proofs.Common.{◌≡◌, ◌++◌, drop}
use Rattle.ob_values.specs.Freeze.{refs_of}
use Rattle.ob_values.proofs.plain.add_refs.Given as goal

abbrev pub invariant-loop-value : goal.invariant-loop-value
invariant-loop-value l = l.list ++ refs_of (drop l.value-index l.values) ≡ l.fn.list ++ refs_of l.values
