use Rattle.std.proofs.Common.{◌≡◌, drop}
use Rattle.ob_values.specs.Freeze.{refs_of}
use Rattle.ob_values.specs.PlainSearch.{all_entered}
use Rattle.ob_values.proofs.plain.cycle.enter_values.Given as goal

abbrev pub invariant-loop-value : goal.invariant-loop-value
invariant-loop-value l = all_entered l.stack (refs_of (drop l.value-index l.values)) ≡ all_entered l.fn.stack (refs_of l.values)
