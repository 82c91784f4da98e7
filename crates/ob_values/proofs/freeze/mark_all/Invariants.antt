use Rattle.std.proofs.Common.{◌≡◌, take}
use Rattle.ob_values.specs.Freeze.{all_marked}
use Rattle.ob_values.proofs.freeze.mark_all.Given as goal

abbrev pub invariant-loop-at : goal.invariant-loop-at
invariant-loop-at l = l.regions ≡ all_marked l.fn.regions (take l.at l.seen)
