use Rattle.std.proofs.Common.{◌+◌, ◌-◌, ◌*◌, ◌^◌, [], ◌∷◌, length}
use Rattle.ob_values.specs.Freeze.{refs_of}
use Rattle.ob_values.proofs.CycleLemmas.{IsSearching}
use Rattle.ob_values.proofs.plain.cycle.has_cycle.Given as goal

abbrev pub invariant-loop-task : goal.invariant-loop-task
invariant-loop-task l = IsSearching l.regions (refs_of (l.fn.value ∷ [])) l.stack l.met l.done

abbrev pub decreases-loop-task : goal.decreases-loop-task
decreases-loop-task l = (2 ^ 63 - length l.met) * 2 ^ 64 + length l.stack
