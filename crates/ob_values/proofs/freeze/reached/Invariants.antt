use Rattle.std.proofs.Common.{◌-◌, ◌^◌, [], ◌∷◌}
use Rattle.ob_values.specs.Freeze.{frozen_next, refs_of}
use Rattle.ob_values.proofs.ReachLemmas.{IsSearch}
use Rattle.ob_values.proofs.freeze.reached.Given as goal

abbrev pub invariant-loop-at : goal.invariant-loop-at
invariant-loop-at l = IsSearch (frozen_next l.regions) (refs_of (l.fn.value ∷ [])) l.seen l.at

abbrev pub decreases-loop-at : goal.decreases-loop-at
decreases-loop-at l = 2 ^ 64 - l.at
