use Rattle.std.proofs.Common.{◌+◌, ◌-◌, ◌*◌, [], ◌∷◌, length}
use Rattle.ob_values.specs.Freeze.{refs_of}
use Rattle.ob_values.proofs.TreeLemmas.{IsCount}
use Rattle.ob_values.proofs.plain.walk.is_small.Given as goal

abbrev pub invariant-loop-r : goal.invariant-loop-r
invariant-loop-r l = IsCount l.regions (refs_of (l.fn.value ∷ [])) l.used l.waiting

abbrev pub decreases-loop-r : goal.decreases-loop-r
decreases-loop-r l = 2 * (50000 - l.used) + length l.waiting
