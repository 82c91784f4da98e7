use Rattle.std.proofs.Common.{◌+◌, ◌-◌, ◌*◌, length}
use Rattle.ob_text_methods.proofs.SearchLemmas.{IsBuilding}
use Rattle.ob_text_methods.proofs.search.shifts.Given as goal

abbrev pub invariant-loop-start : goal.invariant-loop-start
invariant-loop-start l = IsBuilding l.piece l.shifts.items l.start l.matched

-- at most two turns for each unit
abbrev pub decreases-loop-start : goal.decreases-loop-start
decreases-loop-start l = 2 * length l.piece + 2 - (2 * l.start + l.matched)
