use Rattle.std.proofs.Common.{◌+◌, ◌-◌, ◌*◌, length}
use Rattle.ob_text_methods.proofs.SearchLemmas.{IsMatching}
use Rattle.ob_text_methods.proofs.search.place_of.Given as goal

abbrev pub invariant-loop-start : goal.invariant-loop-start
invariant-loop-start l = IsMatching l.units l.piece l.start l.matched

-- at most two turns for each unit
abbrev pub decreases-loop-start : goal.decreases-loop-start
decreases-loop-start l = 2 * length l.units + 2 - (2 * l.start + l.matched)
