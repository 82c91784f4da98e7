use Rattle.std.proofs.Common.{length}
use Rattle.ob_text_methods.proofs.PartLemmas.{IsCounting}
use Rattle.ob_text_methods.proofs.parts.parts_cost.Given as goal

abbrev pub invariant-loop-place : goal.invariant-loop-place
invariant-loop-place l = IsCounting l.piece l.units l.rest l.total

abbrev pub decreases-loop-place : goal.decreases-loop-place
decreases-loop-place l = length l.rest
