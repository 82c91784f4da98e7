use Rattle.std.proofs.Common.{length}
use Rattle.ob_text_methods.proofs.PartLemmas.{IsCutting}
use Rattle.ob_text_methods.proofs.parts.parts_of.Given as goal

abbrev pub invariant-loop-place : goal.invariant-loop-place
invariant-loop-place l = IsCutting l.piece l.units l.rest l.parts

abbrev pub decreases-loop-place : goal.decreases-loop-place
decreases-loop-place l = length l.rest
