use Rattle.ob_session.proofs.Marks.{IsMarked}
use Rattle.ob_session.proofs.live.mark_live.Given as goal

abbrev pub invariant-loop-place : goal.invariant-loop-place
invariant-loop-place l = IsMarked l.cells l.initial.flags l.flags l.place
