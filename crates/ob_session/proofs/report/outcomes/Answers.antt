use Rattle.std.proofs.Common.{arith}
use Rattle.ob_session.proofs.Steps.{outcomes-step}
use Rattle.ob_session.proofs.report.outcomes.Goals as goal

pub loop-cell-preserved : goal.loop-cell-preserved
loop-cell-preserved c = outcomes-step _ c.loop-cell.values.items _ _ c.loop-cell.cell-index c.cell-item.result (omega arith) c.cell-item.is (cc (c.in_ok-push.ensures.items, c.outcome-value.ensures, c.deref.ensures.value)) c.loop-cell.invariant
