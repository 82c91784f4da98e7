use Rattle.ob_session.proofs.Firsts.{right_from}
use Rattle.ob_session.proofs.run.session_main.Goals as goal

pub returns-then-is_run-clause-right : goal.returns-then-is_run-clause-right
returns-then-is_run-clause-right g c words = right_from _ _ _ _ _ _ _ _ _ c.run.ensures.ends c.run.ensures.read_fault c.run.ensures.write_fault
