use Rattle.ob_session.proofs.Firsts.{run_rest}
use Rattle.ob_session.proofs.run.run.Goals as goal

pub returns-in-Ok-clause-ends : goal.returns-in-Ok-clause-ends
returns-in-Ok-clause-ends g c = run_rest c.run_from.new.reader.kept _ _ _ _ c.run_from.result c.run_from.ensures.kept c.run_from.ensures.ends
