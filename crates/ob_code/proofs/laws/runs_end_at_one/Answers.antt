use Rattle.ob_code.proofs.Once.{runs_same}
use Rattle.ob_code.proofs.laws.runs_end_at_one.Goals as goal

pub returns : goal.returns
returns c = runs_same
