use Rattle.ob_code.proofs.Once.{calls_same}
use Rattle.ob_code.proofs.laws.calls_come_to_one.Goals as goal

pub returns : goal.returns
returns c = calls_same
