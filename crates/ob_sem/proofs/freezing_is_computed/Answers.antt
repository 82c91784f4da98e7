use Rattle.ob_sem.proofs.FreezingLaws as laws
use Rattle.ob_sem.proofs.freezing_is_computed.Goals as goal

pub returns : goal.returns
returns c = laws.freezing_is_computed
