use Rattle.ob_ops.proofs.PowerLemmas.{ranged-large_power}
use Rattle.ob_ops.proofs.numbers.large_power.Goals as goal

pub returns-then-n-ge64-clause-value : goal.returns-then-n-ge64-clause-value
returns-then-n-ge64-clause-value c = ranged-large_power _ _ c.requires c.if-n-ge64.true
