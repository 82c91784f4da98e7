use Rattle.std.proofs.Common.{ap}
use Rattle.ob_tree.specs.Walks.{target_if_there}
use Rattle.ob_names.proofs.Running.{none}
use Rattle.ob_names.proofs.walks.refer_target.Goals as goal

pub returns-in-None : goal.returns-in-None
returns-in-None c = none _ _ (ap target_if_there c.in-None.is)
