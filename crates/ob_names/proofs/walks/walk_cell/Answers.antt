use Rattle.std.proofs.Common.{rules, ap}
use Rattle.ob_names.proofs.Running.{none}
use Rattle.ob_names.proofs.walks.walk_cell.Goals as goal

pub returns-in-Empty : goal.returns-in-Empty
returns-in-Empty c = none _ _ (search rules)

pub returns-in-Empty-2 : goal.returns-in-Empty-2
returns-in-Empty-2 c = none _ _ (search rules)
