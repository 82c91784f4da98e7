use Rattle.std.proofs.Common.{rules}
use Rattle.ob_tree.proofs.Spacing.{nothing}
use Rattle.ob_tree.proofs.marks.put_optional_name.Goals as goal

pub returns-in-None : goal.returns-in-None
returns-in-None c = nothing _ _ (search rules)
