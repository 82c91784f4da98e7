use Rattle.std.proofs.Common.{rules}
use Rattle.ob_tree.proofs.Spacing.{nothing}
use Rattle.ob_tree.proofs.marks.put_star.Goals as goal

pub returns-in-false : goal.returns-in-false
returns-in-false c = nothing _ _ (search rules)
