use Rattle.std.proofs.Common.{rules}
use Rattle.ob_tree.proofs.Spacing.{nothing}
use Rattle.ob_tree.proofs.marks.put_comma.Goals as goal

pub returns-then-place-eq0 : goal.returns-then-place-eq0
returns-then-place-eq0 c = nothing _ _ (search rules)
