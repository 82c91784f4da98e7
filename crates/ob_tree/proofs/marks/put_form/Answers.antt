use Rattle.std.proofs.Common.{rules}
use Rattle.ob_tree.proofs.Spacing.{nothing}
use Rattle.ob_tree.proofs.marks.put_form.Goals as goal

pub returns-in-Plain : goal.returns-in-Plain
returns-in-Plain c = nothing _ _ (search rules)
