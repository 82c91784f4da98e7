use Rattle.std.proofs.Common.{rules}
use Rattle.ob_tree.proofs.Spacing.{nothing, two}
use Rattle.ob_tree.proofs.marks.put_target.Goals as goal

pub returns-in-None : goal.returns-in-None
returns-in-None c = nothing _ _ (search rules)

pub returns-in_ok-put_mark-in-Some : goal.returns-in_ok-put_mark-in-Some
returns-in_ok-put_mark-in-Some c = two _ _ _ _ _ _ c.in_ok-put_name-in-Some.ensures c.in_ok-put_mark-in-Some.ensures (search rules)
