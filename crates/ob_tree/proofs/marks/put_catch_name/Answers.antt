use Rattle.std.proofs.Common.{rules}
use Rattle.ob_tree.proofs.Spacing.{nothing, three}
use Rattle.ob_tree.proofs.marks.put_catch_name.Goals as goal

pub returns-in-None : goal.returns-in-None
returns-in-None c = nothing _ _ (search rules)

pub returns-in_ok-put_mark-in-Some-2 : goal.returns-in_ok-put_mark-in-Some-2
returns-in_ok-put_mark-in-Some-2 c = three _ _ _ _ _ _ _ _ c.in_ok-put_mark-in-Some.ensures c.in_ok-put_name-in-Some.ensures c.in_ok-put_mark-in-Some-2.ensures (search rules)
