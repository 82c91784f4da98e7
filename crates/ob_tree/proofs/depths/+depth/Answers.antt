use Rattle.std.proofs.Common.{ap, ◌∙◌}
use Rattle.ob_tree.specs.Depth.{stmt_depth}
use Rattle.ob_tree.proofs.Capped.{both, one_more}
use Rattle.ob_tree.proofs.Folds.{for_depth}
use Rattle.ob_tree.proofs.depths.+depth.Goals as goal

pub depth_of_stmt-returns-in-For : goal.depth_of_stmt-returns-in-For
depth_of_stmt-returns-in-For t c =
    let turn = both _ _ _ _ _ _ c.depth_if_there-in-For.ensures c.depth_of_stmt-in-For.ensures c.greater-rest-in-For.ensures in
    let test = both _ _ _ _ _ _ c.depth_if_there-in-For-2.ensures turn c.greater-rest-in-For-2.ensures in
    let head = both _ _ _ _ _ _ c.depth_in_head.ensures test c.greater-in-For.ensures in
    let all = one_more _ _ _ _ head c.above-in-For.ensures in
    let whole = ap stmt_depth c.in-For.is ∙ for_depth c.in-For.head c.in-For.test c.in-For.update c.in-For.turn in
    cc (all, whole, c.get-in-For.ensures)
