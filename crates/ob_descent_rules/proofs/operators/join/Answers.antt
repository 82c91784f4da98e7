use Rattle.std.proofs.Common.{ap, ◌∙◌, subst}
use Rattle.ob_tree.specs.Depth.{expr_depth}
use Rattle.ob_grammar.specs.Marks.{joined}
use Rattle.ob_grammar.specs.Taking.{piece}
use Rattle.ob_descent_rules.specs.Turns.{Keeps}
use Rattle.ob_descent_rules.proofs.Bounds.{above_two, joined_depth}
use Rattle.ob_descent_rules.proofs.operators.join.Goals as goal

pub kept-requires : goal.kept-requires
kept-requires c =
    above_two (expr_depth c.args.left.piece.tree) (expr_depth c.args.right.tree) c.args.left.depth c.depth_of_expr.result c.max.result _ _
    (ap expr_depth c.in_ok-tree.ensures ∙ joined_depth c.args.op c.args.left.piece.tree c.args.right.tree)
    c.args.left.exact c.depth_of_expr.ensures c.max.ensures c.saturating_add-depth.ensures

pub returns : goal.returns
returns c =
    subst (λ p. Keeps p c.kept.result)
    (ap (λ a. piece a c.edge-form.result) c.in_ok-tree.ensures ∙ ap (λ f. piece (joined c.args.op c.args.left.piece.tree c.args.right.tree) f) c.edge-form.ensures)
    c.kept.ensures
