use Rattle.std.proofs.Common.{ap, ◌∙◌, subst}
use Rattle.ob_tree.specs.Depth.{expr_depth}
use Rattle.ob_grammar.specs.declared.form.Form.TheVariants.{Target}
use Rattle.ob_grammar.specs.Taking.{piece}
use Rattle.ob_descent_rules.specs.Turns.{Keeps}
use Rattle.ob_descent_rules.proofs.Bounds.{above_two, index_depth}
use Rattle.ob_descent_rules.proofs.primary.kept_index.Goals as goal

pub kept-requires : goal.kept-requires
kept-requires c =
    above_two (expr_depth c.args.object.piece.tree) (expr_depth c.args.key) c.args.object.depth c.depth_of_expr.result c.max.result _ _
    (ap expr_depth c.in_ok-tree.ensures ∙ index_depth c.args.object.piece.tree c.args.key) c.args.object.exact c.depth_of_expr.ensures c.max.ensures c.saturating_add-depth.ensures

pub returns : goal.returns
returns c = subst (λ p. Keeps p c.kept.result) (ap (λ a. piece a Target) c.in_ok-tree.ensures) c.kept.ensures
