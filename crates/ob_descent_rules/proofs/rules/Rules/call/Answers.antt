use Rattle.std.proofs.Common.{◌+◌, ap, map, max, min, ◌∙◌}
use Rattle.ob_tree_types.specs.declared.tree.Expr.TheVariants as node
use Rattle.ob_tree.specs.Depth.{deepest, expr_depth}
use Rattle.ob_grammar.specs.declared.form.Form.TheVariants.{Other}
use Rattle.ob_grammar.specs.Reading.{list_of}
use Rattle.ob_grammar.specs.Taking.{piece, closes_parenthesis}
use Rattle.ob_descent_rules.specs.Inside.{depth_limit, inner, nested}
use Rattle.ob_descent_rules.proofs.Bounds.{above_two, call_depth}
use Rattle.ob_descent_rules.proofs.Keeping.{made_behind}
use Rattle.ob_descent_rules.proofs.rules.Rules.call.Goals as goal

pub kept-requires : goal.kept-requires
kept-requires g c =
    above_two (expr_depth c.args.callee.piece.tree) (deepest (map expr_depth c.in_ok-arguments.arguments)) c.args.callee.depth c.depth_in_exprs.result c.max.result _ _
    (call_depth c.in_ok-callee.callee c.in_ok-arguments.arguments ∙ ap (λ a. 1 + max (expr_depth a) (deepest (map expr_depth c.in_ok-arguments.arguments))) c.in_ok-callee.ensures)
    c.args.callee.exact (c.depth_in_exprs.ensures ∙ ap (λ xs. min (deepest (map expr_depth xs)) 4294967295) c.as_slice.ensures) c.max.ensures c.saturating_add-depth.ensures

pub returns : goal.returns
returns g c =
    made_behind (list_of depth_limit (inner c.args.self.now.depth) (nested c.args.self.now.depth) closes_parenthesis c.args.tokens.now)
    (λ items. piece (node.Call c.args.callee.piece.tree items) Other) c.in_ok-arguments.arguments _ _ _
    c.in_ok-arguments.ensures (ap (λ a. piece (node.Call a c.in_ok-arguments.arguments) Other) c.in_ok-callee.ensures) c.kept.ensures
