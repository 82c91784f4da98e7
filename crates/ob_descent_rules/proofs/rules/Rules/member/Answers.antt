use Rattle.std.proofs.Common.{◌+◌, ap, ◌∙◌}
use Rattle.ob_tree_types.specs.declared.tree.Expr.TheVariants as node
use Rattle.ob_tree.specs.Depth.{expr_depth}
use Rattle.ob_grammar.specs.declared.form.Form.TheVariants.{Target}
use Rattle.ob_grammar.specs.Marks.{word_of}
use Rattle.ob_grammar.specs.Taking.{one, piece}
use Rattle.ob_descent_rules.proofs.Bounds.{above_one, member_depth}
use Rattle.ob_descent_rules.proofs.Keeping.{made_behind}
use Rattle.ob_descent_rules.proofs.rules.Rules.member.Goals as goal

pub kept-requires : goal.kept-requires
kept-requires g c =
    above_one (expr_depth c.args.object.piece.tree) c.args.object.depth _ _
    (member_depth c.in_ok-object.object c.in_ok-word.word ∙ ap (λ a. 1 + expr_depth a) c.in_ok-object.ensures) c.args.object.exact c.saturating_add-depth.ensures

pub returns : goal.returns
returns g c =
    made_behind (one word_of c.args.tokens.now) (λ x. piece (node.Member c.args.object.piece.tree x) Target) c.in_ok-word.word _ _ _
    c.in_ok-word.ensures (ap (λ a. piece (node.Member a c.in_ok-word.word) Target) c.in_ok-object.ensures) c.kept.ensures
