use Rattle.std.proofs.Common.{refl}
use Rattle.ob_tree_types.specs.declared.tree.Expr.TheVariants as node
use Rattle.ob_grammar.specs.declared.form.Form.TheVariants.{Target}
use Rattle.ob_grammar.specs.Taking.{piece}
use Rattle.ob_descent_rules.specs.Turns.{key_in}
use Rattle.ob_descent_rules.proofs.Keeping.{made_behind}
use Rattle.ob_descent_rules.proofs.rules.Rules.index.Goals as goal

pub returns : goal.returns
returns g c =
    made_behind (key_in c.args.self.now.depth c.args.tokens.now) (λ k. piece (node.Index c.args.object.piece.tree k.tree) Target) c.in_ok-key.key _ _ _
    c.in_ok-key.ensures refl c.kept_index.ensures
