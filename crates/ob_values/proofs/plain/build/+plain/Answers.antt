use Rattle.std.proofs.Common.{◌≡◌, IfOk, sym, subst, arith}
use Rattle.ob_values.proofs.BuildLemmas.{plain_from-leaf, plain_from-body}
use Rattle.ob_values.proofs.plain.build.+plain.Goals as goal

pub plain_from-returns-then-depth-eq0 : goal.plain_from-returns-then-depth-eq0
plain_from-returns-then-depth-eq0 t c =
    subst (λ o. IfOk c.plain_leaf.result (λ p. p ≡ o)) (sym (plain_from-leaf c.args.depth c.args.regions.now c.args.body.now c.if-depth-eq0.true)) c.plain_leaf.ensures

pub plain_from-returns-else-depth-eq0 : goal.plain_from-returns-else-depth-eq0
plain_from-returns-else-depth-eq0 t c =
    subst (λ o. IfOk c.plain_body.result (λ p. p ≡ o)) (sym (plain_from-body c.args.depth c.args.regions.now c.args.body.now (omega arith))) c.plain_body.ensures
