use Rattle.std.proofs.Common.{◌≡◌, ◌∷◌, subst, sym, ◌∙◌, rules}
use Rattle.ob_descent_tokens.specs.Gives.{Gives}
use Rattle.ob_descent_rules.specs.declared.starts.Start.TheVariants as start
use Rattle.ob_descent_rules.proofs.StartTurns.{head_from, head_else}
use Rattle.ob_descent_rules.proofs.rules.Rules.head.Goals as goal

pub returns-in-Empty : goal.returns-in-Empty
returns-in-Empty g c =
    let first : c.args.tokens.now ≡ c.in-Some.token.now ∷ c.in-Some.after = search rules in
    head_from c.args.self.now.depth c.in-Some.token.now c.args.tokens.now c.in-Some.after start.Empty first (sym c.start_of-start.ensures ∙ c.in-Empty.is)

pub returns-in-Let : goal.returns-in-Let
returns-in-Let g c =
    let first : c.args.tokens.now ≡ c.in-Some.token.now ∷ c.in-Some.after = search rules in
    subst (λ q. Gives q c.declaring_head.result c.declaring_head.new.tokens) (sym (head_from c.args.self.now.depth c.in-Some.token.now c.args.tokens.now c.in-Some.after start.Let first (sym c.start_of-start.ensures ∙ c.in-Let.is))) c.declaring_head.ensures

pub returns-in-Const : goal.returns-in-Const
returns-in-Const g c =
    let first : c.args.tokens.now ≡ c.in-Some.token.now ∷ c.in-Some.after = search rules in
    subst (λ q. Gives q c.declaring_head-in-Const.result c.declaring_head-in-Const.new.tokens) (sym (head_from c.args.self.now.depth c.in-Some.token.now c.args.tokens.now c.in-Some.after start.Const first (sym c.start_of-start.ensures ∙ c.in-Const.is))) c.declaring_head-in-Const.ensures

pub returns-in_default-start : goal.returns-in_default-start
returns-in_default-start g c =
    let first : c.args.tokens.now ≡ c.in-Some.token.now ∷ c.in-Some.after = search rules in
    subst (λ q. Gives q c.expression_head.result c.expression_head.new.tokens)
    (sym (head_else c.args.self.now.depth c.in-Some.token.now c.args.tokens.now c.in-Some.after c.start_of-start.result first (sym c.start_of-start.ensures) c.in_default-start.not-Empty c.in_default-start.not-Let c.in_default-start.not-Const)) c.expression_head.ensures
