use Rattle.std.proofs.Common.{◌≡◌, ◌∷◌, subst, sym, ◌∙◌, rules}
use Rattle.ob_descent_tokens.specs.Gives.{Gives}
use Rattle.ob_descent_rules.proofs.StartTurns.{statement_block, statement_name, statement_let, statement_const, statement_expression, statement_else}
use Rattle.ob_descent_rules.proofs.rules.Rules.statement.Goals as goal

pub returns-in-Block : goal.returns-in-Block
returns-in-Block g c =
    let first : c.args.tokens.now ≡ c.in-Some.token.now ∷ c.in-Some.after = search rules in
    subst (λ q. Gives q c.block_statement.result c.block_statement.new.tokens) (sym (statement_block c.args.self.now.depth c.in-Some.token.now c.args.tokens.now c.in-Some.after first (sym c.start_of-start.ensures ∙ c.in-Block.is))) c.block_statement.ensures

pub returns-in-Name : goal.returns-in-Name
returns-in-Name g c =
    let first : c.args.tokens.now ≡ c.in-Some.token.now ∷ c.in-Some.after = search rules in
    subst (λ q. Gives q c.named.result c.named.new.tokens) (sym (statement_name c.args.self.now.depth c.in-Some.token.now c.args.tokens.now c.in-Some.after first (sym c.start_of-start.ensures ∙ c.in-Name.is))) c.named.ensures

pub returns-in-Let : goal.returns-in-Let
returns-in-Let g c =
    let first : c.args.tokens.now ≡ c.in-Some.token.now ∷ c.in-Some.after = search rules in
    subst (λ q. Gives q c.expression.result c.expression.new.tokens) (sym (statement_let c.args.self.now.depth c.in-Some.token.now c.args.tokens.now c.in-Some.after first (sym c.start_of-start.ensures ∙ c.in-Let.is))) c.expression.ensures

pub returns-in-Const : goal.returns-in-Const
returns-in-Const g c =
    let first : c.args.tokens.now ≡ c.in-Some.token.now ∷ c.in-Some.after = search rules in
    subst (λ q. Gives q c.expression-in-Const.result c.expression-in-Const.new.tokens) (sym (statement_const c.args.self.now.depth c.in-Some.token.now c.args.tokens.now c.in-Some.after first (sym c.start_of-start.ensures ∙ c.in-Const.is))) c.expression-in-Const.ensures

pub returns-in-Expression : goal.returns-in-Expression
returns-in-Expression g c =
    let first : c.args.tokens.now ≡ c.in-Some.token.now ∷ c.in-Some.after = search rules in
    subst (λ q. Gives q c.expression-in-Expression.result c.expression-in-Expression.new.tokens) (sym (statement_expression c.args.self.now.depth c.in-Some.token.now c.args.tokens.now c.in-Some.after first (sym c.start_of-start.ensures ∙ c.in-Expression.is))) c.expression-in-Expression.ensures

pub returns-in_default-start : goal.returns-in_default-start
returns-in_default-start g c =
    let first : c.args.tokens.now ≡ c.in-Some.token.now ∷ c.in-Some.after = search rules in
    subst (λ q. Gives q c.behind_start.result c.behind_start.new.tokens)
    (sym (statement_else c.args.self.now.depth c.in-Some.token.now c.args.tokens.now c.in-Some.after c.start_of-start.result first (sym c.start_of-start.ensures) c.in_default-start.not-Block c.in_default-start.not-Name c.in_default-start.not-Let c.in_default-start.not-Const c.in_default-start.not-Expression)) c.behind_start.ensures
