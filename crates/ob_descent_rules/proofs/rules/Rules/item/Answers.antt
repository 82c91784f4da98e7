use Rattle.std.proofs.Common.{◌≡◌, ◌∷◌, subst, sym, ◌∙◌, rules}
use Rattle.ob_descent_tokens.specs.Gives.{Gives}
use Rattle.ob_descent_rules.specs.declared.starts.Start.TheVariants as start
use Rattle.ob_descent_rules.proofs.StartTurns.{item_from, item_else}
use Rattle.ob_descent_rules.proofs.rules.Rules.item.Goals as goal

pub returns-in-Let : goal.returns-in-Let
returns-in-Let g c =
    let first : c.args.tokens.now ≡ c.in-Some.token.now ∷ c.in-Some.after = search rules in
    subst (λ q. Gives q c.declaration.result c.declaration.new.tokens) (sym (item_from c.args.self.now.depth c.in-Some.token.now c.args.tokens.now c.in-Some.after start.Let first (sym c.start_of-start.ensures ∙ c.in-Let.is))) c.declaration.ensures

pub returns-in-Const : goal.returns-in-Const
returns-in-Const g c =
    let first : c.args.tokens.now ≡ c.in-Some.token.now ∷ c.in-Some.after = search rules in
    subst (λ q. Gives q c.declaration-in-Const.result c.declaration-in-Const.new.tokens) (sym (item_from c.args.self.now.depth c.in-Some.token.now c.args.tokens.now c.in-Some.after start.Const first (sym c.start_of-start.ensures ∙ c.in-Const.is))) c.declaration-in-Const.ensures

pub returns-in-Function : goal.returns-in-Function
returns-in-Function g c =
    let first : c.args.tokens.now ≡ c.in-Some.token.now ∷ c.in-Some.after = search rules in
    subst (λ q. Gives q c.declared_function.result c.declared_function.new.tokens) (sym (item_from c.args.self.now.depth c.in-Some.token.now c.args.tokens.now c.in-Some.after start.Function first (sym c.start_of-start.ensures ∙ c.in-Function.is))) c.declared_function.ensures

pub returns-in_default-start : goal.returns-in_default-start
returns-in_default-start g c =
    let first : c.args.tokens.now ≡ c.in-Some.token.now ∷ c.in-Some.after = search rules in
    subst (λ q. Gives q c.statement.result c.statement.new.tokens)
    (sym (item_else c.args.self.now.depth c.in-Some.token.now c.args.tokens.now c.in-Some.after c.start_of-start.result first (sym c.start_of-start.ensures) c.in_default-start.not-Let c.in_default-start.not-Const c.in_default-start.not-Function)) c.statement.ensures
