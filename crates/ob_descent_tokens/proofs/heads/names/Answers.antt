use Rattle.std.proofs.Common.{◌≡◌, ◌∷◌, ap, ◌∙◌, rules}
use Rattle.ob_grammar.specs.Taking.{names, name_of}
use Rattle.ob_descent_tokens.proofs.ParameterNames.{in_front, name_alone, last_name, one_name, name_before_other, no_more_names, no_name}
use Rattle.ob_descent_tokens.proofs.heads.names.Goals as goal

pub returns-in_default-next : goal.returns-in_default-next
returns-in_default-next c =
    c.loop-token.invariant ∙ ap (λ ts. in_front c.loop-token.found (names ts)) (c.in-Some.ensures ∙ ap (λ ts. c.in-Some.token.now ∷ ts) c.in_default-next.ensures.0)
    ∙ name_alone c.loop-token.found c.in-Some.token.now c.in-Name.name c.in-Name.is

pub returns-then-is : goal.returns-then-is
returns-then-is c =
    let e = c.loop-token.invariant ∙ ap (λ ts. in_front c.loop-token.found (names ts)) (c.in-Some.ensures ∙ ap (λ ts. c.in-Some.token.now ∷ ts) c.in-Some-next.ensures)
    ∙ last_name c.loop-token.found c.in-Some.token.now c.in-Some-next.after.now c.next-in-Name.new.self c.in-Name.name c.in-Name.is (search rules) in
    cc (c.in_ok-push-in-Name.ensures.ok, c.in_ok-copy-in-Name.ensures)

pub returns-then-not-is : goal.returns-then-not-is
returns-then-not-is c =
    c.loop-token.invariant ∙ ap (λ ts. in_front c.loop-token.found (names ts)) (c.in-Some.ensures ∙ ap (λ ts. c.in-Some.token.now ∷ ts) c.in-Some-next.ensures)
    ∙ name_before_other c.loop-token.found c.in-Some.token.now c.in-Some-next.after.now c.next-in-Name.new.self c.in-Name.name c.in-Name.is (search rules) (search rules)

pub loop-token-preserved : goal.loop-token-preserved
loop-token-preserved c =
    let e = c.loop-token.invariant ∙ ap (λ ts. in_front c.loop-token.found (names ts)) (c.in-Some.ensures ∙ ap (λ ts. c.in-Some.token.now ∷ ts) c.in-Some-next.ensures)
    ∙ one_name c.loop-token.found c.in-Some.token.now c.in-Some-next.after.now c.next-in-Name.new.self c.in-Name.name c.in-Name.is (search rules) (search rules) in
    cc (c.in_ok-push-in-Name.ensures.ok, c.in_ok-copy-in-Name.ensures)

pub returns-then-is-2 : goal.returns-then-is-2
unfolding name_of
returns-then-is-2 c =
    c.loop-token.invariant ∙ ap (λ ts. in_front c.loop-token.found (names ts)) c.in-Some.ensures
    ∙ no_more_names c.loop-token.found c.in-Some.token.now c.next.new.self (search rules) (search rules)

pub returns-in_default-kind : goal.returns-in_default-kind
unfolding name_of
returns-in_default-kind c =
    c.loop-token.invariant ∙ ap (λ ts. in_front c.loop-token.found (names ts)) c.in-Some.ensures
    ∙ no_name c.loop-token.found c.in-Some.token.now c.next.new.self (search rules) (search rules)
