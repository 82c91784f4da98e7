use Rattle.std.proofs.Common.{◌≡◌, ◌+◌, ◌-◌, [], None, Some, length, ap, sym, ◌∙◌, rules, arith}
use Rattle.std.proofs.lemmas.Grind.{common_steps}
use Rattle.ob_grammar.specs.ReadingCells.{spec_of, specs_from}
use Rattle.ob_grammar.specs.Taking.{closes_brace}
use Rattle.ob_descent_tokens.specs.Lists.{list_goes_on}
use Rattle.ob_descent_tokens.proofs.CommaLists.{in_front, nothing_before}
use Rattle.ob_descent_rules.proofs.Counts.{one_more, no_more}
use Rattle.ob_descent.proofs.SpecTurns.{specs_left, specs_closed, no_spec, last_spec, one_more_spec, other_than_spec, no_spec_left}
use Rattle.ob_descent.proofs.imports.specs_inside.Goals as goal

pub loop-turn-init : goal.loop-turn-init
loop-turn-init c =
    let all : length c.args.tokens.now ≡ c.len-turn-end.result - 0 = omega arith in
    nothing_before (specs_from (length c.args.tokens.now) c.args.tokens.now)
    ∙ ap (λ n. in_front [] (specs_from n c.args.tokens.now)) all
    ∙ ap (λ xs. in_front xs (specs_from (c.len-turn-end.result - 0) c.args.tokens.now)) (sym c.new-found.ensures)

pub returns-then-take : goal.returns-then-take
returns-then-take c =
    one_more (specs_left c.loop-turn.found c.loop-turn.tokens) _ c.loop-turn._turn c.loop-turn-test.true c.loop-turn.invariant
    ∙ specs_closed _ c.loop-turn.found c.loop-turn.tokens _ (search rules)

pub returns-in_err-item : goal.returns-in_err-item
returns-in_err-item c =
    let same : c.take.new.self ≡ c.loop-turn.tokens = search rules in
    let none = λ (h : spec_of c.take.new.self ≡ None).
    one_more (specs_left c.loop-turn.found c.loop-turn.tokens) _ c.loop-turn._turn c.loop-turn-test.true c.loop-turn.invariant
    ∙ no_spec _ c.loop-turn.found c.loop-turn.tokens (search rules) (ap spec_of (sym same) ∙ h) in
    first_of (search (rules, none), grind (arith, common_steps, none))

pub returns-in_err-more : goal.returns-in_err-more
returns-in_err-more c =
    let same : c.take.new.self ≡ c.loop-turn.tokens = search rules in
    let none = λ (h : list_goes_on closes_brace c.spec.new.tokens ≡ None).
    one_more (specs_left c.loop-turn.found c.loop-turn.tokens) _ c.loop-turn._turn c.loop-turn-test.true c.loop-turn.invariant
    ∙ other_than_spec _ c.loop-turn.found c.loop-turn.tokens c.in_ok-item.item c.spec.new.tokens (search rules) (ap spec_of (sym same) ∙ c.in_ok-item.ensures) h in
    first_of (search (rules, none), grind (arith, common_steps, none))

pub returns-then-not-more : goal.returns-then-not-more
returns-then-not-more c =
    let same : c.take.new.self ≡ c.loop-turn.tokens = search rules in
    one_more (specs_left c.loop-turn.found c.loop-turn.tokens) _ c.loop-turn._turn c.loop-turn-test.true c.loop-turn.invariant
    ∙ last_spec _ c.loop-turn.found c.loop-turn.tokens c.in_ok-item.item c.spec.new.tokens (search rules) (ap spec_of (sym same) ∙ c.in_ok-item.ensures) c.goes_on.new.self (search rules)
    ∙ ap (λ xs. Some (xs, c.goes_on.new.self)) (sym c.in_ok-push.ensures.ok)

pub loop-turn-preserved : goal.loop-turn-preserved
loop-turn-preserved c =
    let same : c.take.new.self ≡ c.loop-turn.tokens = search rules in
    one_more (specs_left c.loop-turn.found c.loop-turn.tokens) _ c.loop-turn._turn c.loop-turn-test.true c.loop-turn.invariant
    ∙ one_more_spec _ c.loop-turn.found c.loop-turn.tokens c.in_ok-item.item c.spec.new.tokens (search rules) (ap spec_of (sym same) ∙ c.in_ok-item.ensures) c.goes_on.new.self (search rules)
    ∙ ap (λ xs. specs_left xs c.goes_on.new.self (c.len-turn-end.result - (c.loop-turn._turn + 1))) (sym c.in_ok-push.ensures.ok)

pub returns : goal.returns
returns c = λ other.
    no_more (specs_left c.loop-turn.found c.loop-turn.tokens) _ c.loop-turn._turn c.loop-turn-test.false c.loop-turn.invariant
    ∙ no_spec_left c.loop-turn.found c.loop-turn.tokens
