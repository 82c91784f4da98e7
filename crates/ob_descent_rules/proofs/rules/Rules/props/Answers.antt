use Rattle.std.proofs.Common.{◌≡◌, ◌+◌, ◌-◌, [], None, Some, length, ap, sym, ◌∙◌, rules, arith}
use Rattle.std.proofs.lemmas.Grind.{common_steps}
use Rattle.ob_grammar.specs.Reading.{prop_of, props_from}
use Rattle.ob_grammar.specs.Taking.{closes_brace}
use Rattle.ob_descent_tokens.specs.Lists.{list_goes_on}
use Rattle.ob_descent_rules.specs.Inside.{depth_limit, inner, nested}
use Rattle.ob_descent_tokens.proofs.CommaLists.{in_front, nothing_before}
use Rattle.ob_descent_rules.proofs.Counts.{one_more, no_more}
use Rattle.ob_descent_rules.proofs.ListTurns.{props_closed, props_no_item, props_last, props_one, props_stop}
use Rattle.ob_descent_rules.proofs.rules.Rules.props.Goals as goal

pub loop-turn-init : goal.loop-turn-init
loop-turn-init g c =
    let all : length c.args.tokens.now ≡ c.len-turn-end.result - 0 = omega arith in
    nothing_before (props_from depth_limit (inner c.args.self.now.depth) (nested c.args.self.now.depth) (length c.args.tokens.now) c.args.tokens.now)
    ∙ ap (λ n. in_front [] (props_from depth_limit (inner c.args.self.now.depth) (nested c.args.self.now.depth) n c.args.tokens.now)) all
    ∙ ap (λ xs. in_front xs (props_from depth_limit (inner c.args.self.now.depth) (nested c.args.self.now.depth) (c.len-turn-end.result - 0) c.args.tokens.now)) (sym c.new-found.ensures)

pub returns-then-take : goal.returns-then-take
returns-then-take g c =
    one_more (λ n. in_front c.loop-turn.found (props_from depth_limit (inner c.args.self.now.depth) (nested c.args.self.now.depth) n c.loop-turn.tokens)) _ c.loop-turn._turn c.loop-turn-test.true c.loop-turn.invariant
    ∙ props_closed depth_limit (inner c.args.self.now.depth) (nested c.args.self.now.depth) _ c.loop-turn.found c.loop-turn.tokens _ (search rules)

pub returns-in_err-prop : goal.returns-in_err-prop
returns-in_err-prop g c =
    let same : c.take.new.self ≡ c.loop-turn.tokens = search rules in
    let none = λ (h : prop_of depth_limit (inner c.args.self.now.depth) (nested c.args.self.now.depth) c.take.new.self ≡ None).
    one_more (λ n. in_front c.loop-turn.found (props_from depth_limit (inner c.args.self.now.depth) (nested c.args.self.now.depth) n c.loop-turn.tokens)) _ c.loop-turn._turn c.loop-turn-test.true c.loop-turn.invariant
    ∙ props_no_item depth_limit (inner c.args.self.now.depth) (nested c.args.self.now.depth) _ c.loop-turn.found c.loop-turn.tokens (search rules) (ap (prop_of depth_limit (inner c.args.self.now.depth) (nested c.args.self.now.depth)) (sym same) ∙ h) in
    first_of (search (rules, none), grind (arith, common_steps, none))

pub returns-in_err-more : goal.returns-in_err-more
returns-in_err-more g c =
    let same : c.take.new.self ≡ c.loop-turn.tokens = search rules in
    let none = λ (h : list_goes_on closes_brace c.prop.new.tokens ≡ None).
    one_more (λ n. in_front c.loop-turn.found (props_from depth_limit (inner c.args.self.now.depth) (nested c.args.self.now.depth) n c.loop-turn.tokens)) _ c.loop-turn._turn c.loop-turn-test.true c.loop-turn.invariant
    ∙ props_stop depth_limit (inner c.args.self.now.depth) (nested c.args.self.now.depth) _ c.loop-turn.found c.loop-turn.tokens c.in_ok-prop.prop c.prop.new.tokens (search rules) (ap (prop_of depth_limit (inner c.args.self.now.depth) (nested c.args.self.now.depth)) (sym same) ∙ c.in_ok-prop.ensures) h in
    first_of (search (rules, none), grind (arith, common_steps, none))

pub returns-then-not-more : goal.returns-then-not-more
returns-then-not-more g c =
    let same : c.take.new.self ≡ c.loop-turn.tokens = search rules in
    one_more (λ n. in_front c.loop-turn.found (props_from depth_limit (inner c.args.self.now.depth) (nested c.args.self.now.depth) n c.loop-turn.tokens)) _ c.loop-turn._turn c.loop-turn-test.true c.loop-turn.invariant
    ∙ props_last depth_limit (inner c.args.self.now.depth) (nested c.args.self.now.depth) _ c.loop-turn.found c.loop-turn.tokens c.in_ok-prop.prop c.prop.new.tokens (search rules) (ap (prop_of depth_limit (inner c.args.self.now.depth) (nested c.args.self.now.depth)) (sym same) ∙ c.in_ok-prop.ensures) c.goes_on.new.self (search rules)
    ∙ ap (λ xs. Some (xs, c.goes_on.new.self)) (sym c.in_ok-push.ensures.ok)

pub loop-turn-preserved : goal.loop-turn-preserved
loop-turn-preserved g c =
    let same : c.take.new.self ≡ c.loop-turn.tokens = search rules in
    one_more (λ n. in_front c.loop-turn.found (props_from depth_limit (inner c.args.self.now.depth) (nested c.args.self.now.depth) n c.loop-turn.tokens)) _ c.loop-turn._turn c.loop-turn-test.true c.loop-turn.invariant
    ∙ props_one depth_limit (inner c.args.self.now.depth) (nested c.args.self.now.depth) _ c.loop-turn.found c.loop-turn.tokens c.in_ok-prop.prop c.prop.new.tokens (search rules) (ap (prop_of depth_limit (inner c.args.self.now.depth) (nested c.args.self.now.depth)) (sym same) ∙ c.in_ok-prop.ensures) c.goes_on.new.self (search rules)
    ∙ ap (λ xs. in_front xs (props_from depth_limit (inner c.args.self.now.depth) (nested c.args.self.now.depth) (c.len-turn-end.result - (c.loop-turn._turn + 1)) c.goes_on.new.self)) (sym c.in_ok-push.ensures.ok)

pub returns : goal.returns
unfolding props_from
returns g c = λ other.
    no_more (λ n. in_front c.loop-turn.found (props_from depth_limit (inner c.args.self.now.depth) (nested c.args.self.now.depth) n c.loop-turn.tokens)) _ c.loop-turn._turn c.loop-turn-test.false c.loop-turn.invariant
