use Rattle.std.proofs.Common.{◌≡◌, ◌+◌, ◌-◌, [], None, Some, length, ap, sym, ◌∙◌, rules, arith}
use Rattle.std.proofs.lemmas.Grind.{common_steps}
use Rattle.ob_grammar.specs.Grammar.{whole}
use Rattle.ob_grammar.specs.Reading.{list_from, list_of}
use Rattle.ob_descent_tokens.specs.Lists.{list_goes_on}
use Rattle.ob_descent_tokens.specs.Tests.{test_of}
use Rattle.ob_descent_rules.specs.Inside.{depth_limit, inner, nested}
use Rattle.ob_descent_tokens.proofs.CommaLists.{in_front, nothing_before}
use Rattle.ob_descent_rules.proofs.Counts.{one_more, no_more}
use Rattle.ob_descent_rules.proofs.ListTurns.{list_closed, list_no_item, list_last, list_one, list_stops}
use Rattle.ob_descent_rules.proofs.rules.Rules.list.Goals as goal

pub loop-turn-init : goal.loop-turn-init
loop-turn-init g c =
    let all : length c.args.tokens.now ≡ c.len-turn-end.result - 0 = omega arith in
    nothing_before (list_from depth_limit (inner c.args.self.now.depth) (nested c.args.self.now.depth) (test_of c.args.closes) (length c.args.tokens.now) c.args.tokens.now)
    ∙ ap (λ n. in_front [] (list_from depth_limit (inner c.args.self.now.depth) (nested c.args.self.now.depth) (test_of c.args.closes) n c.args.tokens.now)) all
    ∙ ap (λ xs. in_front xs (list_from depth_limit (inner c.args.self.now.depth) (nested c.args.self.now.depth) (test_of c.args.closes) (c.len-turn-end.result - 0) c.args.tokens.now)) (sym c.new-found.ensures)

pub returns-then-take : goal.returns-then-take
unfolding list_of
returns-then-take g c =
    one_more (λ n. in_front c.loop-turn.found (list_from depth_limit (inner c.args.self.now.depth) (nested c.args.self.now.depth) (test_of c.args.closes) n c.loop-turn.tokens)) _ c.loop-turn._turn c.loop-turn-test.true c.loop-turn.invariant
    ∙ list_closed depth_limit (inner c.args.self.now.depth) (nested c.args.self.now.depth) (test_of c.args.closes) _ c.loop-turn.found c.loop-turn.tokens _ (search rules)

pub returns-in_err-item : goal.returns-in_err-item
unfolding list_of
returns-in_err-item g c =
    let same : c.take.new.self ≡ c.loop-turn.tokens = search rules in
    let none = λ (h : inner c.args.self.now.depth whole c.take.new.self ≡ None).
    one_more (λ n. in_front c.loop-turn.found (list_from depth_limit (inner c.args.self.now.depth) (nested c.args.self.now.depth) (test_of c.args.closes) n c.loop-turn.tokens)) _ c.loop-turn._turn c.loop-turn-test.true c.loop-turn.invariant
    ∙ list_no_item depth_limit (inner c.args.self.now.depth) (nested c.args.self.now.depth) (test_of c.args.closes) _ c.loop-turn.found c.loop-turn.tokens (search rules) (ap (inner c.args.self.now.depth whole) (sym same) ∙ h) in
    first_of (search (rules, none), grind (arith, common_steps, none))

pub returns-in_err-more : goal.returns-in_err-more
unfolding list_of
returns-in_err-more g c =
    let same : c.take.new.self ≡ c.loop-turn.tokens = search rules in
    let none = λ (h : list_goes_on (test_of c.args.closes) c.nested.new.tokens ≡ None).
    one_more (λ n. in_front c.loop-turn.found (list_from depth_limit (inner c.args.self.now.depth) (nested c.args.self.now.depth) (test_of c.args.closes) n c.loop-turn.tokens)) _ c.loop-turn._turn c.loop-turn-test.true c.loop-turn.invariant
    ∙ list_stops depth_limit (inner c.args.self.now.depth) (nested c.args.self.now.depth) (test_of c.args.closes) _ c.loop-turn.found c.loop-turn.tokens c.in_ok-item.item c.nested.new.tokens (search rules) (ap (inner c.args.self.now.depth whole) (sym same) ∙ c.in_ok-item.ensures) h in
    first_of (search (rules, none), grind (arith, common_steps, none))

pub returns-then-not-more : goal.returns-then-not-more
unfolding list_of
returns-then-not-more g c =
    let same : c.take.new.self ≡ c.loop-turn.tokens = search rules in
    one_more (λ n. in_front c.loop-turn.found (list_from depth_limit (inner c.args.self.now.depth) (nested c.args.self.now.depth) (test_of c.args.closes) n c.loop-turn.tokens)) _ c.loop-turn._turn c.loop-turn-test.true c.loop-turn.invariant
    ∙ list_last depth_limit (inner c.args.self.now.depth) (nested c.args.self.now.depth) (test_of c.args.closes) _ c.loop-turn.found c.loop-turn.tokens c.in_ok-item.item c.nested.new.tokens (search rules) (ap (inner c.args.self.now.depth whole) (sym same) ∙ c.in_ok-item.ensures) c.goes_on.new.self (search rules)
    ∙ ap (λ xs. Some (xs, c.goes_on.new.self)) (sym c.in_ok-push.ensures.ok)

pub loop-turn-preserved : goal.loop-turn-preserved
loop-turn-preserved g c =
    let same : c.take.new.self ≡ c.loop-turn.tokens = search rules in
    one_more (λ n. in_front c.loop-turn.found (list_from depth_limit (inner c.args.self.now.depth) (nested c.args.self.now.depth) (test_of c.args.closes) n c.loop-turn.tokens)) _ c.loop-turn._turn c.loop-turn-test.true c.loop-turn.invariant
    ∙ list_one depth_limit (inner c.args.self.now.depth) (nested c.args.self.now.depth) (test_of c.args.closes) _ c.loop-turn.found c.loop-turn.tokens c.in_ok-item.item c.nested.new.tokens (search rules) (ap (inner c.args.self.now.depth whole) (sym same) ∙ c.in_ok-item.ensures) c.goes_on.new.self (search rules)
    ∙ ap (λ xs. in_front xs (list_from depth_limit (inner c.args.self.now.depth) (nested c.args.self.now.depth) (test_of c.args.closes) (c.len-turn-end.result - (c.loop-turn._turn + 1)) c.goes_on.new.self)) (sym c.in_ok-push.ensures.ok)

pub returns : goal.returns
unfolding list_of list_from
returns g c = λ other.
    no_more (λ n. in_front c.loop-turn.found (list_from depth_limit (inner c.args.self.now.depth) (nested c.args.self.now.depth) (test_of c.args.closes) n c.loop-turn.tokens)) _ c.loop-turn._turn c.loop-turn-test.false c.loop-turn.invariant
