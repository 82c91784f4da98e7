use Rattle.std.proofs.Common.{◌≡◌, ◌-◌, None, length, ap, sym, ◌∙◌, rules, arith}
use Rattle.std.proofs.lemmas.Grind.{common_steps}
use Rattle.ob_grammar.specs.declared.form.Level.TheVariants as level
use Rattle.ob_descent_rules.specs.Inside.{nested}
use Rattle.ob_descent_rules.proofs.ItemTurns.{items_begin, items_closed, no_item_there, one_more_item, no_item_left}
use Rattle.ob_descent_rules.proofs.rules.Rules.items.Goals as goal

pub loop-turn-init : goal.loop-turn-init
loop-turn-init g c =
    let all : length c.args.tokens.now ≡ c.len-turn-end.result - 0 = omega arith in
    items_begin c.args.self.now.depth (c.len-turn-end.result - 0) _ c.args.tokens.now c.new-found.ensures all

pub returns-then-take : goal.returns-then-take
returns-then-take g c =
    items_closed c.args.self.now.depth _ c.loop-turn._turn c.loop-turn.found c.loop-turn.tokens _ c.loop-turn-test.true c.loop-turn.invariant _ (search rules)

pub returns-in_err-item : goal.returns-in_err-item
returns-in_err-item g c =
    let same : c.take.new.self ≡ c.loop-turn.tokens = search rules in
    let none = λ (h : nested c.args.self.now.depth level.Item c.take.new.self ≡ None).
    no_item_there c.args.self.now.depth _ c.loop-turn._turn c.loop-turn.found c.loop-turn.tokens _ c.loop-turn-test.true c.loop-turn.invariant
    (search rules) (ap (nested c.args.self.now.depth level.Item) (sym same) ∙ h) in
    first_of (search (rules, none), grind (arith, common_steps, none))

pub loop-turn-preserved : goal.loop-turn-preserved
loop-turn-preserved g c =
    let same : c.take.new.self ≡ c.loop-turn.tokens = search rules in
    one_more_item c.args.self.now.depth _ c.loop-turn._turn c.loop-turn.found c.loop-turn.tokens _ c.loop-turn-test.true c.loop-turn.invariant
    c.in_ok-item.item c.statement_inside.new.tokens c.push.new.self (search rules) (ap (nested c.args.self.now.depth level.Item) (sym same) ∙ c.in_ok-item.ensures) c.in_ok-push.ensures.ok

pub returns : goal.returns
returns g c = λ other.
    no_item_left c.args.self.now.depth _ c.loop-turn._turn c.loop-turn.found c.loop-turn.tokens _ c.loop-turn-test.false c.loop-turn.invariant
