use Rattle.std.proofs.Common.{◌≡◌, ◌-◌, None, length, rules, arith}
use Rattle.std.proofs.lemmas.Grind.{common_steps}
use Rattle.ob_grammar.specs.Reading.{decl_of, decls_of}
use Rattle.ob_descent_rules.specs.Inside.{depth_limit, inner, nested}
use Rattle.ob_descent_rules.proofs.DeclTurns.{decls_begin, no_decl, last_decl, one_more_decl, no_decl_left}
use Rattle.ob_descent_rules.proofs.rules.Rules.decls.Goals as goal

pub loop-turn-init : goal.loop-turn-init
loop-turn-init g c =
    let all : length c.args.tokens.now ≡ c.len-turn-end.result - 0 = omega arith in
    decls_begin c.args.self.now.depth (c.len-turn-end.result - 0) _ c.args.tokens.now c.new-found.ensures all

pub returns-in_err-one : goal.returns-in_err-one
unfolding decls_of
returns-in_err-one g c =
    let none = λ (h : decl_of depth_limit (inner c.args.self.now.depth) (nested c.args.self.now.depth) c.loop-turn.tokens ≡ None).
    no_decl c.args.self.now.depth _ c.loop-turn._turn c.loop-turn.found c.loop-turn.tokens _ c.loop-turn-test.true c.loop-turn.invariant h in
    first_of (search (rules, none), grind (arith, common_steps, none))

pub returns-then-not-take : goal.returns-then-not-take
unfolding decls_of
returns-then-not-take g c =
    let same : c.take.new.self ≡ c.decl.new.tokens = search rules in
    last_decl c.args.self.now.depth _ c.loop-turn._turn c.loop-turn.found c.loop-turn.tokens _ c.loop-turn-test.true c.loop-turn.invariant
    c.in_ok-one.one c.decl.new.tokens c.take.new.self c.push.new.self c.in_ok-one.ensures c.in_ok-push.ensures.ok (search rules) same

pub loop-turn-preserved : goal.loop-turn-preserved
loop-turn-preserved g c =
    one_more_decl c.args.self.now.depth _ c.loop-turn._turn c.loop-turn.found c.loop-turn.tokens _ c.loop-turn-test.true c.loop-turn.invariant
    c.in_ok-one.one c.decl.new.tokens c.take.new.self c.push.new.self c.in_ok-one.ensures c.in_ok-push.ensures.ok (search rules)

pub returns : goal.returns
unfolding decls_of
returns g c = λ other.
    no_decl_left c.args.self.now.depth _ c.loop-turn._turn c.loop-turn.found c.loop-turn.tokens _ c.loop-turn-test.false c.loop-turn.invariant
