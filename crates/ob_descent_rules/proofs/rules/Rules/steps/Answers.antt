use Rattle.std.proofs.Common.{◌≡◌, ◌-◌, ◌+◌, None, length, ap, ◌∙◌, rules, arith}
use Rattle.std.proofs.lemmas.Grind.{common_steps}
use Rattle.ob_grammar.specs.Reading.{steps_from}
use Rattle.ob_grammar.specs.Taking.{◌>>=◌}
use Rattle.ob_descent_rules.specs.Inside.{depth_limit, inner, nested}
use Rattle.ob_descent_rules.specs.Turns.{step_of}
use Rattle.ob_descent_rules.proofs.Counts.{one_more, no_more}
use Rattle.ob_descent_rules.proofs.Steps.{one_step, no_step}
use Rattle.ob_descent_rules.proofs.rules.Rules.steps.Goals as goal

pub returns-then-not-steps_on : goal.returns-then-not-steps_on
returns-then-not-steps_on g c = no_step c.args.self.now.depth (length c.args.tokens.now) c.args.first c.args.tokens.now (search rules)

pub returns-then-not-steps_on-2 : goal.returns-then-not-steps_on-2
returns-then-not-steps_on-2 g c =
    c.loop-turn.invariant ∙ no_step c.args.self.now.depth _ c.loop-turn.made.piece c.loop-turn.tokens (search rules)

pub returns-in_err-made : goal.returns-in_err-made
returns-in_err-made g c =
    let none = λ (h : step_of c.args.self.now.depth c.loop-turn.made.piece.tree c.loop-turn.tokens ≡ None).
    one_more (λ n. steps_from depth_limit (inner c.args.self.now.depth) (nested c.args.self.now.depth) n c.loop-turn.made.piece c.loop-turn.tokens) _ c.loop-turn._turn c.loop-turn-test.true c.loop-turn.invariant
    ∙ one_step c.args.self.now.depth (c.len-turn-end.result - (c.loop-turn._turn + 1)) c.loop-turn.made.piece c.loop-turn.tokens (search rules) ∙ ap (λ r. r >>= steps_from depth_limit (inner c.args.self.now.depth) (nested c.args.self.now.depth) (c.len-turn-end.result - (c.loop-turn._turn + 1))) h in
    first_of (search (rules, none), grind (arith, common_steps, none))

pub loop-turn-preserved : goal.loop-turn-preserved
loop-turn-preserved g c =
    one_more (λ n. steps_from depth_limit (inner c.args.self.now.depth) (nested c.args.self.now.depth) n c.loop-turn.made.piece c.loop-turn.tokens) _ c.loop-turn._turn c.loop-turn-test.true c.loop-turn.invariant
    ∙ one_step c.args.self.now.depth (c.len-turn-end.result - (c.loop-turn._turn + 1)) c.loop-turn.made.piece c.loop-turn.tokens (search rules) ∙ ap (λ r. r >>= steps_from depth_limit (inner c.args.self.now.depth) (nested c.args.self.now.depth) (c.len-turn-end.result - (c.loop-turn._turn + 1))) c.in_ok-made.ensures

pub returns : goal.returns
unfolding steps_from
returns g c =
    no_more (λ n. steps_from depth_limit (inner c.args.self.now.depth) (nested c.args.self.now.depth) n c.loop-turn.made.piece c.loop-turn.tokens) _ c.loop-turn._turn c.loop-turn-test.false c.loop-turn.invariant
