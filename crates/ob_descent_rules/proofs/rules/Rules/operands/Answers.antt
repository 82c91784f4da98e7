use Rattle.std.proofs.Common.{◌≡◌, ◌-◌, ◌+◌, None, false, length, ap, sym, ◌∙◌, rules, arith}
use Rattle.std.proofs.lemmas.Grind.{common_steps}
use Rattle.std.specs.Prelude.{nat_le}
use Rattle.ob_tree.specs.Depth.{expr_depth}
use Rattle.ob_grammar.specs.Grammar.{tighter}
use Rattle.ob_grammar.specs.Marks.{joined}
use Rattle.ob_grammar.specs.Reading.{operands_from}
use Rattle.ob_descent_rules.specs.Inside.{depth_limit, inner, nested}
use Rattle.ob_descent_rules.proofs.Counts.{one_more, no_more}
use Rattle.ob_descent_rules.proofs.Levels.{no_operator, one_operand, operand_too_deep, no_operand}
use Rattle.ob_descent_rules.proofs.rules.Rules.operands.Goals as goal

pub returns-then-is_none : goal.returns-then-is_none
returns-then-is_none g c = no_operator depth_limit (inner c.args.self.now.depth) (nested c.args.self.now.depth) (inner c.args.self.now.depth (tighter c.args.level)) c.args.least (length c.args.tokens.now) c.args.first c.args.tokens.now (search rules)

pub returns-in_default : goal.returns-in_default
returns-in_default g c =
    c.loop-turn.invariant ∙ no_operator depth_limit (inner c.args.self.now.depth) (nested c.args.self.now.depth) (inner c.args.self.now.depth (tighter c.args.level)) c.args.least _ c.loop-turn.made.piece c.loop-turn.tokens (search rules)

pub returns-in_err-right : goal.returns-in_err-right
returns-in_err-right g c =
    let none = λ (h : inner c.args.self.now.depth (tighter c.args.level) c.in-Some.after ≡ None).
    one_more (λ n. operands_from depth_limit (inner c.args.self.now.depth) (nested c.args.self.now.depth) (inner c.args.self.now.depth (tighter c.args.level)) c.args.least n c.loop-turn.made.piece c.loop-turn.tokens) _ c.loop-turn._turn c.loop-turn-test.true c.loop-turn.invariant
    ∙ no_operand depth_limit (inner c.args.self.now.depth) (nested c.args.self.now.depth) (inner c.args.self.now.depth (tighter c.args.level)) c.args.least _ c.loop-turn.made.piece c.in-Some.op c.loop-turn.tokens c.in-Some.after (search rules) h in
    first_of (search (rules, none), grind (arith, common_steps, none))

pub returns-in_err-made : goal.returns-in_err-made
returns-in_err-made g c =
    let none = λ (h : nat_le (expr_depth (joined c.in-Some.op c.loop-turn.made.piece.tree c.in_ok-right.right.tree)) depth_limit ≡ false).
    one_more (λ n. operands_from depth_limit (inner c.args.self.now.depth) (nested c.args.self.now.depth) (inner c.args.self.now.depth (tighter c.args.level)) c.args.least n c.loop-turn.made.piece c.loop-turn.tokens) _ c.loop-turn._turn c.loop-turn-test.true c.loop-turn.invariant
    ∙ operand_too_deep depth_limit (inner c.args.self.now.depth) (nested c.args.self.now.depth) (inner c.args.self.now.depth (tighter c.args.level)) c.args.least _ c.loop-turn.made.piece c.in_ok-right.right c.in-Some.op c.loop-turn.tokens c.in-Some.after c.nested.new.tokens (search rules) c.in_ok-right.ensures h in
    first_of (search (rules, none), grind (arith, common_steps, none))

pub loop-turn-preserved : goal.loop-turn-preserved
loop-turn-preserved g c =
    one_more (λ n. operands_from depth_limit (inner c.args.self.now.depth) (nested c.args.self.now.depth) (inner c.args.self.now.depth (tighter c.args.level)) c.args.least n c.loop-turn.made.piece c.loop-turn.tokens) _ c.loop-turn._turn c.loop-turn-test.true c.loop-turn.invariant
    ∙ one_operand depth_limit (inner c.args.self.now.depth) (nested c.args.self.now.depth) (inner c.args.self.now.depth (tighter c.args.level)) c.args.least (c.len-turn-end.result - (c.loop-turn._turn + 1)) c.loop-turn.made.piece c.in_ok-right.right c.in-Some.op c.loop-turn.tokens c.in-Some.after c.nested.new.tokens (search rules) c.in_ok-right.ensures c.in_ok-made.ensures.1
    ∙ ap (λ p. operands_from depth_limit (inner c.args.self.now.depth) (nested c.args.self.now.depth) (inner c.args.self.now.depth (tighter c.args.level)) c.args.least (c.len-turn-end.result - (c.loop-turn._turn + 1)) p c.nested.new.tokens) (sym c.in_ok-made.ensures.0)

pub returns : goal.returns
unfolding operands_from
returns g c =
    no_more (λ n. operands_from depth_limit (inner c.args.self.now.depth) (nested c.args.self.now.depth) (inner c.args.self.now.depth (tighter c.args.level)) c.args.least n c.loop-turn.made.piece c.loop-turn.tokens) _ c.loop-turn._turn c.loop-turn-test.false c.loop-turn.invariant
