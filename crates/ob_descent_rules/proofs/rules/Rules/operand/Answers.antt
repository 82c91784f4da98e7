use Rattle.std.proofs.Common.{◌≡◌, ◌+◌, None, length, ap, sym, ◌∙◌, rules, arith}
use Rattle.std.proofs.lemmas.Grind.{common_steps}
use Rattle.ob_grammar.specs.Grammar.{tighter}
use Rattle.ob_grammar.specs.Reading.{at, operands_from, power_of}
use Rattle.ob_descent_rules.specs.Inside.{depth_limit, inner, nested}
use Rattle.ob_descent_rules.proofs.Levels.{level_up, none_above}
use Rattle.ob_descent_rules.proofs.rules.Rules.operand.Goals as goal

pub returns-in_err-tightest : goal.returns-in_err-tightest
returns-in_err-tightest g c =
    let none = λ (h : power_of depth_limit (inner c.args.self.now.depth) (nested c.args.self.now.depth) c.args.tokens.now ≡ None). none_above depth_limit (inner c.args.self.now.depth) (nested c.args.self.now.depth) 0 c.args.level c.args.tokens.now (omega arith) h in
    first_of (search (rules, none), grind (arith, common_steps, none))

pub returns-in_err-piece : goal.returns-in_err-piece
returns-in_err-piece g c =
    let none = λ (h : operands_from depth_limit (inner c.args.self.now.depth) (nested c.args.self.now.depth) (inner c.args.self.now.depth (tighter c.loop-below.below)) (c.loop-below.below + 3) (length c.loop-below.tokens) c.loop-below.piece c.loop-below.tokens ≡ None).
    none_above depth_limit (inner c.args.self.now.depth) (nested c.args.self.now.depth) (c.loop-below.below + 1) c.args.level c.args.tokens.now (omega arith)
    (level_up depth_limit (inner c.args.self.now.depth) (nested c.args.self.now.depth) c.loop-below.below c.args.tokens.now c.loop-below.tokens c.loop-below.piece c.loop-below.invariant ∙ h) in
    first_of (search (rules, none), grind (arith, common_steps, none))

pub loop-below-preserved : goal.loop-below-preserved
loop-below-preserved g c =
    level_up depth_limit (inner c.args.self.now.depth) (nested c.args.self.now.depth) c.loop-below.below c.args.tokens.now c.loop-below.tokens c.loop-below.piece c.loop-below.invariant
    ∙ ap (λ n. operands_from depth_limit (inner c.args.self.now.depth) (nested c.args.self.now.depth) (inner c.args.self.now.depth (tighter c.loop-below.below)) (n + 3) (length c.loop-below.tokens) c.loop-below.piece c.loop-below.tokens) (sym c.from.ensures)
    ∙ c.in_ok-piece.ensures

pub returns : goal.returns
returns g c =
    let last : c.args.level ≡ c.loop-below.below = omega arith in
    ap (λ n. at depth_limit (inner c.args.self.now.depth) (nested c.args.self.now.depth) (tighter n) c.args.tokens.now) last ∙ c.loop-below.invariant
