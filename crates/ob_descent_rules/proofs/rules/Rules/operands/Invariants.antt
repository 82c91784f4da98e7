use Rattle.std.proofs.Common.{◌≡◌, ◌-◌, length}
use Rattle.ob_grammar.specs.Grammar.{tighter}
use Rattle.ob_grammar.specs.Reading.{operands_from}
use Rattle.ob_descent_rules.specs.Inside.{depth_limit, inner, nested}
use Rattle.ob_descent_rules.proofs.rules.Rules.operands.Given as goal

abbrev pub invariant-loop-turn : goal.invariant-loop-turn
invariant-loop-turn g l = operands_from depth_limit (inner l.self.depth) (nested l.self.depth) (inner l.self.depth (tighter l.level)) l.least (length l.fn.tokens) l.fn.first l.fn.tokens
    ≡ operands_from depth_limit (inner l.self.depth) (nested l.self.depth) (inner l.self.depth (tighter l.level)) l.least (l._turn-end - l._turn) l.made.piece l.tokens
