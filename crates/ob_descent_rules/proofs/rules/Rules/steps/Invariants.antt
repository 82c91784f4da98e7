use Rattle.std.proofs.Common.{◌≡◌, ◌-◌, length}
use Rattle.ob_grammar.specs.Reading.{steps_from}
use Rattle.ob_descent_rules.specs.Inside.{depth_limit, inner, nested}
use Rattle.ob_descent_rules.proofs.rules.Rules.steps.Given as goal

abbrev pub invariant-loop-turn : goal.invariant-loop-turn
invariant-loop-turn g l = steps_from depth_limit (inner l.self.depth) (nested l.self.depth) (length l.fn.tokens) l.fn.first l.fn.tokens
    ≡ steps_from depth_limit (inner l.self.depth) (nested l.self.depth) (l._turn-end - l._turn) l.made.piece l.tokens
