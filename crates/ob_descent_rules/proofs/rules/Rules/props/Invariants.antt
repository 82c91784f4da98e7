use Rattle.std.proofs.Common.{◌≡◌, ◌-◌, length}
use Rattle.ob_grammar.specs.Reading.{props_from}
use Rattle.ob_descent_rules.specs.Inside.{depth_limit, inner, nested}
use Rattle.ob_descent_tokens.proofs.CommaLists.{in_front}
use Rattle.ob_descent_rules.proofs.rules.Rules.props.Given as goal

abbrev pub invariant-loop-turn : goal.invariant-loop-turn
invariant-loop-turn g l = props_from depth_limit (inner l.self.depth) (nested l.self.depth) (length l.fn.tokens) l.fn.tokens ≡ in_front l.found (props_from depth_limit (inner l.self.depth) (nested l.self.depth) (l._turn-end - l._turn) l.tokens)
