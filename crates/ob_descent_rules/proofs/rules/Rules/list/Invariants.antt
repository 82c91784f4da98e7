use Rattle.std.proofs.Common.{◌≡◌, ◌-◌, length}
use Rattle.ob_grammar.specs.Reading.{list_from}
use Rattle.ob_descent_tokens.specs.Tests.{test_of}
use Rattle.ob_descent_rules.specs.Inside.{depth_limit, inner, nested}
use Rattle.ob_descent_tokens.proofs.CommaLists.{in_front}
use Rattle.ob_descent_rules.proofs.rules.Rules.list.Given as goal

abbrev pub invariant-loop-turn : goal.invariant-loop-turn
invariant-loop-turn g l = list_from depth_limit (inner l.self.depth) (nested l.self.depth) (test_of l.closes) (length l.fn.tokens) l.fn.tokens ≡ in_front l.found (list_from depth_limit (inner l.self.depth) (nested l.self.depth) (test_of l.closes) (l._turn-end - l._turn) l.tokens)
