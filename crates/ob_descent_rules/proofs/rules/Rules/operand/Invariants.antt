use Rattle.std.proofs.Common.{◌≡◌, Some}
use Rattle.ob_grammar.specs.Grammar.{tighter}
use Rattle.ob_grammar.specs.Reading.{at}
use Rattle.ob_descent_rules.specs.Inside.{depth_limit, inner, nested}
use Rattle.ob_descent_rules.proofs.rules.Rules.operand.Given as goal

abbrev pub invariant-loop-below : goal.invariant-loop-below
invariant-loop-below g l = at depth_limit (inner l.self.depth) (nested l.self.depth) (tighter l.below) l.fn.tokens ≡ Some (l.piece, l.tokens)
