use Rattle.std.proofs.Common.{◌≡◌, length}
use Rattle.ob_grammar.specs.Taking.{names}
use Rattle.ob_descent_tokens.proofs.ParameterNames.{in_front}
use Rattle.ob_descent_tokens.proofs.heads.names.Given as goal

abbrev pub invariant-loop-token : goal.invariant-loop-token
invariant-loop-token l = names l.fn.tokens ≡ in_front l.found (names l.tokens)

abbrev pub decreases-loop-token : goal.decreases-loop-token
decreases-loop-token l = length l.tokens
