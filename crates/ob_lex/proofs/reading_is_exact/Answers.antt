use Rattle.ob_lex.proofs.Steps.{both_ways}
use Rattle.ob_lex.proofs.reading_is_exact.Goals as goal

pub returns : goal.returns
returns c = λ text tokens. both_ways text tokens
