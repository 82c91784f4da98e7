use Rattle.ob_lex.proofs.Cuts.{one_division}
use Rattle.ob_lex.proofs.one_division.Goals as goal

pub returns : goal.returns
returns c = λ text tokens others a b. one_division text tokens others a b
