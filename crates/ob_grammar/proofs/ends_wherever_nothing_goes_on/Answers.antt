use Rattle.ob_grammar.proofs.Semicolons.{ends_wherever_nothing_goes_on}
use Rattle.ob_grammar.proofs.ends_wherever_nothing_goes_on.Goals as goal

pub returns : goal.returns
returns c = λ front more t a f d may breaks nothing. ends_wherever_nothing_goes_on front more t a f d may breaks nothing
