use Rattle.ob_inputs.proofs.ValueLaws.{alone}
use Rattle.ob_inputs.proofs.laws.values_are_their_equation.Goals as goal

pub returns : goal.returns
returns g c = λ same test nodes ins only stop step looks f meets v. alone same test nodes ins only stop step looks f meets v
