use Rattle.ob_inputs.proofs.ValueLaws.{induct_test}
use Rattle.ob_inputs.proofs.laws.induction_over_inputs.Goals as goal

pub returns : goal.returns
returns g c = λ same test nodes ins only p round on v. induct_test same test nodes ins only p round on v
