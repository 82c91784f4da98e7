use Rattle.ob_worlds.proofs.FreshLaws.{rows_are_fresh}
use Rattle.ob_worlds.proofs.laws.rows_have_fresh_outcomes.Goals as goal

pub returns : goal.returns
returns g c = λ E S W net l there h. rows_are_fresh E S W net l (there, h)
