use Rattle.ob_worlds.proofs.TickLaws.{kept}
use Rattle.ob_worlds.proofs.laws.unmoved_variables_keep_their_outcomes.Goals as goal

pub returns : goal.returns
returns g c = λ E ok S W net since l there h. (kept E ok S W net since l there h).outcome
