use Rattle.ob_worlds.proofs.StillLaws.{unmarked_is_still}
use Rattle.ob_worlds.proofs.laws.unmarked_variables_are_still.Goals as goal

pub returns : goal.returns
returns g c = λ E S W marked marks l h. unmarked_is_still E S W marked marks l h
