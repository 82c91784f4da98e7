use Rattle.ob_worlds.proofs.RunningLaws.{running}
use Rattle.ob_worlds.proofs.laws.current_runs_have_their_inputs.Goals as goal

pub returns : goal.returns
returns g c = λ E ok S W net since runs. running E ok S W net since runs
