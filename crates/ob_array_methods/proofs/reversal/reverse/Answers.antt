use Rattle.ob_array_methods.proofs.ResultLemmas.{adds-itself}
use Rattle.ob_array_methods.proofs.reversal.reverse.Goals as goal

pub returns-clause-sound : goal.returns-clause-sound
returns-clause-sound c = adds-itself c.args.regions.now _ c.args.receiver c.in-Ok.ensures.kept
