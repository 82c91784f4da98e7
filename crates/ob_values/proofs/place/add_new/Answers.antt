use Rattle.std.proofs.Common.{subst}
use Rattle.ob_values.specs.Sound.{AddsItem}
use Rattle.ob_values.proofs.place.add_new.Goals as goal

pub returns-in-Ok-clause-sound : goal.returns-in-Ok-clause-sound
returns-in-Ok-clause-sound c = subst (AddsItem c.args.regions.now c.add.new.self c.args.body) c.in-Ok.ensures.key c.in-Ok.ensures.sound
