use Rattle.std.proofs.Common.{refl}
use Rattle.ob_values.specs.Sound.{AsText}
use Rattle.ob_text_methods.proofs.errors.literal.Goals as goal

pub returns-in-Ok-clause-sound : goal.returns-in-Ok-clause-sound
returns-in-Ok-clause-sound c = c.in-Ok.ensures.sound AsText refl
