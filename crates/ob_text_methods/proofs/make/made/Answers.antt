use Rattle.std.proofs.Common.{refl}
use Rattle.ob_values.specs.Sound.{AsValue}
use Rattle.ob_text_methods.proofs.make.made.Goals as goal

pub returns-in-Ok-clause-sound : goal.returns-in-Ok-clause-sound
returns-in-Ok-clause-sound c = λ roots reached sound. c.in-Ok.ensures.sound AsValue refl roots reached sound
