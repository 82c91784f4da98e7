use Rattle.std.proofs.Common.{◌∷◌}
use Rattle.ob_values.specs.Sound.{AsValue, pointers_of}
use Rattle.ob_array_methods.proofs.ResultLemmas.{adds-array}
use Rattle.ob_array_methods.proofs.SpreadLemmas.{concat_led}
use Rattle.ob_array_methods.proofs.copies.concat.Goals as goal

pub returns-clause-sound : goal.returns-clause-sound
returns-clause-sound c =
    adds-array c.give_array.result c.args.regions.now _ _ ((AsValue, c.args.receiver) ∷ pointers_of c.args.args.now) c.in_ok-values.values c.give_array.ensures.done c.give_array.ensures.sound
    (λ q h. concat_led c.args.regions.now c.args.receiver c.args.args.now c.in_ok-values.values q c.in_ok-values.ensures h)
