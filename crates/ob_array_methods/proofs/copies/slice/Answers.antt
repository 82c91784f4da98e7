use Rattle.std.proofs.Common.{◌∙◌, ap, [], ◌∷◌}
use Rattle.std.specs.List.{slice_range}
use Rattle.ob_values.specs.Sound.{AsValue}
use Rattle.ob_array_methods.proofs.ResultLemmas.{adds-array, part_led}
use Rattle.ob_array_methods.proofs.copies.slice.Goals as goal

pub returns-in_ok-items-in-Some-clause-sound : goal.returns-in_ok-items-in-Some-clause-sound
returns-in_ok-items-in-Some-clause-sound c =
    adds-array c.give_array.result c.args.regions.now _ _ ((AsValue, c.args.receiver) ∷ []) c.in_ok-items-in-Some.items c.give_array.ensures.done c.give_array.ensures.sound
    (λ q h. part_led c.args.regions.now c.args.receiver c.in_ok-items-in-Some.items c.in-Some.from c.in-Some.to q (c.in_ok-items-in-Some.ensures ∙ c.part-part.ensures ∙ ap (λ vs. slice_range vs c.in-Some.from c.in-Some.to) c.elements_of-values.ensures) h)
