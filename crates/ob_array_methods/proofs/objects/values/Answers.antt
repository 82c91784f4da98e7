use Rattle.std.proofs.Common.{◌∙◌, ap, sym, subst}
use Rattle.std.specs.List.{Contains}
use Rattle.ob_values.specs.ObjectFunctions.{object_in}
use Rattle.ob_values.specs.Sound.{pointers_of}
use Rattle.ob_array_methods.proofs.ResultLemmas.{adds-array, value_led}
use Rattle.ob_array_methods.proofs.objects.values.Goals as goal

pub returns-clause-sound : goal.returns-clause-sound
returns-clause-sound c =
    adds-array c.give_array.result c.args.regions.now _ _ (pointers_of c.args.args.now) c.in_ok-values-in-Some.values c.give_array.ensures.done c.give_array.ensures.sound
    (λ q h. value_led c.args.regions.now c.args.args.now c.in-Some.properties.now q (ap (object_in c.args.regions.now) (sym c.argument.ensures) ∙ sym c.in-Some.ensures)
    (subst (λ vs. Contains (pointers_of vs) q) c.in_ok-values-in-Some.ensures h))
