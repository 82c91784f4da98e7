use Rattle.std.proofs.Common.{◌∙◌, ◌+◌, ap, sym}
use Rattle.ob_values.proofs.FixedLemmas.{KeepsFixed-then}
use Rattle.ob_values.specs.ObjectFunctions.{object_in}
use Rattle.ob_values.specs.Operators.{limited}
use Rattle.ob_values.specs.Sound.{pointers_of}
use Rattle.ob_values.specs.Store.{elements_in}
use Rattle.ob_array_methods.proofs.LoopLemmas.{adds-listed, keys-refused}
use Rattle.ob_array_methods.proofs.objects.keys.Goals as goal

pub returns-in-Err-clause-answer : goal.returns-in-Err-clause-answer
returns-in-Err-clause-answer c =
    keys-refused c.args.regions.now c.args.left c.args.region c.args.args.now c.in-Some.properties.now c.in_ok-names-in-Some.names c.charge.result c.in-Err.refused
    (ap (object_in c.args.regions.now) (sym c.argument.ensures) ∙ sym c.in-Some.ensures) c.in_ok-names-in-Some.ensures
    (c.charge.ensures ∙ ap (λ k. limited (elements_in c.args.regions.now c.args.region) c.args.left (1 + k) 0 tt) c.len.ensures) c.in-Err.is

pub returns-clause-sound : goal.returns-clause-sound
returns-clause-sound c =
    adds-listed c.give_array.result c.args.regions.now c.make_literals.new.regions c.give_array.new.regions _ (pointers_of c.args.args.now) c.in_ok-values.values
    c.give_array.ensures.done c.give_array.ensures.sound c.in_ok-values.ensures.sound

pub returns-clause-fixed : goal.returns-clause-fixed
returns-clause-fixed c =
    KeepsFixed-then c.args.regions.now c.make_literals.new.regions c.give_array.new.regions c.make_literals.ensures.fixed c.give_array.ensures.fixed
