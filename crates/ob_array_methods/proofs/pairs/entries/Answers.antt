use Rattle.std.proofs.Common.{◌∙◌, ap, sym}
use Rattle.ob_values.proofs.FixedLemmas.{KeepsFixed-then}
use Rattle.ob_values.specs.ObjectFunctions.{object_in}
use Rattle.ob_array_methods.proofs.PairLemmas.{adds-entries, entries-refused}
use Rattle.ob_array_methods.proofs.pairs.entries.Goals as goal

pub returns-in-Err-clause-answer : goal.returns-in-Err-clause-answer
returns-in-Err-clause-answer c =
    entries-refused c.args.regions.now c.args.left c.args.region c.args.args.now c.in-Some.properties.now c.in_ok-properties-in-Some.properties c.len-count.result c.charge.result c.in-Err.refused
    (ap (object_in c.args.regions.now) (sym c.argument.ensures) ∙ sym c.in-Some.ensures) c.in_ok-properties-in-Some.ensures c.len-count.ensures c.charge.ensures c.in-Err.is

pub returns-clause-sound : goal.returns-clause-sound
returns-clause-sound c =
    adds-entries c.give_array.result c.args.regions.now c.make_pairs.new.regions c.give_array.new.regions _ c.args.args.now c.in-Some.properties.now c.as_slice.result.now
    c.in_ok-values.values c.give_array.ensures.done c.give_array.ensures.sound (ap (object_in c.args.regions.now) (sym c.argument.ensures) ∙ sym c.in-Some.ensures)
    (c.as_slice.ensures ∙ c.in_ok-properties-in-Some.ensures) c.in_ok-values.ensures.sound

pub returns-clause-fixed : goal.returns-clause-fixed
returns-clause-fixed c =
    KeepsFixed-then c.args.regions.now c.make_pairs.new.regions c.give_array.new.regions c.make_pairs.ensures.fixed c.give_array.ensures.fixed
