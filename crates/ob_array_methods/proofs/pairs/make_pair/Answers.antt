use Rattle.ob_values.proofs.FixedLemmas.{KeepsFixed-then}
use Rattle.ob_array_methods.proofs.PairLemmas.{adds-pair}
use Rattle.ob_array_methods.proofs.pairs.make_pair.Goals as goal

pub returns-in-Ok-clause-sound : goal.returns-in-Ok-clause-sound
returns-in-Ok-clause-sound c =
    adds-pair c.args.regions.now c.literal.new.self c.alloc_array.new.self c.as_slice.result.now c.in_ok-key.key c.in-Ok.r c.args.property.now.value c.in_ok-key.ensures.sound
    c.in-Ok.ensures.sound

pub returns-in-Ok-clause-fixed : goal.returns-in-Ok-clause-fixed
returns-in-Ok-clause-fixed c = KeepsFixed-then c.args.regions.now c.literal.new.self c.alloc_array.new.self c.in_ok-key.ensures.fixed c.in-Ok.ensures.fixed
