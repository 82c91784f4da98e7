use Rattle.std.proofs.Common.{refl}
use Rattle.ob_items.specs.declared.item.Body.TheVariants as B
use Rattle.ob_values.proofs.FixedLemmas.{KeepsFixed-then}
use Rattle.ob_values.proofs.PlacedLemmas.{AddsValues-item}
use Rattle.ob_text_methods.proofs.splits.place_parts.Goals as goal

pub returns-in-Ok-alloc_values-clause-sound : goal.returns-in-Ok-alloc_values-clause-sound
returns-in-Ok-alloc_values-clause-sound c = λ roots reached sound.
    AddsValues-item c.args.regions.now c.place_texts.new.regions c.alloc_values.new.self c.in-Ok.values (B.Array c.in-Ok.values) c.in-Ok-alloc_values.r refl refl c.in-Ok.ensures.sound
    c.in-Ok-alloc_values.ensures.sound roots sound

pub returns-in-Ok-alloc_values-clause-fixed : goal.returns-in-Ok-alloc_values-clause-fixed
returns-in-Ok-alloc_values-clause-fixed c =
    KeepsFixed-then c.args.regions.now c.place_texts.new.regions c.alloc_values.new.self c.in-Ok.ensures.fixed c.in-Ok-alloc_values.ensures.fixed
