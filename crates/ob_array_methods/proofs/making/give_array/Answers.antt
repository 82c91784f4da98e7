use Rattle.std.proofs.Common.{subst}
use Rattle.ob_items.specs.declared.item.Body.TheVariants as B
use Rattle.ob_values.specs.Sound.{AddsItem}
use Rattle.ob_array_methods.proofs.making.give_array.Goals as goal

pub returns-in-Ok-clause-sound : goal.returns-in-Ok-clause-sound
returns-in-Ok-clause-sound c = subst (AddsItem c.args.regions.now c.alloc_values.new.self (B.Array c.args.values)) c.in-Ok.ensures.key c.in-Ok.ensures.sound
