use Rattle.std.proofs.Common.{[], refl}
use Rattle.ob_items.specs.declared.item.Body.TheVariants as B
use Rattle.ob_values.proofs.PlacedLemmas.{AddsValues-none, AddsValues-made}
use Rattle.ob_values.proofs.place.place_text.Goals as goal

pub returns-clause-sound : goal.returns-clause-sound
returns-clause-sound c =
    AddsValues-made c.add_new.result c.args.regions.now c.args.regions.now c.add_new.new.regions [] (B.Text c.in_ok-copy.copy) _ refl refl
    (AddsValues-none c.args.regions.now c.args.regions.now refl) c.add_new.ensures.value c.add_new.ensures.sound
