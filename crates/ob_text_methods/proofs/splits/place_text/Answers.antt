use Rattle.std.proofs.Common.{[], refl, subst, sym, ap, ◌∙◌, length}
use Rattle.ob_items.specs.Items.{live}
use Rattle.ob_items.specs.declared.item.Body.TheVariants as B
use Rattle.ob_values.specs.Store.{IsOpen, elements_in, text_cost}
use Rattle.ob_values.proofs.PlacedLemmas.{AddsValues-none, AddsValues-item}
use Rattle.ob_values.proofs.StoreLemmas.{with_new-open, with_new-elements}
use Rattle.ob_text_methods.proofs.splits.place_text.Goals as goal

pub returns-in-Ok-clause-open : goal.returns-in-Ok-clause-open
returns-in-Ok-clause-open c =
    subst (λ s. IsOpen s c.args.region) (sym c.in-Ok.ensures.ok)
    (with_new-open c.args.regions.now c.args.region (live (B.Text c.args.units)) (text_cost (length c.args.units)) c.requires.open)

pub returns-in-Ok-clause-elements : goal.returns-in-Ok-clause-elements
returns-in-Ok-clause-elements c =
    ap (λ s. elements_in s c.args.region) c.in-Ok.ensures.ok
    ∙ with_new-elements c.args.regions.now c.args.region (live (B.Text c.args.units)) (text_cost (length c.args.units)) c.requires.open

pub returns-in-Ok-clause-sound : goal.returns-in-Ok-clause-sound
returns-in-Ok-clause-sound c =
    let s = c.args.regions.now in
    AddsValues-item s s c.alloc_units.new.self [] (B.Text c.args.units) c.in-Ok.r refl refl (AddsValues-none s s refl) c.in-Ok.ensures.sound
