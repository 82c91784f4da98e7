use Rattle.std.proofs.Common.{◌≡◌, ◌<◌, ◌++◌, ◌∷◌, [], ◌∙◌, refl, ap, sym, subst, arith, length, get_or}
use Rattle.ob_base.specs.PlainData.{elements, prop_elements}
use Rattle.ob_items.specs.Properties.{values_of, with_property}
use Rattle.ob_items.specs.declared.item.Body.TheVariants as B
use Rattle.ob_values.specs.Placed.{PlacedItems, PlacedProps, placed, placed_prop, add_item, add_prop}
use Rattle.ob_values.specs.Fixed.{KeepsFixed}
use Rattle.ob_values.specs.Sound.{AddsValues}
use Rattle.ob_values.specs.Store.{IsOpen, elements_in}
use Rattle.ob_values.proofs.FixedLemmas.{KeepsFixed-then, KeepsFixed-after}
use Rattle.ob_values.proofs.PlacedLemmas.{AddsValues-made, AddsValues-push, AddsValues-property, item-more, prop-more, sum-next, placed_prop-is, prop_elements-is}
use Rattle.ob_values.proofs.place.+place.Goals as goal

pub place_array-returns-clause-sound : goal.place_array-returns-clause-sound
place_array-returns-clause-sound t c =
    AddsValues-made c.add_new.result c.args.regions.now c.place_items.new.regions c.add_new.new.regions c.in_ok-values.values (B.Array c.in_ok-values.values) _ refl refl
    c.in_ok-values.ensures.sound c.add_new.ensures.value c.add_new.ensures.sound

pub place_object-returns-clause-sound : goal.place_object-returns-clause-sound
place_object-returns-clause-sound t c =
    AddsValues-made c.add_new.result c.args.regions.now c.place_props.new.regions c.add_new.new.regions (values_of c.in_ok-properties.properties) (B.Object c.in_ok-properties.properties) _ refl refl
    c.in_ok-properties.ensures.sound c.add_new.ensures.value c.add_new.ensures.sound

pub place_items-loop-item-preserved : goal.place_items-loop-item-preserved
place_items-loop-item-preserved t c =
    let items = c.args.items.now in
    let i = c.loop-item.item-index in
    let item = c.item-item.result in
    let within : i < length items = omega arith in
    let before : PlacedItems = record { values = c.loop-item.values; store = c.loop-item.regions } in
    let after : PlacedItems = record { values = c.push.new.self; store = c.place.new.regions } in
    let values = c.in_ok-push.ensures.ok ∙ ap (λ v. c.loop-item.values ++ v ∷ []) c.in_ok-value.ensures.value in
    let step : after ≡ add_item before (placed c.args.region item) = λ k. record { values = values k; store = c.in_ok-value.ensures.store k } in
    let cost : elements item ≡ elements (get_or items i item) = ap elements c.item-item.is in
    record {
      placed = item-more c.args.region items i item before after within (step ∙ ap (λ x. add_item before (placed c.args.region x)) c.item-item.is) ∙ c.loop-item.invariant.placed;
      opened = c.in_ok-value.ensures.open;
      elements = omega (arith, c.loop-item.invariant.elements, c.in_ok-value.ensures.elements, sum-next elements items i item within, cost);
      sound = subst (AddsValues c.args.regions.now c.place.new.regions) (sym c.in_ok-push.ensures.ok)
          (AddsValues-push c.args.regions.now c.loop-item.regions c.place.new.regions c.loop-item.values c.in_ok-value.value c.loop-item.invariant.sound c.in_ok-value.ensures.sound);
      fixed = KeepsFixed-then c.args.regions.now c.loop-item.regions c.place.new.regions c.loop-item.invariant.fixed c.in_ok-value.ensures.fixed;
    }

pub place_props-loop-prop-preserved : goal.place_props-loop-prop-preserved
place_props-loop-prop-preserved t c =
    let props = c.args.props.now in
    let i = c.loop-prop.prop-index in
    let prop = c.prop-item.result in
    let within : i < length props = omega arith in
    let before : PlacedProps = record { properties = c.loop-prop.properties; store = c.loop-prop.regions } in
    let after : PlacedProps = record { properties = c.set_property_of.new.properties; store = c.set_property_of.new.self } in
    let same = c.in_ok-set_property_of.ensures.same in
    let properties = c.in_ok-set_property_of.ensures.ok ∙ (λ k. with_property c.loop-prop.properties (c.as_slice.ensures k) (c.in_ok-value.ensures.value k)) in
    let made : after ≡ add_prop before (prop.key, placed c.args.region prop.value) = λ k. record { properties = properties k; store = (same ∙ c.in_ok-value.ensures.store) k } in
    let step = made ∙ ap (add_prop before) (sym (placed_prop-is c.args.region prop)) in
    let cost : elements prop.value ≡ prop_elements (get_or props i prop) = sym (prop_elements-is prop) ∙ ap prop_elements c.prop-item.is in
    record {
      placed = prop-more c.args.region props i prop before after within (step ∙ ap (λ x. add_prop before (placed_prop c.args.region x)) c.prop-item.is) ∙ c.loop-prop.invariant.placed;
      opened = subst (λ s. IsOpen s c.args.region) (sym same) c.in_ok-value.ensures.open;
      elements = omega (arith, c.loop-prop.invariant.elements, c.in_ok-value.ensures.elements, ap (λ s. elements_in s c.args.region) same, sum-next prop_elements props i prop within, cost);
      sound = subst (λ (p : PlacedProps). AddsValues c.args.regions.now p.store (values_of p.properties))
          (λ k. record { properties = sym (c.in_ok-set_property_of.ensures.ok ∙ ap (λ k. with_property c.loop-prop.properties k c.in_ok-value.value) c.as_slice.ensures) k; store = sym same k })
          (AddsValues-property c.args.regions.now c.loop-prop.regions c.place.new.regions c.loop-prop.properties prop.key c.in_ok-value.value c.loop-prop.invariant.sound c.in_ok-value.ensures.sound);
      fixed = subst (KeepsFixed c.args.regions.now) (sym same) (KeepsFixed-then c.args.regions.now c.loop-prop.regions c.place.new.regions c.loop-prop.invariant.fixed c.in_ok-value.ensures.fixed);
    }

pub place_array-returns-clause-fixed : goal.place_array-returns-clause-fixed
place_array-returns-clause-fixed t c = KeepsFixed-after c.add_new.result c.args.regions.now c.place_items.new.regions c.add_new.new.regions c.in_ok-values.ensures.fixed c.add_new.ensures.fixed

pub place_object-returns-clause-fixed : goal.place_object-returns-clause-fixed
place_object-returns-clause-fixed t c = KeepsFixed-after c.add_new.result c.args.regions.now c.place_props.new.regions c.add_new.new.regions c.in_ok-properties.ensures.fixed c.add_new.ensures.fixed
