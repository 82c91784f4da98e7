use Rattle.std.proofs.Common.{◌≡◌, ◌+◌, drop, map}
use Rattle.std.specs.Prelude.{sum, fold}
use Rattle.ob_base.specs.PlainData.{elements, prop_elements}
use Rattle.ob_items.specs.Properties.{values_of}
use Rattle.ob_values.specs.Fixed.{KeepsFixed}
use Rattle.ob_values.specs.Sound.{AddsValues}
use Rattle.ob_values.specs.Placed.{placed, placed_prop, add_item, add_prop, no_items, no_props}
use Rattle.ob_values.specs.Store.{IsOpen, elements_in}
use Rattle.ob_values.proofs.place.+place.Given as goal

abbrev pub invariant-place_items-loop-item : goal.invariant-place_items-loop-item
invariant-place_items-loop-item l = record {
  placed : fold add_item (record { values = l.values; store = l.regions }) (map (placed l.region) (drop l.item-index l.items)) ≡ fold add_item (no_items l.fn.regions) (map (placed l.region) l.items);
  opened : IsOpen l.regions l.region;
  elements : elements_in l.regions l.region + sum (map elements (drop l.item-index l.items)) ≡ elements_in l.fn.regions l.region + sum (map elements l.items);
  sound : AddsValues l.fn.regions l.regions l.values;
  fixed : KeepsFixed l.fn.regions l.regions;
}

abbrev pub invariant-place_props-loop-prop : goal.invariant-place_props-loop-prop
invariant-place_props-loop-prop l = record {
  placed : fold add_prop (record { properties = l.properties; store = l.regions }) (map (placed_prop l.region) (drop l.prop-index l.props)) ≡ fold add_prop (no_props l.fn.regions) (map (placed_prop l.region) l.props);
  opened : IsOpen l.regions l.region;
  elements : elements_in l.regions l.region + sum (map prop_elements (drop l.prop-index l.props)) ≡ elements_in l.fn.regions l.region + sum (map prop_elements l.props);
  sound : AddsValues l.fn.regions l.regions (values_of l.properties);
  fixed : KeepsFixed l.fn.regions l.regions;
}
