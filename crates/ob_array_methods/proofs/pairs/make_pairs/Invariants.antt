use Rattle.std.proofs.Common.{◌≡◌, ◌+◌, ◌*◌, ◌++◌, drop, length, map}
use Rattle.ob_array_methods.specs.Pairs.{AddsMade}
use Rattle.ob_values.specs.Fixed.{KeepsFixed}
use Rattle.ob_values.specs.ObjectFunctions.{pairs, with_pairs}
use Rattle.ob_values.specs.Sound.{pointers_of}
use Rattle.ob_values.specs.Store.{IsOpen, elements_in}
use Rattle.ob_array_methods.proofs.pairs.make_pairs.Given as goal

abbrev pub invariant-loop-property : goal.invariant-loop-property
invariant-loop-property l = record {
  opened : IsOpen l.regions l.region;
  elements : elements_in l.regions l.region ≡ elements_in l.fn.regions l.region + 3 * l.property-index;
  values : l.values ++ pairs l.region l.regions (drop l.property-index l.properties) ≡ pairs l.region l.fn.regions l.properties;
  store : with_pairs l.region l.regions (drop l.property-index l.properties) ≡ with_pairs l.region l.fn.regions l.properties;
  count : length l.values ≡ l.property-index;
  sound : AddsMade l.fn.regions l.regions (pointers_of (map (λ p. p.value) l.properties)) l.values;
  fixed : KeepsFixed l.fn.regions l.regions;
}
