use Rattle.std.proofs.Common.{◌≡◌, ◌++◌, drop, length}
use Rattle.ob_values.specs.Fixed.{KeepsFixed}
use Rattle.ob_values.specs.ObjectFunctions.{literals, with_literals}
use Rattle.ob_values.specs.Sound.{AddsValues}
use Rattle.ob_values.specs.Store.{IsOpen, elements_in}
use Rattle.ob_array_methods.proofs.objects.make_literals.Given as goal

abbrev pub invariant-loop-units : goal.invariant-loop-units
invariant-loop-units l = record {
  opened : IsOpen l.regions l.region;
  values : l.values ++ literals l.region l.regions (drop l.units-index l.texts) ≡ literals l.region l.fn.regions l.texts;
  store : with_literals l.region l.regions (drop l.units-index l.texts) ≡ with_literals l.region l.fn.regions l.texts;
  elements : elements_in l.regions l.region ≡ elements_in l.fn.regions l.region;
  count : length l.values ≡ l.units-index;
  sound : AddsValues l.fn.regions l.regions l.values;
  fixed : KeepsFixed l.fn.regions l.regions;
}
