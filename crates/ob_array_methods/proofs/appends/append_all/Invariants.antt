use Rattle.std.proofs.Common.{◌≡◌, ◌+◌, false, IsSome, drop}
use Rattle.std.specs.Prelude.{fold}
use Rattle.ob_items.specs.Bodies.{array_of}
use Rattle.ob_values.specs.ArrayMethods.{appended}
use Rattle.ob_values.specs.Fixed.{KeepsFixed}
use Rattle.ob_values.specs.Sound.{KeepsSound, pointers_of}
use Rattle.ob_values.specs.Store.{elements_in, is_frozen, read_item}
use Rattle.ob_array_methods.proofs.appends.append_all.Given as goal

abbrev pub invariant-loop-value : goal.invariant-loop-value
invariant-loop-value l = record {
  array : IsSome (read_item array_of l.regions l.receiver);
  thawed : is_frozen l.regions l.receiver ≡ false;
  elements : elements_in l.regions l.receiver.region ≡ elements_in l.fn.regions l.receiver.region + l.value-index;
  appended : fold (appended l.receiver) l.regions (drop l.value-index l.values) ≡ fold (appended l.receiver) l.fn.regions l.values;
  sound : KeepsSound l.fn.regions l.regions (pointers_of l.values);
  fixed : KeepsFixed l.fn.regions l.regions;
}
