use Rattle.std.proofs.Common.{◌≡◌, ◌≤◌, ◌+◌, ◌*◌, length, drop}
use Rattle.std.specs.List.{flat_map}
use Rattle.ob_values.specs.ArrayMethods.{spread}
use Rattle.ob_array_methods.proofs.copies.spread_count.Given as goal

abbrev pub invariant-loop-value : goal.invariant-loop-value
invariant-loop-value l = record {
  value : l.count + length (flat_map (spread l.regions) (drop l.value-index l.args)) ≡ length (flat_map (spread l.regions) l.args);
  small : l.count ≤ l.value-index * 9223372036854775808;
}
