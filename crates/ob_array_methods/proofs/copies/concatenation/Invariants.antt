use Rattle.std.proofs.Common.{◌≡◌, ◌++◌, drop}
use Rattle.std.specs.List.{flat_map}
use Rattle.ob_values.specs.ArrayMethods.{elements_at, spread}
use Rattle.ob_array_methods.proofs.copies.concatenation.Given as goal

abbrev pub invariant-loop-value : goal.invariant-loop-value
invariant-loop-value l = l.values ++ flat_map (spread l.regions) (drop l.value-index l.args) ≡ elements_at l.regions l.fn.receiver ++ flat_map (spread l.regions) l.args
