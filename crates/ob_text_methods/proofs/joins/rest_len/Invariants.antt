use Rattle.std.proofs.Common.{◌≡◌, ◌+◌, ◌-◌, ◌<◌, ◌^◌, ◌++◌, min, length, drop}
use Rattle.std.specs.List.{flat_map}
use Rattle.std.specs.Option.{option_map}
use Rattle.ob_values.specs.ArrayMethods.{written_as}
use Rattle.ob_values.specs.Effects.{all_some}
use Rattle.ob_text_methods.proofs.joins.rest_len.Given as goal

abbrev pub invariant-loop-value : goal.invariant-loop-value
invariant-loop-value l = record {
  fits : l.total < 2 ^ 64;
  total :
      option_map (λ texts. min (l.total + length (flat_map (λ units. l.between ++ units) texts)) (2 ^ 64 - 1)) (all_some (written_as l.regions) (drop l.value-index l.values))
      ≡ option_map (λ texts. min (l.fn.len + length (flat_map (λ units. l.between ++ units) texts)) (2 ^ 64 - 1)) (all_some (written_as l.regions) l.values);
}
