use Rattle.std.proofs.Common.{◌≡◌, ◌++◌, drop, IsSome}
use Rattle.std.specs.List.{flat_map}
use Rattle.std.specs.Option.{option_map}
use Rattle.ob_values.specs.ArrayMethods.{written_as}
use Rattle.ob_values.specs.Effects.{all_some}
use Rattle.ob_text_methods.proofs.joins.put_rest.Given as goal

abbrev pub invariant-loop-value : goal.invariant-loop-value
invariant-loop-value l =
    IsSome (all_some (written_as l.regions) (drop l.value-index l.values))
    × (option_map (λ texts. l.out.items ++ flat_map (λ units. l.between ++ units) texts) (all_some (written_as l.regions) (drop l.value-index l.values))
    ≡ option_map (λ texts. l.initial.out.items ++ flat_map (λ units. l.between ++ units) texts) (all_some (written_as l.regions) l.values))
