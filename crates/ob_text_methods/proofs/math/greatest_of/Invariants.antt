use Rattle.std.proofs.Common.{◌≡◌, drop, fold}
use Rattle.std.specs.Int.{int_max}
use Rattle.std.specs.Option.{option_map}
use Rattle.ob_values.specs.Effects.{all_some, number_of}
use Rattle.ob_text_methods.proofs.math.greatest_of.Given as goal

abbrev pub invariant-loop-value : goal.invariant-loop-value
invariant-loop-value l =
    option_map (fold int_max l.greatest) (all_some number_of (drop l.value-index l.values)) ≡ option_map (fold int_max l.fn.first) (all_some number_of l.values)
