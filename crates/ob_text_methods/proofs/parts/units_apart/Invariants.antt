use Rattle.std.proofs.Common.{◌≡◌, ◌∷◌, [], map, take}
use Rattle.ob_text_methods.proofs.parts.units_apart.Given as goal

abbrev pub invariant-loop-unit : goal.invariant-loop-unit
invariant-loop-unit l = l.parts ≡ map (λ unit. unit ∷ []) (take l.unit-index l.units)
