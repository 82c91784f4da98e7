use Rattle.std.proofs.Common.{◌≡◌, ◌+◌, ◌^◌, ◌-◌, ◌<◌, drop, length, map, min}
use Rattle.std.specs.Prelude.{sum}
use Rattle.ob_base.specs.PlainData.{elements, prop_elements}
use Rattle.ob_values.proofs.place.cost.+elements.Given as goal

abbrev pub invariant-items_elements-loop-item : goal.invariant-items_elements-loop-item
invariant-items_elements-loop-item l = (l.total < 2 ^ 64) × (min (l.total + sum (map elements (drop l.item-index l.items))) (2 ^ 64 - 1) ≡ min (length l.items + sum (map elements l.items)) (2 ^ 64 - 1))

abbrev pub invariant-props_elements-loop-prop : goal.invariant-props_elements-loop-prop
invariant-props_elements-loop-prop l = (l.total < 2 ^ 64) × (min (l.total + sum (map prop_elements (drop l.prop-index l.props))) (2 ^ 64 - 1) ≡ min (length l.props + sum (map prop_elements l.props)) (2 ^ 64 - 1))
