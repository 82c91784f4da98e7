use Rattle.std.proofs.Common.{◌≡◌, ◌+◌, ◌^◌, ◌-◌, ◌<◌, drop, length, map, min}
use Rattle.std.specs.Prelude.{sum}
use Rattle.ob_base.specs.PlainData.{elements, prop_elements}
use Rattle.ob_script.proofs.limits.+elements.Given as goal

abbrev pub invariant-elements_of_items-loop-item : goal.invariant-elements_of_items-loop-item
invariant-elements_of_items-loop-item l = (l.total < 2 ^ 64) × (min (l.total + sum (map elements (drop l.item-index l.items))) (2 ^ 64 - 1) ≡ min (length l.items + sum (map elements l.items)) (2 ^ 64 - 1))

abbrev pub invariant-elements_of_props-loop-prop : goal.invariant-elements_of_props-loop-prop
invariant-elements_of_props-loop-prop l = (l.total < 2 ^ 64) × (min (l.total + sum (map prop_elements (drop l.prop-index l.props))) (2 ^ 64 - 1) ≡ min (length l.props + sum (map prop_elements l.props)) (2 ^ 64 - 1))
