use Rattle.std.proofs.Common.{◌≡◌, ◌^◌, ◌-◌, ◌<◌, drop, map, max, min}
use Rattle.ob_base.specs.PlainData.{greatest, nesting, prop_nesting}
use Rattle.ob_script.proofs.limits.+nesting.Given as goal

abbrev pub invariant-nesting_of_items-loop-item : goal.invariant-nesting_of_items-loop-item
invariant-nesting_of_items-loop-item l = (l.deepest < 2 ^ 32) × (min (max l.deepest (greatest (map nesting (drop l.item-index l.items)))) (2 ^ 32 - 1) ≡ min (greatest (map nesting l.items)) (2 ^ 32 - 1))

abbrev pub invariant-nesting_of_props-loop-prop : goal.invariant-nesting_of_props-loop-prop
invariant-nesting_of_props-loop-prop l = (l.deepest < 2 ^ 32) × (min (max l.deepest (greatest (map prop_nesting (drop l.prop-index l.props)))) (2 ^ 32 - 1) ≡ min (greatest (map prop_nesting l.props)) (2 ^ 32 - 1))
