use Rattle.std.proofs.Common.{◌≡◌, drop, map}
use Rattle.ob_base.specs.PlainData.{are_all, has_short_texts, prop_has_short_texts}
use Rattle.ob_script.proofs.limits.+short.Given as goal

abbrev pub invariant-are_short_items-loop-item : goal.invariant-are_short_items-loop-item
invariant-are_short_items-loop-item l = are_all (map has_short_texts (drop l.item-index l.items)) ≡ are_all (map has_short_texts l.items)

abbrev pub invariant-are_short_props-loop-prop : goal.invariant-are_short_props-loop-prop
invariant-are_short_props-loop-prop l = are_all (map prop_has_short_texts (drop l.prop-index l.props)) ≡ are_all (map prop_has_short_texts l.props)
