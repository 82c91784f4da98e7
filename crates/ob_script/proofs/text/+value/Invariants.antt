use Rattle.std.proofs.Common.{◌≡◌, ◌≤◌, false, drop, take, map}
use Rattle.serde_json.specs.Data.{no_members, items_depth, members_depth}
use Rattle.serde_json.specs.View.{view, items_view, members_view}
use Rattle.serde_json.specs.Written.{items_have_float, members_have_float}
use Rattle.ob_base.specs.PlainData.{greatest, nesting, prop_nesting}
use Rattle.ob_script.specs.Returns.{AreBack, EachBack}
use Rattle.ob_script.specs.Texts.{plain_data, prop_data, put_all}
use Rattle.ob_script.proofs.text.+value.Given as goal

abbrev pub invariant-plain_values-loop-item : goal.invariant-plain_values-loop-item
invariant-plain_values-loop-item l =
    (map view l.values.items ≡ map plain_data (take l.item-index l.items))
    × (items_have_float (items_view l.values.items) ≡ false)
    × (items_depth (items_view l.values.items) ≤ greatest (map nesting l.items))
    × (greatest (map nesting (drop l.item-index l.items)) ≤ greatest (map nesting l.items))
    × (AreBack (drop l.item-index l.items) → AreBack l.items)

abbrev pub invariant-prop_values-loop-prop : goal.invariant-prop_values-loop-prop
invariant-prop_values-loop-prop l =
    (put_all (members_view l.members.entries) (map prop_data (drop l.prop-index l.props)) ≡ put_all no_members (map prop_data l.props))
    × (members_have_float (members_view l.members.entries) ≡ false)
    × (members_depth (members_view l.members.entries) ≤ greatest (map prop_nesting l.props))
    × (greatest (map prop_nesting (drop l.prop-index l.props)) ≤ greatest (map prop_nesting l.props))
    × (EachBack (drop l.prop-index l.props) → EachBack l.props)
