use Rattle.std.proofs.Common.{◌≡◌, ◌+◌, ◌*◌, drop}
use Rattle.std.specs.Vec.Iter.{into_iter_items}
use Rattle.ob_values.specs.PlainOf.{plain_value, plain_prop, plain_at, all_some}
use Rattle.ob_values.proofs.BuildLemmas.{made_with}
use Rattle.ob_values.proofs.plain.build.+plain.Given as goal

abbrev pub decreases-plain_value : goal.decreases-plain_value
decreases-plain_value l = 5 * l.depth + 3

abbrev pub decreases-plain_from : goal.decreases-plain_from
decreases-plain_from l = 5 * l.depth + 2

abbrev pub decreases-plain_body : goal.decreases-plain_body
decreases-plain_body l = 5 * l.depth + 6

abbrev pub decreases-plain_values : goal.decreases-plain_values
decreases-plain_values l = 5 * l.depth + 4

abbrev pub decreases-plain_props : goal.decreases-plain_props
decreases-plain_props l = 5 * l.depth + 5

abbrev pub decreases-plain_prop : goal.decreases-plain_prop
decreases-plain_prop l = 5 * l.depth + 4

abbrev pub invariant-plain_values-loop-value : goal.invariant-plain_values-loop-value
invariant-plain_values-loop-value l =
    made_with (plain_value (plain_at l.depth l.regions)) l.plains (drop l.value-index l.values) ≡ all_some (plain_value (plain_at l.depth l.regions)) l.values

abbrev pub invariant-plain_props-loop-property : goal.invariant-plain_props-loop-property
invariant-plain_props-loop-property l =
    made_with (plain_prop (plain_value (plain_at l.depth l.regions))) l.props (into_iter_items l.property-iterator) ≡ all_some (plain_prop (plain_value (plain_at l.depth l.regions))) (into_iter_items l.initial.property-iterator)
