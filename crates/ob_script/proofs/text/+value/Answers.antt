use Rattle.std.proofs.Common.{◌≡◌, ◌∷◌, ◌++◌, [], arith, sym, ◌∙◌}
use Rattle.serde_json.specs.View.{view, members_view}
use Rattle.ob_base.specs.PlainData.{nesting, prop_nesting}
use Rattle.ob_script.specs.Texts.{plain_data}
use Rattle.ob_script.proofs.Props.{prop_nesting-is, put_all_more}
use Rattle.ob_script.proofs.Returning.{integer_is_back, object_is_back, more_back, more_each, end_back, end_each}
use Rattle.ob_script.proofs.Written.{whole_push, deep_push, whole_put, deep_put, greatest_drop, map_push}
use Rattle.ob_script.proofs.text.+value.Goals as goal

pub plain_values-loop-item-preserved : goal.plain_values-loop-item-preserved
plain_values-loop-item-preserved t c =
    let e : c.push.new.self.items ≡ c.loop-item.values.items ++ c.in_ok-plain_value.field-0 ∷ [] = c.in_ok-push.ensures.items in
    let g = greatest_drop nesting c.args.items.now c.loop-item.item-index c.item-item.result (omega arith) c.item-item.is in (
      rw e (map_push view plain_data c.loop-item.values.items c.in_ok-plain_value.field-0 c.args.items.now c.loop-item.item-index c.item-item.result (omega arith) c.item-item.is c.loop-item.invariant.0 c.in_ok-plain_value.ensures.data),
      rw e (whole_push c.loop-item.values.items c.in_ok-plain_value.field-0 c.loop-item.invariant.1 c.in_ok-plain_value.ensures.whole),
      rw e (deep_push c.loop-item.values.items c.in_ok-plain_value.field-0 _ c.loop-item.invariant.2 (omega (arith, g.0, c.in_ok-plain_value.ensures.deep, c.loop-item.invariant.3))),
      omega (arith, g.1, c.loop-item.invariant.3),
      λ h. c.loop-item.invariant.4 (more_back c.args.items.now c.loop-item.item-index c.item-item.result (omega arith) c.item-item.is c.in_ok-plain_value.ensures.back h),
    )

pub prop_values-loop-prop-preserved : goal.prop_values-loop-prop-preserved
prop_values-loop-prop-preserved t c =
    let g = greatest_drop prop_nesting c.args.props.now c.loop-prop.prop-index c.prop-item.result (omega arith) c.prop-item.is in (
      rw (c.in_ok-put.ensures.ok, c.as_str.ensures.value, c.in_ok-key.ensures, c.as_slice.ensures, c.in_ok-value.ensures.data)
          (sym (put_all_more (members_view c.loop-prop.members.entries) c.args.props.now c.loop-prop.prop-index c.prop-item.result (omega arith) c.prop-item.is) ∙ c.loop-prop.invariant.0),
      rw (c.in_ok-put.ensures.ok) (whole_put c.as_str.result.now (view c.in_ok-value.value) (members_view c.loop-prop.members.entries) c.in_ok-value.ensures.whole c.loop-prop.invariant.1),
      rw (c.in_ok-put.ensures.ok) (deep_put c.as_str.result.now (view c.in_ok-value.value) (members_view c.loop-prop.members.entries) _ (omega (arith, g.0, c.in_ok-value.ensures.deep, c.loop-prop.invariant.3, prop_nesting-is c.prop-item.result)) c.loop-prop.invariant.2),
      omega (arith, g.1, c.loop-prop.invariant.3),
      λ h. c.loop-prop.invariant.4 (more_each c.args.props.now c.loop-prop.prop-index c.prop-item.result (omega arith) c.prop-item.is c.in_ok-value.ensures.back h),
    )

pub plain_values-returns-clause-back : goal.plain_values-returns-clause-back
plain_values-returns-clause-back t c = c.loop-item.invariant.4 (end_back c.args.items.now c.loop-item.item-index (omega arith))

pub prop_values-returns-clause-back : goal.prop_values-returns-clause-back
prop_values-returns-clause-back t c = c.loop-prop.invariant.4 (end_each c.args.props.now c.loop-prop.prop-index (omega arith))

pub plain_value-returns-in-Int-clause-back : goal.plain_value-returns-in-Int-clause-back
plain_value-returns-in-Int-clause-back t c = rw (c.in-Int.is) (integer_is_back c.in-Int.n)

pub plain_value-returns-in_ok-prop_values-in-Object-clause-back : goal.plain_value-returns-in_ok-prop_values-in-Object-clause-back
plain_value-returns-in_ok-prop_values-in-Object-clause-back t c =
    let each = rw (c.as_slice-in-Object.ensures) at c.in_ok-prop_values-in-Object.ensures.back in
    rw (c.in-Object.is) (object_is_back c.in-Object.props each)
