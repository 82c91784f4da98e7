use Rattle.std.proofs.Common.{◌≡◌, ◌∙◌, ◌<◌, ◌++◌, ◌∷◌, [], ap, arith, length, get_or, length-append}
use Rattle.ob_items.specs.declared.value.Value.TheVariants as V
use Rattle.ob_values.proofs.FixedLemmas.{KeepsFixed-then}
use Rattle.ob_values.specs.Store.{with_literal_in, literal_ref}
use Rattle.ob_array_methods.proofs.LoopLemmas.{with_literal_in-opened, with_literal_in-elements, literals-more, with_literals-more, adds-literal}
use Rattle.ob_array_methods.proofs.objects.make_literals.Goals as goal

pub returns-in_err-push-clause-fixed : goal.returns-in_err-push-clause-fixed
returns-in_err-push-clause-fixed c = KeepsFixed-then c.args.regions.now c.loop-units.regions c.literal.new.self c.loop-units.invariant.fixed c.in_ok-r.ensures.fixed

pub loop-units-preserved : goal.loop-units-preserved
loop-units-preserved c =
    let texts = c.args.texts.now in
    let i = c.loop-units.units-index in
    let units = c.units-item.result in
    let within : i < length texts = omega arith in
    let s = c.loop-units.regions in
    let stored : c.literal.new.self ≡ with_literal_in s c.args.region (get_or texts i units) =
    c.in_ok-r.ensures.ok ∙ ap (with_literal_in s c.args.region) (c.as_slice.ensures ∙ c.units-item.is) in
    let key = c.in_ok-r.ensures.key ∙ ap (literal_ref s c.args.region) (c.as_slice.ensures ∙ c.units-item.is) in
    let pushed = c.in_ok-push.ensures.ok ∙ ap (λ r. c.loop-units.values ++ V.Ref r ∷ []) key in
    record {
      opened = with_literal_in-opened s c.literal.new.self c.args.region _ c.loop-units.invariant.opened stored;
      values = literals-more c.args.region texts i units s c.literal.new.self c.loop-units.values c.push.new.self within stored pushed ∙ c.loop-units.invariant.values;
      store = with_literals-more c.args.region texts i units s c.literal.new.self within stored ∙ c.loop-units.invariant.store;
      elements = with_literal_in-elements s c.literal.new.self c.args.region _ c.loop-units.invariant.opened stored ∙ c.loop-units.invariant.elements;
      count = omega (arith, length-append c.loop-units.values (V.Ref c.in_ok-r.r ∷ []), ap length c.in_ok-push.ensures.ok, c.loop-units.invariant.count);
      sound = adds-literal c.args.regions.now s c.literal.new.self c.loop-units.values c.push.new.self c.as_slice.result.now c.in_ok-r.r c.in_ok-push.ensures.ok c.loop-units.invariant.sound c.in_ok-r.ensures.sound;
      fixed = KeepsFixed-then c.args.regions.now s c.literal.new.self c.loop-units.invariant.fixed c.in_ok-r.ensures.fixed;
    }
