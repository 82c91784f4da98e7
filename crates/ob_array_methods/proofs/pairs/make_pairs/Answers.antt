use Rattle.std.specs.List.{Contains}
use Rattle.std.proofs.Common.{subst, ◌≡◌, ◌∙◌, ◌<◌, ◌++◌, ◌∷◌, [], ap, arith, length, get_or, length-append}
use Rattle.ob_items.specs.declared.properties.Property.{Property}
use Rattle.ob_items.specs.declared.value.Value.TheVariants as V
use Rattle.ob_values.proofs.FixedLemmas.{KeepsFixed-then}
use Rattle.ob_values.specs.ObjectFunctions.{with_pair}
use Rattle.ob_values.specs.Sound.{pointers_of}
use Rattle.ob_values.specs.Store.{next_ref, with_literal_in}
use Rattle.ob_array_methods.proofs.PairLemmas.{pairs-more, with_pairs-more, made-more, value_among}
use Rattle.ob_array_methods.proofs.pairs.make_pairs.Goals as goal

pub loop-property-preserved : goal.loop-property-preserved
loop-property-preserved c =
    let properties = c.args.properties.now in
    let i = c.loop-property.property-index in
    let item = c.property-item.result in
    let within : i < length properties = omega arith in
    let s = c.loop-property.regions in
    let n = c.make_pair.new.regions in
    let stored : n ≡ with_pair c.args.region s (get_or properties i item) = c.in_ok-pair.ensures.store ∙ ap (with_pair c.args.region s) c.property-item.is in
    let value = c.in_ok-pair.ensures.value ∙ ap (λ (p : Property). V.Ref (next_ref (with_literal_in s c.args.region p.key) c.args.region)) c.property-item.is in
    let pushed = c.in_ok-push.ensures.ok ∙ ap (λ v. c.loop-property.values ++ v ∷ []) value in
    record {
      opened = c.in_ok-pair.ensures.open;
      elements = omega (arith, c.in_ok-pair.ensures.elements, c.loop-property.invariant.elements);
      values = pairs-more c.args.region properties i item s n c.loop-property.values c.push.new.self within stored pushed ∙ c.loop-property.invariant.values;
      store = with_pairs-more c.args.region properties i item s n within stored ∙ c.loop-property.invariant.store;
      count = omega (arith, length-append c.loop-property.values (c.in_ok-pair.pair ∷ []), ap length c.in_ok-push.ensures.ok, c.loop-property.invariant.count);
      sound = made-more c.args.regions.now s n _ (pointers_of (item.value ∷ [])) c.loop-property.values c.push.new.self c.in_ok-pair.pair (λ p h. value_among properties i item p within (subst (λ (q : Property). Contains (pointers_of (q.value ∷ [])) p) c.property-item.is h)) c.in_ok-push.ensures.ok c.loop-property.invariant.sound c.in_ok-pair.ensures.sound;
      fixed = KeepsFixed-then c.args.regions.now s n c.loop-property.invariant.fixed c.in_ok-pair.ensures.fixed;
    }

pub returns-in_err-pair-clause-fixed : goal.returns-in_err-pair-clause-fixed
returns-in_err-pair-clause-fixed c = KeepsFixed-then c.args.regions.now c.loop-property.regions c.make_pair.new.regions c.loop-property.invariant.fixed c.make_pair.ensures.fixed

pub returns-in_err-push-clause-fixed : goal.returns-in_err-push-clause-fixed
returns-in_err-push-clause-fixed c = KeepsFixed-then c.args.regions.now c.loop-property.regions c.make_pair.new.regions c.loop-property.invariant.fixed c.make_pair.ensures.fixed
