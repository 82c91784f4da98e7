use Rattle.std.proofs.Common.{◌≡◌, ◌∙◌, length, drop, subst, sym, ap, arith}
use Rattle.std.proofs.lemmas.Iterator.Adapters.{YieldsList-from_vec}
use Rattle.std.proofs.lemmas.Iterator.Consumers.{YieldsList-turn}
use Rattle.std.proofs.lemmas.List.{length_push}
use Rattle.ob_values.proofs.FixedLemmas.{KeepsFixed-then}
use Rattle.ob_text_methods.proofs.PlaceLemmas.{IsPlacing, Places, placing_step}
use Rattle.ob_text_methods.proofs.splits.place_texts.Goals as goal

pub returns-in_err-value-clause-fixed : goal.returns-in_err-value-clause-fixed
returns-in_err-value-clause-fixed c =
    KeepsFixed-then c.args.regions.now c.loop-units.regions c.place_text.new.regions c.loop-units.invariant.2.fixed c.place_text.ensures.fixed

pub returns-in_err-push-clause-fixed : goal.returns-in_err-push-clause-fixed
returns-in_err-push-clause-fixed c =
    KeepsFixed-then c.args.regions.now c.loop-units.regions c.place_text.new.regions c.loop-units.invariant.2.fixed c.place_text.ensures.fixed

pub loop-units-preserved : goal.loop-units-preserved
loop-units-preserved c =
    let texts = c.args.texts in
    let yielded = c.loop-units.yielded in
    let units = c.in-Some.units in
    let gives = c.into_iter-units-iterator.ensures.into_iter_gives in
    let items : c.into_iter-units-iterator.result.rest.items ≡ texts = gives.0 ∙ c.into_vec-units-items.ensures in
    let len : c.into_iter-units-iterator.result.rest.len ≡ length texts = omega (arith, gives.1, c.into_vec-units-items.result.ok.0, ap length c.into_vec-units-items.ensures) in
    let turn = YieldsList-turn (YieldsList-from_vec {s = c.into_iter-units-iterator.result} texts items len) yielded c.loop-units.units-iterator c.loop-units.yielded_by c.next.result c.next.new.self units c.in-Some.is c.next.ensures.steps in
    let placed : Places c.args.region c.loop-units.regions c.place_text.new.regions units c.in_ok-value.value = record {
      value_is = c.in_ok-value.ensures.value;
      store = c.in_ok-value.ensures.store;
      opened = c.in_ok-value.ensures.open;
      elements = c.in_ok-value.ensures.elements;
      sound = c.in_ok-value.ensures.sound;
      fixed = c.in_ok-value.ensures.fixed;
    } in
    let step = placing_step c.args.region c.args.regions.now c.loop-units.regions c.place_text.new.regions c.loop-units.values c.push.new.self texts (length yielded) units c.in_ok-value.value turn
    c.loop-units.invariant.2 placed c.in_ok-push.ensures.ok in
    (tt, tt, subst (λ n. IsPlacing c.args.region c.args.regions.now c.place_text.new.regions c.push.new.self texts (drop n texts)) (sym (length_push yielded units)) step)
