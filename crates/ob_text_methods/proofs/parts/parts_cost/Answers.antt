use Rattle.std.proofs.Common.{◌≡◌, ◌+◌, ◌-◌, ◌^◌, min, length, subst, sym, arith}
use Rattle.ob_text_methods.proofs.PartLemmas.{IsCounting, counting_more, counting_ended}
use Rattle.ob_values.specs.Store.{text_cost}
use Rattle.ob_text_methods.proofs.parts.parts_cost.Goals as goal

pub loop-place-preserved : goal.loop-place-preserved
loop-place-preserved c =
    let total : c.saturating_add-total.result ≡ min (c.loop-place.total + (1 + text_cost c.in-Some.place)) (2 ^ 64 - 1) =
    omega (arith, c.saturating_add-total.ensures, c.text_elements.ensures) in
    subst (λ rest. IsCounting c.args.piece.now c.args.units.now rest c.saturating_add-total.result) (sym c.behind-rest.ensures)
    (counting_more _ _ _ _ _ _ c.requires.some c.in-Some.ensures.place c.in-Some.ensures.within c.loop-place.invariant total)

pub returns : goal.returns
returns c =
    let total : c.saturating_add.result ≡ min (c.loop-place.total + (1 + text_cost (length c.loop-place.rest.now))) (2 ^ 64 - 1) =
    omega (arith, c.saturating_add.ensures, c.text_elements-2.ensures) in
    counting_ended _ _ _ _ _ c.requires.some c.in_default.ensures.place c.loop-place.invariant total
