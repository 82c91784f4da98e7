use Rattle.std.proofs.Common.{arith, ap, ◌∙◌, ◌∷◌, []}
use Rattle.ob_values.specs.Freeze.{frozen_next, refs_of, with_refs}
use Rattle.ob_values.proofs.ReachLemmas.{search-start, search-step, search-end}
use Rattle.ob_values.proofs.freeze.reached.Goals as goal

pub loop-at-init : goal.loop-at-init
loop-at-init c = search-start (frozen_next c.args.regions.now) (refs_of (c.args.value ∷ [])) c.add_value.new.seen
    (c.in_ok-add_value.ensures ∙ ap (λ l. with_refs l (refs_of (c.args.value ∷ []))) c.new-seen.ensures)

pub loop-at-preserved : goal.loop-at-preserved
loop-at-preserved c = search-step _ _ _ _ c.loop-at.invariant _ _ c.at-r.ensures c.in_ok-add_item.ensures

pub returns : goal.returns
returns c = λ b. (c.loop-at.invariant.sound b, search-end _ _ _ _ c.loop-at.invariant (omega arith) b)
