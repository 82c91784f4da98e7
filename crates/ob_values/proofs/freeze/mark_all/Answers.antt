use Rattle.std.proofs.Common.{ap, sym, take, ◌∙◌}
use Rattle.std.proofs.lemmas.List.Sums.{fold_more}
use Rattle.std.proofs.lemmas.Option.{get_or_from_slice_get}
use Rattle.ob_values.specs.Store.{with_mark}
use Rattle.ob_values.specs.Freeze.{all_marked}
use Rattle.ob_values.proofs.SeenLemmas.{within_at}
use Rattle.ob_values.proofs.freeze.mark_all.Goals as goal

pub loop-at-preserved : goal.loop-at-preserved
loop-at-preserved c =
    let seen = c.args.seen.now in
    let at = c.loop-at.at in
    let r = c.at.result in
    c.mark.ensures ∙ ap (λ s. with_mark s r) c.loop-at.invariant
    ∙ ap (with_mark (all_marked c.args.regions.now (take at seen))) (sym (get_or_from_slice_get seen at r r c.at.ensures))
    ∙ sym (fold_more with_mark c.args.regions.now seen at r (within_at seen at r c.at.ensures))
