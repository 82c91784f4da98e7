use Rattle.std.proofs.Common.{◌≡◌, ◌<◌, ◌∙◌, ap, sym, length, arith}
use Rattle.std.specs.Ordering.{nat_cmp}
use Rattle.std.specs.BTreeMap.{insert_entry}
use Rattle.ob_items.proofs.IndexLemmas.{put-here}
use Rattle.ob_items.proofs.few_indices.set_entry.Goals as goal

pub returns-in-Equal-clause-ok : goal.returns-in-Equal-clause-ok
returns-in-Equal-clause-ok c =
    let within : c.loop-at.at < length c.loop-at.entries.items =
    omega (arith, c.loop-at-test.true, c.len-at-end.ensures, ap length c.loop-at.invariant.same) in
    sym (put-here c.args.index c.args.value c.loop-at.entries.items c.loop-at.at c.index.result.now
    c.index.ensures within (sym c.cmp.ensures ∙ c.in-Equal.is))
    ∙ sym c.loop-at.invariant.written
    ∙ ap (λ es. insert_entry nat_cmp es c.args.index c.args.value) c.loop-at.invariant.same
