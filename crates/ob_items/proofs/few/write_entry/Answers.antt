use Rattle.std.proofs.Common.{◌≡◌, ◌<◌, ◌∙◌, ap, sym, length, nat_eq, slice_set, true, arith}
use Rattle.std.specs.Cmp.Lexicographic.{pointwise}
use Rattle.indexmap.specs.IndexMap.{insert_entry}
use Rattle.ob_items.proofs.FewLemmas.{insert_entry-here}
use Rattle.ob_items.proofs.few.write_entry.Goals as goal

pub returns-then-eq-clause-there : goal.returns-then-eq-clause-there
returns-then-eq-clause-there c =
    let within : c.loop-at.at < length c.loop-at.entries.items =
    omega (arith, c.loop-at-test.true, c.len-at-end.ensures, ap length c.loop-at.invariant.same) in
    let same : pointwise nat_eq c.args.key.now c.index.result.now.0 ≡ true =
    ap (pointwise nat_eq c.args.key.now) (sym c.key.ensures) ∙ sym c.if-eq.ensures in
    ap (slice_set c.loop-at.entries.items c.loop-at.at) c.write.ensures
    ∙ sym (insert_entry-here c.args.key.now c.args.value c.loop-at.entries.items c.loop-at.at
    c.index.result.now c.index_mut.result.now c.index.ensures c.index_mut.ensures.value within same)
    ∙ sym c.loop-at.invariant.written
    ∙ ap (λ es. insert_entry (pointwise nat_eq) es c.args.key.now c.args.value) c.loop-at.invariant.same
