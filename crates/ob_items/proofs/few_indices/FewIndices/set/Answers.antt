use Rattle.std.proofs.Common.{sym, subst}
use Rattle.ob_items.specs.Rising.{AreRising}
use Rattle.ob_items.proofs.IndexLemmas.{AreRising-written}
use Rattle.ob_items.proofs.few_indices.FewIndices.set.Goals as goal

pub invariant_of-self : goal.invariant_of-self
invariant_of-self c =
    AreRising-written c.set_entry.result c.deref_mut.result.now.items c.set_entry.new.entries.items
    c.args.index c.args.value c.set_entry.ensures.ok c.set_entry.ensures.err
    (subst (λ v. AreRising v.items) (sym c.deref_mut.ensures.value) c.self.invariant)
