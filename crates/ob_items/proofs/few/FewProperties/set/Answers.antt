use Rattle.std.proofs.Common.{sym, subst}
use Rattle.ob_items.specs.Distinct.{AreDistinct}
use Rattle.ob_items.proofs.FewLemmas.{AreDistinct-written}
use Rattle.ob_items.proofs.few.FewProperties.set.Goals as goal

pub invariant_of-self : goal.invariant_of-self
invariant_of-self c =
    AreDistinct-written c.set_entry.result c.deref_mut.result.now.items c.set_entry.new.entries.items
    c.args.key.now c.args.value c.set_entry.ensures.ok c.set_entry.ensures.err
    (subst (λ v. AreDistinct v.items) (sym c.deref_mut.ensures.value) c.self.invariant)
