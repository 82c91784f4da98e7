use Rattle.std.proofs.Common.{◌∙◌, ◌∷◌, [], ◌++◌, ap}
use Rattle.ob_items.proofs.IndexLemmas.{AreRising-one}
use Rattle.ob_items.proofs.few_indices.FewIndices.new.Goals as goal

pub invariant_of-result : goal.invariant_of-result
invariant_of-result c =
    AreRising-one (c.args.index, c.args.value) _
    (ap (λ v. v.items) c.in-Ok.ensures.ok ∙ c.in_ok-push_exact.ensures.ok
    ∙ (λ i. c.new-entries.ensures.items i ++ (c.args.index, c.args.value) ∷ []))
