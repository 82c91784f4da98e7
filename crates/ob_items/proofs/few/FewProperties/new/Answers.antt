use Rattle.std.proofs.Common.{◌∙◌, ◌∷◌, [], ◌++◌, ap}
use Rattle.ob_items.proofs.FewLemmas.{AreDistinct-one}
use Rattle.ob_items.proofs.few.FewProperties.new.Goals as goal

pub invariant_of-result : goal.invariant_of-result
invariant_of-result c =
    AreDistinct-one (c.args.key, c.args.value) _
    (ap (λ v. v.items) c.in-Ok.ensures.ok ∙ c.in_ok-push_exact.ensures.ok
    ∙ (λ i. c.new-entries.ensures.items i ++ c.new.ensures i ∷ []))
