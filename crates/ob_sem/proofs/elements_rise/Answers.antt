use Rattle.std.proofs.Common.{◌≤◌, arith}
use Rattle.ob_values.specs.Store.{elements_in}
use Rattle.ob_actions.proofs.ElementsRise.{HasElements, elements_law}
use Rattle.ob_sem.proofs.KeepsLaws.{keeps_in_store}
use Rattle.ob_sem.proofs.elements_rise.Goals as goal

pub returns : goal.returns
returns c = λ set. keeps_in_store set (λ s t. elements_in s.core.store set.world.region ≤ elements_in t.core.store set.world.region)
    (λ s. HasElements (elements_in s.core.store set.world.region) set.world)
    (λ s. let e : elements_in s.core.store set.world.region ≤ elements_in s.core.store set.world.region = omega arith in e) (λ s t h. h)
    (λ s. elements_law (elements_in s.core.store set.world.region) set.world)
