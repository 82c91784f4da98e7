use Rattle.std.proofs.Common.{◌≡◌, Some, IsTrue}
use Rattle.ob_items.specs.Item.{Item}
use Rattle.ob_items.specs.declared.value.Ref.{Ref}
use Rattle.ob_values.specs.Fixed.{is_fixed}
use Rattle.ob_values.specs.Store.{item_of}
use Rattle.ob_actions.proofs.FixedStay.{FixedStays, fixed_law}
use Rattle.ob_sem.proofs.KeepsLaws.{keeps_in_store}
use Rattle.ob_sem.proofs.fixed_stays.Goals as goal

pub returns : goal.returns
returns c = λ set. keeps_in_store set
    (λ s t. (r : Ref) (item : Item) → item_of s.core.store r ≡ Some item → IsTrue (is_fixed item) → item_of t.core.store r ≡ Some item)
    (λ s. FixedStays s.core.store set.world) (λ s r item is fixed. is) (λ s t h. h) (λ s. fixed_law s.core.store set.world)
