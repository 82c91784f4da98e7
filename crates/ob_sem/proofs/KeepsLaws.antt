-- From what the actions keep to what evaluation keeps.
use Rattle.ob_items.specs.declared.value.Ref.{Ref}
use Rattle.ob_values.specs.Store.{Store}
use Rattle.ob_actions.specs.Act.{Out, Go, Threw, Refused}
use Rattle.ob_actions.specs.Core.{Core}
use Rattle.ob_actions.proofs.AnyGood.{AnyRef, any_values, any_locals}
use Rattle.ob_actions.proofs.FromStore.{InStore, law_of_store}
use Rattle.ob_actions.proofs.Holds.{After}
use Rattle.ob_actions.proofs.Kept.{Law}
use Rattle.ob_actions.proofs.StoreLaw.{StoreLaw}
use Rattle.ob_sem.specs.Laws.{Ends, Keeps}
use Rattle.ob_sem.specs.Setting.{Setting}
use Rattle.ob_sem.specs.Whole.{Whole}
use Rattle.ob_sem.proofs.AnyScope.{any_scope, any_kept, any_request, any_texts}
use Rattle.ob_sem.proofs.Kept.{Wholly}
use Rattle.ob_sem.proofs.KeptCalled.{calls_hold, call_body_holds}

pub ends_so : {A : Type 0} (P : Core → Type 0) (G : Ref → Type 0) (Q : Whole → Type 0) (R : A → Type 0) → ((t : Whole) → P t.core → Q t) → (o : Out Whole A) → After (Wholly P G) G R o → Ends Q o
ends_so P G Q R f (Go a t) h = f t h.0.0
ends_so P G Q R f (Threw v t) h = f t h.0.0
ends_so P G Q R f (Refused l t) h = f t h.0

module _ (set : Setting) (Q : Whole → Whole → Type 0) (P : Whole → Core → Type 0) (begins : (s : Whole) → P s s.core) (ends : (s t : Whole) → P s t.core → Q s t) (law : (s : Whole) → Law (P s) AnyRef set.world) where
  pub keeps_by : Keeps set Q
  keeps_by = record {
    requests = λ depth q s. ends_so (P s) AnyRef (Q s) _ (ends s) _ ((calls_hold (P s) AnyRef set (law s) (any_texts set) tt depth q (any_request q)).runs s (begins s, any_kept s.suspended));
    bodies = λ depth f args sc s. ends_so (P s) AnyRef (Q s) _ (ends s) _
        ((call_body_holds (P s) AnyRef set (law s) (any_texts set) _ (calls_hold (P s) AnyRef set (law s) (any_texts set) tt depth) f args sc (any_values args) (any_scope sc)).runs s (begins s, any_kept s.suspended));
  }

-- by a property of the store
pub keeps_in_store : (set : Setting) (Q : Whole → Whole → Type 0) (P : Whole → Store → Type 0) → ((s : Whole) → P s s.core.store) → ((s t : Whole) → P s t.core.store → Q s t)
    → ((s : Whole) → StoreLaw (P s) AnyRef set.world) → Keeps set Q
keeps_in_store set Q P begins ends law =
    keeps_by set Q (λ s. InStore (P s) AnyRef) (λ s. (begins s, any_locals s.core.locals)) (λ s t h. ends s t h.0) (λ s. law_of_store (P s) AnyRef set.world (law s))
