use Rattle.std.proofs.Common.{refl, inl, IsTrue}
use Rattle.ob_items.specs.declared.value.Ref.{Ref}
use Rattle.ob_actions.specs.Core.{Core}
use Rattle.ob_actions.proofs.Kept.{Law}
use Rattle.ob_actions.proofs.FromStore.{InStore, law_of_store}
use Rattle.ob_actions.proofs.OwnRegion.{OwnAlone, own_law}
use Rattle.ob_sem.specs.Laws.{InReach, OthersStay}
use Rattle.ob_sem.proofs.KeepsLaws.{ends_so}
use Rattle.ob_sem.proofs.KeptCalled.{calls_hold, call_body_holds}
use Rattle.ob_sem.proofs.own_region_alone.Goals as goal

pub returns : goal.returns
returns c = λ set outside s closed within texts.
    let out : Ref → Type 0 = λ r. IsTrue (outside r) in
    let G : Ref → Type 0 = InReach set outside in
    let P : Core → Type 0 = InStore (OwnAlone s.core.store set.world out closed) G in
    let law : Law P G set.world = law_of_store (OwnAlone s.core.store set.world out closed) G set.world (own_law s.core.store set.world out closed) in
    record {
      requests = λ depth q good. ends_so P G (OthersStay set s) _ (λ t h. h.0.0) _
          ((calls_hold P G set law texts (inl refl) depth q good).runs s ((((λ key apart. refl), within.items), within.locals), within.suspended));
      bodies = λ depth f args sc good scope. ends_so P G (OthersStay set s) _ (λ t h. h.0.0) _
          ((call_body_holds P G set law texts _ (calls_hold P G set law texts (inl refl) depth) f args sc good scope).runs s ((((λ key apart. refl), within.items), within.locals), within.suspended));
    }
