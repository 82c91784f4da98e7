-- Where every reference counts as good, all scopes and all generators that stand still are.
use Rattle.ob_items.specs.declared.value.Ref.{Ref}
use Rattle.ob_actions.specs.Places.{Place, Slot, Boxed}
use Rattle.ob_actions.specs.Requests.{Request, Closure, Prelude, Resume}
use Rattle.ob_actions.specs.Within.{Each, IfThere, Good, GoodPlace, GoodRequest}
use Rattle.ob_actions.proofs.AnyGood.{AnyRef, any_value, any_values, any_each, any_there, any_ref, any_locals}
use Rattle.ob_sem.specs.Pending.{Pending, Rest, MoreDecls, WhileLoop, DoLoop, ForLoop, ElementLoop, PullLoop, Handler, Last, Taker, Ignored, Assigned, Declared, Suspended}
use Rattle.ob_sem.specs.Scope.{Scope}
use Rattle.ob_sem.specs.Setting.{Setting, Text, text_at}
use Rattle.ob_sem.specs.Whole.{Kept}
use Rattle.ob_sem.specs.Within.{GoodBinding, GoodScope, GoodTaker, GoodPending, GoodEntry, GoodTexts}

any_place : (p : Place) → GoodPlace AnyRef p
any_place (Slot i) = tt
any_place (Boxed r) = tt

pub any_scope : (sc : Scope) → GoodScope AnyRef sc
any_scope sc = (any_each (GoodBinding AnyRef) (λ b. any_place b.place) sc.names, tt, any_ref sc.invalidation)

any_taker : (t : Taker) → GoodTaker AnyRef t
any_taker Ignored = tt
any_taker (Assigned x sc) = any_scope sc
any_taker (Declared x sc) = any_scope sc

any_pending : (p : Pending) → GoodPending AnyRef p
any_pending (Rest rest sc) = any_scope sc
any_pending (MoreDecls rest sc) = any_scope sc
any_pending (WhileLoop c a sc) = any_scope sc
any_pending (DoLoop a c sc) = any_scope sc
any_pending (ForLoop k t u a sc) = any_scope sc
any_pending (ElementLoop r i k x a sc) = (tt, any_scope sc)
any_pending (PullLoop r k x a sc) = (tt, any_scope sc)
any_pending (Handler c sc) = any_scope sc
any_pending (Last f sc) = any_scope sc

any_entry : (e : Ref × Suspended) → GoodEntry AnyRef e
any_entry e = (any_taker e.1.taker, any_each (GoodPending AnyRef) any_pending e.1.frames, any_locals e.1.locals)

pub any_kept : (kept : Kept) → Each (GoodEntry AnyRef) kept
any_kept kept = any_each (GoodEntry AnyRef) any_entry kept

pub any_request : (q : Request) → GoodRequest AnyRef q
any_request (Closure r args) = (tt, any_values args)
any_request (Prelude k args) = any_values args
any_request (Resume r v) = (tt, any_value v)

pub any_texts : (set : Setting) → GoodTexts AnyRef set
any_texts set code = any_there (λ (text : Text). IfThere (Each (Good AnyRef)) text.given) (λ text. any_there (Each (Good AnyRef)) any_values text.given) (text_at set code)
