-- At each segment of a run, what is frozen or never written stays so and keeps its body.
use Rattle.std.proofs.Common.{ℕ, zero, suc, Bool, true, false, List, [], ◌∷◌, Option, Some, None, refl, if◌then◌else◌}
use Rattle.ob_items.specs.declared.frame.Taken.TheVariants as K
use Rattle.ob_items.specs.declared.item.Body.TheVariants as B
use Rattle.ob_items.specs.declared.value.Ref.{Ref}
use Rattle.ob_items.specs.declared.value.Value.{Value}
use Rattle.ob_items.specs.declared.value.Value.TheVariants as V
use Rattle.ob_tree_types.specs.declared.tree.Function.{Function}
use Rattle.ob_values.proofs.FixedLemmas.{KeepsFixed-then, KeepsFixed-marks}
use Rattle.ob_values.specs.Fixed.{KeepsFixed}
use Rattle.ob_values.specs.Freeze.{refs_of, with_refs}
use Rattle.ob_values.specs.Store.{Store}
use Rattle.ob_actions.specs.Act.{Out, Go, Threw, Refused}
use Rattle.ob_actions.specs.Calls.{pull}
use Rattle.ob_actions.specs.Core.{Core}
use Rattle.ob_actions.specs.Freezing.{freeze, reached_in, item_count}
use Rattle.ob_actions.specs.Within.{Good}
use Rattle.ob_actions.proofs.AnyGood.{AnyRef, any_value, any_body}
use Rattle.ob_actions.proofs.FixedStay.{FixedStays, fixed_law}
use Rattle.ob_actions.proofs.FromStore.{InStore, law_of_store}
use Rattle.ob_actions.proofs.Holds.{Any, After, Holds, bind}
use Rattle.ob_actions.proofs.Kept.{GoodReply, Law}
use Rattle.ob_actions.proofs.KeptCalls.{pull_holds}
use Rattle.ob_sem.specs.Called.{call_to}
use Rattle.ob_sem.specs.Runs.{Run, Outcome, Gives, Segment, Result, Step, End, depth, budget, end_own, after_segment, own_pull, first_pull, after_body, called, is_generator, with_invalidation, with_inputs, run_scope, fresh, begin, sent_back, pulled_once}
use Rattle.ob_sem.specs.Setting.{Setting}
use Rattle.ob_sem.specs.Whole.{Whole}
use Rattle.ob_sem.proofs.AnyScope.{any_scope, any_kept, any_texts}
use Rattle.ob_sem.proofs.Kept.{Wholly, carries_holds}
use Rattle.ob_sem.proofs.KeptCalled.{calls_hold, call_body_holds}
use Rattle.ob_sem.proofs.KeptWalk.{step as step_taken}

-- where each fixed item of the store at the begin is as it was
module _ (set : Setting) (start : Store) where
  abbrev P : Core → Type 0
  P = InStore (FixedStays start set.world) AnyRef

  law : Law P AnyRef set.world
  law = law_of_store (FixedStays start set.world) AnyRef set.world (fixed_law start set.world)

  kept : (s : Store) → FixedStays start set.world s → KeepsFixed start s
  kept s h r item is fixed = record { item = item; is = h r item is fixed; body = refl; fixed = fixed }

  frozen_too : (s : Store) (v : Value) → FixedStays start set.world s → KeepsFixed start (freeze v s)
  frozen_too s v h = KeepsFixed-then start s (freeze v s) (kept s h) (KeepsFixed-marks (reached_in (item_count s) s (with_refs [] (refs_of (v ∷ [])))) s)

  ended_too : (g : Option Ref) (s : Whole) → Wholly P AnyRef s → FixedStays start set.world (end_own g s).core.store
  ended_too None s h = h.0.0
  ended_too (Some g) s h = (law.keeps g K.Ended s.core tt h.0).0

  segment_keeps : (g : Option Ref) (old : Outcome) (position : ℕ) (o : Out Whole Segment) → After (Wholly P AnyRef) AnyRef Any o → KeepsFixed start (after_segment g old position o).store
  segment_keeps g old position (Go (Result v) s) h = frozen_too s.core.store v h.0.0.0
  segment_keeps g old position (Go (Step r v) s) h = frozen_too s.core.store v h.0.0.0
  segment_keeps g old zero (Go End s) h = kept s.core.store h.0.0.0
  segment_keeps g old (suc position) (Go End s) h = kept s.core.store h.0.0.0
  segment_keeps g old position (Threw v s) h = frozen_too s.core.store v h.0.0.0
  segment_keeps g old position (Refused l s) h = kept _ (ended_too g s h)

  pull_keeps : (g : Ref) (v : Value) → Holds (Wholly P AnyRef) AnyRef Any (own_pull set g v)
  pull_keeps g v =
      bind (Wholly P AnyRef) AnyRef
      (carries_holds P AnyRef (call_to set (suc depth)) (calls_hold P AnyRef set law (any_texts set) tt (suc depth)) (GoodReply AnyRef) (pull set.world g v) (pull_holds P AnyRef set.world law g v tt (any_value v)))
      (λ reply _. record { runs = λ s h. (h, tt) })

  first_keeps : (g : Option Ref) (v : Value) (s : Whole) → Wholly P AnyRef s → KeepsFixed start (first_pull set g v s).store
  first_keeps None v s h = segment_keeps None (Gives V.Undefined) 0 (Go (Result v) s) (h, tt)
  first_keeps (Some g) v s h = segment_keeps (Some g) (Gives V.Undefined) 0 (own_pull set g V.Undefined s) ((pull_keeps g V.Undefined).runs s h)

  body_keeps : (o : Out Whole Value) → After (Wholly P AnyRef) AnyRef Any o → KeepsFixed start (after_body set o).store
  body_keeps (Go v s) h = first_keeps (is_generator s.core.store v) v s h.0
  body_keeps (Threw v s) h = segment_keeps None (Gives V.Undefined) 0 (Threw v s) h
  body_keeps (Refused l s) h = segment_keeps None (Gives V.Undefined) 0 (Refused l s) h

  called_keeps : (f : Function) (code : ℕ) (inputs : List Value) (store : Store) → Holds (Wholly P AnyRef) AnyRef Any (called set f (run_scope set code inputs store))
  called_keeps f code inputs store =
      bind (Wholly P AnyRef) AnyRef (step_taken P AnyRef set law (any_texts set)) (λ _ _. record {
        runs = λ s h.
            any_result _ ((call_body_holds P AnyRef set law (any_texts set) (call_to set depth) (calls_hold P AnyRef set law (any_texts set) tt depth) f [] (run_scope set code inputs store) tt (any_scope (run_scope set code inputs store))).runs s h);
      })
    where
      any_result : (o : Out Whole Value) → After (Wholly P AnyRef) AnyRef (Good AnyRef) o → After (Wholly P AnyRef) AnyRef Any o
      any_result (Go v s) h = (h.0, tt)
      any_result (Threw v s) h = h
      any_result (Refused l s) h = h

  -- a state at the begin of a segment
  begun : (s : Store) (k : _) (hooks : List Value) (left : ℕ) → FixedStays start set.world s → Wholly P AnyRef (fresh s k hooks left)
  begun s k hooks left h = ((h, tt), any_kept k)

  pub begin_keeps : (f : Function) (code : ℕ) (inputs : List Value) (store : Store) → FixedStays start set.world (with_inputs set inputs store) → KeepsFixed start (begin set f code inputs store).store
  begin_keeps f code inputs store h =
      body_keeps (called set f (run_scope set code inputs store) (fresh (with_inputs set inputs store) [] [] budget)) ((called_keeps f code inputs store).runs _ (begun (with_inputs set inputs store) [] [] budget h))

  pub once_keeps : (r : Run) (g : Option Ref) → FixedStays start set.world r.store → KeepsFixed start (pulled_once set r g).store
  once_keeps r None h = kept r.store h
  once_keeps r (Some g) h =
      segment_keeps (Some g) r.outcome r.position (own_pull set g (sent_back r.outcome) (fresh r.store r.suspended r.hooks budget))
      ((pull_keeps g (sent_back r.outcome)).runs _ (begun r.store r.suspended r.hooks budget h))

  pub step_keeps : (b : Bool) (r : Run) → FixedStays start set.world r.store → KeepsFixed start (if b then r else pulled_once set r r.generator).store
  step_keeps true r h = kept r.store h
  step_keeps false r h = once_keeps r r.generator h

  -- the two items with which the region of a run begins
  pub inputs_keep : (inputs : List Value) (store : Store) → FixedStays start set.world store → FixedStays start set.world (with_inputs set inputs store)
  inputs_keep inputs store h =
      (fixed_law start set.world).news (with_invalidation set store) (B.Inputs _) 0 (any_body (B.Inputs _)) ((fixed_law start set.world).news store (B.Invalidation 0) 0 tt h)
