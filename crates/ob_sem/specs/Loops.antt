-- Loops (ECMA-262, "LoopEvaluation" and "ForIn/OfBodyEvaluation", in this project's profile). Each turn takes a step as its body is entered.
use Rattle.std.specs.Prelude.{ℕ, zero, suc, ◌+◌, Bool, [], ◌∷◌, ◌++◌, Option, Some, None, slice_get, unwrap_or, if◌then◌else◌}
use Rattle.ob_base.specs.declared.limits.Limit.TheVariants as limit
use Rattle.ob_items.specs.Bodies.{array_of}
use Rattle.ob_items.specs.declared.value.Ref.{Ref}
use Rattle.ob_items.specs.declared.value.Value.{Value}
use Rattle.ob_values.specs.Store.{read_item}
use Rattle.ob_actions.specs.Act.{Out, Go, Threw, Refused, Act, then_with, ◌>>=◌, pure, refuse, choose}
use Rattle.ob_actions.specs.Generators.{leave, end_left}
use Rattle.ob_actions.specs.Meters.{takes_step}
use Rattle.ob_actions.specs.Requests.{Reply}
use Rattle.ob_actions.specs.World.{World}
use Rattle.ob_sem.specs.Flows.{Flow, Next, Broke, Continued, Returned, Yielded, after_turn}
use Rattle.ob_sem.specs.Pending.{Pending}
use Rattle.ob_sem.specs.Scope.{Scope}
use Rattle.ob_sem.specs.Whole.{Whole, with_core, lift}

module _ (world : World) where
  -- ---- `while`, `do` and `for`

  -- at most n turns: the test, a step, the body, and what comes before the next test; frames hold the scope of their turn
  abbrev pub turns : ℕ → (Scope → Pending) → (Scope → Act Whole Bool) → (Scope → Act Whole Flow) → (Scope → Act Whole Scope) → Scope → Act Whole Flow
  turns zero frame test body next sc = refuse limit.Steps
  turns (suc n) frame test body next sc =
      test sc >>= (λ go. choose go
      (lift (takes_step world) >>= (λ _. body sc >>= (λ f.
      after_turn f (frame sc) (next sc >>= (λ inner. turns n frame test body next inner)))))
      (pure Next))

  -- each turn takes a step, so this many are enough
  abbrev pub loop : (Scope → Pending) → (Scope → Act Whole Bool) → (Scope → Act Whole Flow) → (Scope → Act Whole Scope) → Scope → Act Whole Flow
  loop frame test body next sc s = turns (suc s.core.left) frame test body next sc s

  -- ---- `for` over the elements of an array: by rising index, while the index is below the length

  abbrev pub element_turn : Option Value → (Value → Act Whole Flow) → (Flow → Act Whole Flow) → Act Whole Flow
  element_turn None turn k = pure Next
  element_turn (Some v) turn k = turn v >>= k

  abbrev pub elements_from : ℕ → Ref → ℕ → (ℕ → Pending) → (Value → Act Whole Flow) → Act Whole Flow
  elements_from zero r i frame turn s = Refused limit.Steps s
  elements_from (suc n) r i frame turn s =
      element_turn (slice_get (unwrap_or (read_item array_of s.core.store r) []) i) turn
      (λ f. after_turn f (frame (i + 1)) (elements_from n r (i + 1) frame turn)) s

  abbrev pub element_loop : Ref → ℕ → (ℕ → Pending) → (Value → Act Whole Flow) → Act Whole Flow
  element_loop r i frame turn s = elements_from (suc s.core.left) r i frame turn s

  -- ---- `for` over a generator object: it is pulled until it ends

  -- a throw or a flow that leaves the loop leaves the object before its end; a limit is no such leaving, and a throw goes on
  abbrev pub after_left : Ref → Pending → Act Whole Flow → Out Whole Flow → Out Whole Flow
  after_left r p k (Go Next s) = k s
  after_left r p k (Go Continued s) = k s
  after_left r p k (Go Broke s) = then_with (lift (leave world r) s) (λ _. pure Next)
  after_left r p k (Go (Returned v) s) = then_with (lift (leave world r) s) (λ _. pure (Returned v))
  after_left r p k (Go (Yielded v t ps) s) = Go (Yielded v t (ps ++ p ∷ [])) s
  after_left r p k (Threw v s) = Threw v (with_core (end_left r s.core) s)
  after_left r p k (Refused l s) = Refused l s

  -- a pull that ended the object ends the loop
  abbrev pub pulled : Reply → (Value → Act Whole Flow) → (Out Whole Flow → Out Whole Flow) → Act Whole Flow
  pulled reply turn k s = if reply.ended then Go Next s else k (turn reply.value s)

  abbrev pub pulls_from : ℕ → Ref → Act Whole Reply → Pending → (Value → Act Whole Flow) → Act Whole Flow
  pulls_from zero r pull frame turn = refuse limit.Steps
  pulls_from (suc n) r pull frame turn =
      pull >>= (λ reply. pulled reply turn (after_left r frame (pulls_from n r pull frame turn)))

  abbrev pub pull_loop : Ref → Act Whole Reply → Pending → (Value → Act Whole Flow) → Act Whole Flow
  pull_loop r pull frame turn s = pulls_from (suc s.core.left) r pull frame turn s
