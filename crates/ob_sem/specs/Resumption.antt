-- How a generator that stands still goes on (ECMA-262, "GeneratorResume", in this project's profile).
use Rattle.std.specs.Prelude.{Bool, true, false, List, [], ◌∷◌, Option, Some, None}
use Rattle.ob_items.specs.declared.frame.Taken.TheVariants as K
use Rattle.ob_items.specs.declared.thrown.Thrown.TheVariants as T
use Rattle.ob_items.specs.declared.value.Ref.{Ref}
use Rattle.ob_items.specs.declared.value.Value.{Value}
use Rattle.ob_items.specs.declared.value.Value.TheVariants as V
use Rattle.ob_actions.specs.Act.{Out, Go, Threw, Refused, Act, then_with, ◌>>=◌, pure}
use Rattle.ob_actions.specs.Calls.{pull}
use Rattle.ob_actions.specs.Generators.{keeps}
use Rattle.ob_actions.specs.Meters.{throws}
use Rattle.ob_actions.specs.Operators.{truth}
use Rattle.ob_actions.specs.Requests.{Reply}
use Rattle.ob_sem.specs.Bindings.{copy, assign_name, first_name}
use Rattle.ob_sem.specs.Evaluation.{eval, test, maybe, exec, run, declare, handle, last, with_element_in}
use Rattle.ob_sem.specs.Flows.{Flow, Next, Yielded, after_flow, after_turn, caught, finished, result_of}
use Rattle.ob_tree.specs.Functions.{in_expr, in_stmt, in_maybe}
use Rattle.ob_sem.specs.Loops.{loop, element_loop, pull_loop, after_left}
use Rattle.ob_sem.specs.Pending.{Pending, Rest, MoreDecls, WhileLoop, DoLoop, ForLoop, ElementLoop, PullLoop, Handler, Last, Taker, Ignored, Assigned, Declared, Suspended}
use Rattle.ob_sem.specs.Scope.{behind}
use Rattle.ob_sem.specs.Setting.{Setting}
use Rattle.ob_sem.specs.Whole.{Whole, Caller, kept_at, with_core, stands_still, lift, carries, in_call}

-- a value, and whether a generator object has ended
abbrev pub reply_of : Bool → Value → Reply
reply_of ended v = record { value = v; ended = ended }

-- what stays to be done and has stopped again at a `yield`
abbrev pub again : Suspended → Taker → List Pending → List (Option Value) → Suspended
again kept t ps locals = record { taker = t; frames = ps; locals = locals; code = kept.code; inputs = kept.inputs }

-- what a resumption leaves in the object; a throw ends it, and at a limit it goes on running
abbrev pub left_in : Ref → Suspended → Out Whole Flow → Out Whole Reply
left_in r kept (Go (Yielded v t ps) s) = Go (reply_of false v) (stands_still r (again kept t ps s.core.locals) s)
left_in r kept (Go f s) = Go (reply_of true (result_of f)) (with_core (keeps r K.Ended s.core) s)
left_in r kept (Threw v s) = Threw v (with_core (keeps r K.Ended s.core) s)
left_in r kept (Refused l s) = Refused l s

module _ (set : Setting) (enter_call : Caller) where
  abbrev pub take_sent : Taker → Value → Act Whole Flow
  take_sent Ignored v = pure Next
  take_sent (Assigned x sc) v = assign_name set x v sc >>= (λ _. pure Next)
  take_sent (Declared x sc) v = first_name set x v sc >>= (λ _. pure Next)

  -- a frame, after what the frames inside it gave: the same words as where it was first met
  abbrev pub resume_after : Pending → Out Whole Flow → Out Whole Flow
  resume_after (Rest rest sc) o = then_with o (λ f. after_flow f (Rest rest sc) (run set enter_call rest sc))
  resume_after (MoreDecls rest sc) o = then_with o (λ f. after_flow f (MoreDecls rest sc) (declare set enter_call rest sc))
  resume_after (WhileLoop c a sc) o =
      then_with o (λ f. after_turn f (WhileLoop c a sc)
      (loop set.world (WhileLoop c a) (λ i. eval set enter_call c i >>= (λ v. lift (truth v)))
      (λ i. exec set enter_call a (behind (in_expr c) i)) pure sc))
  resume_after (DoLoop a c sc) o =
      then_with o (λ f. after_turn f (DoLoop a c sc)
      (loop set.world (DoLoop a c) (λ i. eval set enter_call c (behind (in_stmt a) i) >>= (λ v. lift (truth v)))
      (λ i. exec set enter_call a i) pure sc))
  resume_after (ForLoop k t u a sc) o =
      then_with o (λ f. after_turn f (ForLoop k t u a sc)
      (copy set k sc >>= (λ next. maybe set enter_call u (behind (in_maybe t) next) >>= (λ _.
      loop set.world (ForLoop k t u a) (λ i. test set enter_call t i)
      (λ i. exec set enter_call a (behind (in_maybe u) (behind (in_maybe t) i)))
      (λ i. copy set k i >>= (λ inner. maybe set enter_call u (behind (in_maybe t) inner) >>= (λ _. pure inner))) next))))
  resume_after (ElementLoop r i k x a sc) o =
      then_with o (λ f. after_turn f (ElementLoop r i k x a sc)
      (element_loop set.world r i (λ j. ElementLoop r j k x a sc) (with_element_in set k x a sc (λ inner. exec set enter_call a inner))))
  resume_after (PullLoop r k x a sc) o =
      after_left set.world r (PullLoop r k x a sc)
      (pull_loop set.world r (carries enter_call (pull set.world r V.Undefined)) (PullLoop r k x a sc)
      (with_element_in set k x a sc (λ inner. exec set enter_call a inner))) o
  resume_after (Handler c sc) o = caught (Handler c sc) o (λ v. handle set enter_call c sc v)
  resume_after (Last f sc) o = finished (Last f sc) o (last set enter_call f sc)

  -- the innermost frame first
  abbrev pub resume_all : List Pending → Out Whole Flow → Out Whole Flow
  resume_all [] o = o
  resume_all (p ∷ ps) o = resume_all ps (resume_after p o)

  -- the object runs, with its own locals, until it stands still again or ends
  abbrev pub go_on : Ref → Value → Suspended → Act Whole Reply
  go_on r v kept =
      in_call kept.locals (λ s. left_in r kept (resume_all kept.frames (take_sent kept.taker v (with_core (keeps r K.Runs s.core) s))))

  -- an object that keeps a frame has one beside the store
  abbrev pub resume_kept : Ref → Value → Option Suspended → Act Whole Reply
  resume_kept r v None = lift (throws set.world T.GeneratorRunning)
  resume_kept r v (Some kept) = go_on r v kept

  abbrev pub resume : Ref → Value → Act Whole Reply
  resume r v s = resume_kept r v (kept_at s.suspended r) s
