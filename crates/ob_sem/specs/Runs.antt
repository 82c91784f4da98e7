-- The run of a cell, segment by segment (this project; after the Observable Runtime, "variable").
use Rattle.std.specs.Prelude.{ℕ, zero, suc, ◌+◌, ◌-◌, ◌==◌, Bool, true, false, List, [], ◌∷◌, map, Option, Some, None, is_some, if◌then◌else◌}
use Rattle.ob_base.specs.declared.limits.Limit.{Limit}
use Rattle.ob_base.specs.declared.limits.Limit.TheVariants as limit
use Rattle.ob_items.specs.Bodies.{kept_of}
use Rattle.ob_items.specs.Items.{live}
use Rattle.ob_items.specs.declared.error.Failure.{Failure}
use Rattle.ob_items.specs.declared.error.Failure.TheVariants as F
use Rattle.ob_items.specs.declared.frame.Taken.TheVariants as K
use Rattle.ob_items.specs.declared.item.Body.TheVariants as B
use Rattle.ob_items.specs.declared.value.Ref.{Ref}
use Rattle.ob_items.specs.declared.value.Value.{Value}
use Rattle.ob_items.specs.declared.value.Value.TheVariants as V
use Rattle.ob_tree_types.specs.declared.tree.Function.{Function}
use Rattle.ob_values.specs.Store.{Store, read_item, with_new, next_ref}
use Rattle.ob_actions.specs.Act.{Out, Go, Threw, Refused, Act, ◌>>=◌, pure}
use Rattle.ob_actions.specs.Calls.{pull}
use Rattle.ob_actions.specs.Core.{Effect, with_store}
use Rattle.ob_actions.specs.Freezing.{freeze}
use Rattle.ob_actions.specs.Generators.{keeps}
use Rattle.ob_actions.specs.Meters.{takes_step}
use Rattle.ob_actions.specs.Requests.{Reply}
use Rattle.ob_sem.specs.Called.{call_to, call_body}
use Rattle.ob_sem.specs.Scope.{Scope}
use Rattle.ob_sem.specs.Setting.{Setting}
use Rattle.ob_sem.specs.Whole.{Whole, Kept, with_core, lift, carries}

-- steps of a segment, and of the hooks of one invalidation
abbrev pub budget : ℕ
budget = 100000

-- calls that may be open inside one at depth 1
abbrev pub depth : ℕ
depth = 199

-- a value, or a failure
pub data Outcome : Type 0 where
  Gives : Value → Outcome
  Fails : Failure → Outcome

-- a run after a segment: its store, the generators that stand still, its own generator object, its outcome, whether it has ended, its
-- position, the kept functions of all segments, and of the last segment the texts that were logged, the changes and the steps
pub record Run : Type 0 where
  pub store : Store
  pub suspended : Kept
  pub generator : Option Ref
  pub outcome : Outcome
  pub ended : Bool
  pub position : ℕ
  pub hooks : List Value
  pub logs : List (List ℕ)
  pub effects : List Effect
  pub spent : ℕ

-- ---- how a segment ends

-- its code ends with a value, with what the run's generator object yields, or with that object's end
pub data Segment : Type 0 where
  Result : Value → Segment
  Step : Ref → Value → Segment
  End : Segment

abbrev pub step_or_end : Ref → Reply → Segment
step_or_end g reply = if reply.ended then End else Step g reply.value

-- a segment that meets the limit of steps costs the whole budget
abbrev pub spent_at : Limit → ℕ → ℕ
spent_at limit.Steps left = budget
spent_at _ left = budget - left

-- a limit ends the run's generator object, also where it runs
abbrev pub end_own : Option Ref → Whole → Whole
end_own None s = s
end_own (Some g) s = with_core (keeps g K.Ended s.core) s

abbrev pub run_of : Whole → Option Ref → Outcome → Bool → ℕ → ℕ → Run
run_of s g outcome ended position spent = record {
  store = s.core.store;
  suspended = s.suspended;
  generator = g;
  outcome = outcome;
  ended = ended;
  position = position;
  hooks = s.core.hooks;
  logs = s.core.logs;
  effects = s.core.effects;
  spent = spent;
}

abbrev pub frozen : Value → Whole → Whole
frozen v s = with_core (with_store (freeze v s.core.store) s.core) s

-- outcomes are frozen, thrown values too; an end behind the first segment keeps the outcome and the position
abbrev pub after_segment : Option Ref → Outcome → ℕ → Out Whole Segment → Run
after_segment g old position (Go (Result v) s) = run_of (frozen v s) g (Gives v) true (position + 1) (budget - s.core.left)
after_segment g old position (Go (Step r v) s) = run_of (frozen v s) (Some r) (Gives v) false (position + 1) (budget - s.core.left)
after_segment g old zero (Go End s) = run_of s g old true 1 (budget - s.core.left)
after_segment g old (suc position) (Go End s) = run_of s g old true (suc position) (budget - s.core.left)
after_segment g old position (Threw v s) = run_of (frozen v s) g (Fails (F.Threw v)) true (position + 1) (budget - s.core.left)
after_segment g old position (Refused l s) = run_of (end_own g s) g (Fails (F.Limit l)) true (position + 1) (spent_at l s.core.left)

-- ---- the region of a run, which begins with its invalidation object and the array of its inputs; these cost no elements

-- the run's own invalidation object stands among the inputs in the place of the builtin
abbrev pub own_input : Ref → Value → Value
own_input r (V.Builtin n) = if n == 8 then V.Ref r else V.Builtin n
own_input r v = v

abbrev pub own_invalidation : List Value → Ref → Option Ref
own_invalidation [] r = None
own_invalidation (V.Builtin n ∷ inputs) r = if n == 8 then Some r else own_invalidation inputs r
own_invalidation (v ∷ inputs) r = own_invalidation inputs r

-- ---- a state at the begin of a segment or of a hook

abbrev pub fresh : Store → Kept → List Value → ℕ → Whole
fresh store suspended hooks left = record {
  core = record { store = store; left = left; locals = []; logs = []; effects = []; hooks = hooks };
  suspended = suspended;
}

abbrev pub is_generator : Store → Value → Option Ref
is_generator store (V.Ref r) = if is_some (read_item kept_of store r) then Some r else None
is_generator store v = None

-- the value that is sent back: that of the outcome
abbrev pub sent_back : Outcome → Value
sent_back (Gives v) = v
sent_back (Fails f) = V.Undefined

module _ (set : Setting) where
  abbrev pub with_invalidation : Store → Store
  with_invalidation store = with_new store set.world.region (live (B.Invalidation 0)) 0

  abbrev pub with_inputs : List Value → Store → Store
  with_inputs inputs store =
      with_new (with_invalidation store) set.world.region
      (live (B.Inputs (map (own_input (next_ref store set.world.region)) inputs))) 0

  abbrev pub run_scope : ℕ → List Value → Store → Scope
  run_scope code inputs store = record {
    code = code;
    next = 1;
    names = [];
    size = 0;
    inputs = next_ref (with_invalidation store) set.world.region;
    invalidation = own_invalidation inputs (next_ref store set.world.region);
  }

  -- ---- segments

  -- a pull of the run's own generator object, at depth 1
  abbrev pub own_pull : Ref → Value → Act Whole Segment
  own_pull g v = carries (call_to set (suc depth)) (pull set.world g v) >>= (λ reply. pure (step_or_end g reply))

  -- a value of the body that is a generator object is pulled once; an end before the first `yield` gives undefined
  abbrev pub first_pull : Option Ref → Value → Whole → Run
  first_pull None v s = after_segment None (Gives V.Undefined) 0 (Go (Result v) s)
  first_pull (Some g) v s = after_segment (Some g) (Gives V.Undefined) 0 (own_pull g V.Undefined s)

  abbrev pub after_body : Out Whole Value → Run
  after_body (Go v s) = first_pull (is_generator s.core.store v) v s
  after_body (Threw v s) = after_segment None (Gives V.Undefined) 0 (Threw v s)
  after_body (Refused l s) = after_segment None (Gives V.Undefined) 0 (Refused l s)

  -- the body of a cell is called, at depth 1
  abbrev pub called : Function → Scope → Act Whole Value
  called f sc = lift (takes_step set.world) >>= (λ _. call_body set (call_to set depth) f [] sc)

  -- the first segment of a cell's function, whose text has this number, on these inputs, in a region that is empty
  abbrev pub begin : Function → ℕ → List Value → Store → Run
  begin f code inputs store =
      after_body (called f (run_scope code inputs store) (fresh (with_inputs inputs store) [] [] budget))

  -- one pull more
  abbrev pub pulled_once : Run → Option Ref → Run
  pulled_once r None = r
  pulled_once r (Some g) =
      after_segment (Some g) r.outcome r.position (own_pull g (sent_back r.outcome) (fresh r.store r.suspended r.hooks budget))

  -- a run that has ended stays as it is
  abbrev pub step : Run → Run
  step r = if r.ended then r else pulled_once r r.generator

  -- the run after n segments more than the first
  abbrev pub segments : Function → ℕ → List Value → Store → ℕ → Run
  segments f code inputs store zero = begin f code inputs store
  segments f code inputs store (suc n) = step (segments f code inputs store n)
