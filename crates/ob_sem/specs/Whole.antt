-- The whole state of evaluation: what the actions see, and beside it the generators that stand still.
use Rattle.std.specs.Prelude.{List, [], ◌∷◌, Option, Some, None, if◌then◌else◌}
use Rattle.ob_items.specs.declared.frame.Taken.TheVariants as K
use Rattle.ob_items.specs.declared.value.Ref.{Ref}
use Rattle.ob_items.specs.declared.value.Value.{Value}
use Rattle.ob_values.specs.Values.{ref_eq}
use Rattle.ob_actions.specs.Act.{Out, Go, Threw, Refused, Act, then_with}
use Rattle.ob_actions.specs.Core.{Core, with_locals}
use Rattle.ob_actions.specs.Generators.{keeps}
use Rattle.ob_actions.specs.NewItems.{blank_frame}
use Rattle.ob_actions.specs.Requests.{Request, Reply, Plan, Ends, Asks, Planned}
use Rattle.ob_sem.specs.Pending.{Suspended}

-- by reference, the newest first
abbrev pub Kept : Type 0
Kept = List (Ref × Suspended)

pub record Whole : Type 0 where
  pub core : Core
  pub suspended : Kept

abbrev pub with_core : Core → Whole → Whole
with_core core s = record { core = core; suspended = s.suspended }

-- the generator at a reference, as it stands still
abbrev pub kept_at : Kept → Ref → Option Suspended
kept_at [] r = None
kept_at (e ∷ more) r = if ref_eq e.0 r then Some e.1 else kept_at more r

-- a generator stands still
abbrev pub suspends : Ref → Suspended → Whole → Whole
suspends r kept s = record { core = s.core; suspended = (r, kept) ∷ s.suspended }

-- its object keeps a frame again
abbrev pub stands_still : Ref → Suspended → Whole → Whole
stands_still r kept s = suspends r kept (with_core (keeps r (K.Held (blank_frame kept.code kept.inputs)) s.core) s)

-- ---- actions and plans over the whole state

abbrev pub lifted : {A : Type 0} → Kept → Out Core A → Out Whole A
lifted kept (Go a s) = Go a (record { core = s; suspended = kept })
lifted kept (Threw v s) = Threw v (record { core = s; suspended = kept })
lifted kept (Refused l s) = Refused l (record { core = s; suspended = kept })

-- an action sees no generator that stands still
unfoldable pub lift : {A : Type 0} → Act Core A → Act Whole A
lift m = λ s. lifted s.suspended (m s.core)

-- what answers the requests of a call
abbrev pub Caller : Type 0
Caller = Request → Act Whole Reply

abbrev pub carry : {A : Type 0} → Caller → Kept → Plan A → Out Whole A
carry enter kept (Ends o) = lifted kept o
carry enter kept (Asks request s k) = then_with (enter request (record { core = s; suspended = kept })) (λ reply. lift (k reply))

-- a plan, where requests are answered so
unfoldable pub carries : {A : Type 0} → Caller → Planned A → Act Whole A
carries enter plan = λ s. carry enter s.suspended (plan s.core)

-- ---- a call of its own locals: those of the caller are there again, however it ends

abbrev pub with_callers : {A : Type 0} → List (Option Value) → Out Whole A → Out Whole A
with_callers locals (Go a s) = Go a (with_core (with_locals locals s.core) s)
with_callers locals (Threw v s) = Threw v (with_core (with_locals locals s.core) s)
with_callers locals (Refused l s) = Refused l (with_core (with_locals locals s.core) s)

abbrev pub in_call : {A : Type 0} → List (Option Value) → Act Whole A → Act Whole A
in_call locals m s = with_callers s.core.locals (m (with_core (with_locals locals s.core) s))
