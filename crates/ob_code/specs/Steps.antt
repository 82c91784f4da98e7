-- How a call runs (this project): one instruction after another. A call inside it is a step, which ends as that call ends.
use Rattle.std.specs.Prelude.{◌≡◌, ℕ, ◌+◌, List, [], ◌∷◌, Option, Some, None, slice_get, unwrap_or, if◌then◌else◌}
use Rattle.ob_items.specs.Bodies.{array_of}
use Rattle.ob_items.specs.declared.value.Ref.{Ref}
use Rattle.ob_items.specs.declared.value.Value.{Value}
use Rattle.ob_items.specs.declared.value.Value.TheVariants as V
use Rattle.ob_values.specs.Store.{read_item}
use Rattle.ob_actions.specs.Act.{Out, then_with}
use Rattle.ob_actions.specs.Calls.{Callee, invoke, pull}
use Rattle.ob_actions.specs.Core.{Core}
use Rattle.ob_actions.specs.Requests.{Request, Reply, Plan, Ends, Asks}
use Rattle.ob_actions.specs.World.{World}
use Rattle.ob_code.specs.Code.{Code}
use Rattle.ob_code.specs.Configs.{Here, Frames, Own, Config, Running, Done, Paused, Stuck, with_frames}
use Rattle.ob_code.specs.Instructions.{act, gathered, callee_of}
use Rattle.ob_code.specs.Leaves.{given}
use Rattle.ob_code.specs.declared.chunk.Chunk.{Chunk}
use Rattle.ob_code.specs.declared.entry.Entry.{Entry}
use Rattle.ob_code.specs.declared.entry.Entry.TheVariants as entry
use Rattle.ob_code.specs.declared.op.Op.{Op}
use Rattle.ob_code.specs.declared.op.Op.TheVariants as op

-- what a request comes to, from a state and frames
abbrev pub Calls : Type 1
Calls = Request → Core → Frames → Out Core Reply → Frames → Type 0

-- a plan, where requests come to this
abbrev pub Carries : {A : Type 0} → Calls → Plan A → Frames → Out Core A → Frames → Type 0
Carries calls (Ends o) fs p gs = (p ≡ o) × (gs ≡ fs)
Carries calls (Asks request s k) fs p gs = (o : Out Core Reply) × calls request s fs o gs × (p ≡ then_with o k)

-- what is called, the arguments, and the operands below them
abbrev pub callee_below : List Value → List Value → Option (Callee × List Value × List Value)
callee_below args (f ∷ receiver ∷ st) = Some (callee_of receiver f, args, st)
callee_below args _ = None

abbrev pub callee_in : Option (List Value × List Value) → Option (Callee × List Value × List Value)
callee_in None = None
callee_in (Some p) = callee_below p.0 p.1

-- ---- the next element of a loop

abbrev pub elements_in : Core → Ref → List Value
elements_in s r = unwrap_or (read_item array_of s.store r) []

-- the loop is closed where there is none
abbrev pub element : Option Value → ℕ → ℕ → Ref → ℕ → ℕ → List Value → List Entry → Core → Own → Config
element None out again r i pc st es s o = Running out st es s o
element (Some v) out again r i pc st es s o = Running (pc + 1) (v ∷ st) (entry.Elements out again r (i + 1) ∷ es) s o

abbrev pub pulled : ℕ → ℕ → Ref → ℕ → List Value → List Entry → Own → Reply → Core → Config
pulled out again r pc st es o reply s =
    if reply.ended then Running out st es s o else Running (pc + 1) (reply.value ∷ st) (entry.Pulls out again r ∷ es) s o

module _ (world : World) (calls : Calls) (chunk : Chunk) (code : Code) (here : Here) where
  abbrev pub called : Option (Callee × List Value × List Value) → ℕ → List Entry → Core → Own → Config → Type 0
  called None pc es s o c = c ≡ Stuck
  called (Some p) pc es s o c =
      (out : Out Core Value) × (frames : Frames) × Carries calls (invoke world p.0 p.1 s) o.frames out frames
      × (c ≡ given world out es (with_frames frames o) (λ v t. Running (pc + 1) (v ∷ p.2) es t (with_frames frames o)))

  abbrev pub each : List Entry → ℕ → List Value → Core → Own → Config → Type 0
  each (entry.Elements out again r i ∷ es) pc st s o c = c ≡ element (slice_get (elements_in s r) i) out again r i pc st es s o
  each (entry.Pulls out again r ∷ es) pc st s o c =
      (reply : Out Core Reply) × (frames : Frames) × Carries calls (pull world r V.Undefined s) o.frames reply frames
      × (c ≡ given world reply es (with_frames frames o) (pulled out again r pc st es (with_frames frames o)))
  each _ pc st s o c = c ≡ Stuck

  abbrev pub acts : Option Op → ℕ → List Value → List Entry → Core → Own → Config → Type 0
  acts None pc st es s o c = c ≡ Stuck
  acts (Some (op.Call n)) pc st es s o c = called (callee_in (gathered n st [])) pc es s o c
  acts (Some op.Each) pc st es s o c = each es pc st s o c
  acts (Some i) pc st es s o c = c ≡ act world chunk code here i pc st es s o

  -- from one configuration to the next
  abbrev pub Steps : Config → Config → Type 0
  Steps (Running pc st es s o) c = acts (slice_get code.ops pc) pc st es s o c
  Steps (Done out frames) c = ⊥
  Steps (Paused v pc es s o) c = ⊥
  Steps Stuck c = ⊥

-- some steps lead from one configuration to another
pub data Leads (world : World) (calls : Calls) (chunk : Chunk) (code : Code) (here : Here) : Config → Config → Type 0 where
  at : {c : Config} → Leads world calls chunk code here c c
  goes : {a b c : Config} → Steps world calls chunk code here a b → Leads world calls chunk code here b c → Leads world calls chunk code here a c
