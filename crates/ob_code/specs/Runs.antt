-- What calls come to (this project): each runs the code of its function from the entry on, and a resumption goes on where the generator stands.
use Rattle.std.specs.Prelude.{◌≡◌, ℕ, zero, suc, Bool, true, false, List, [], ◌∷◌, ◌++◌, length, Option, Some, None}
use Rattle.std.specs.Option.{option_map}
use Rattle.ob_base.specs.declared.limits.Limit.TheVariants as limit
use Rattle.ob_items.specs.Bodies.{closure_of}
use Rattle.ob_items.specs.declared.frame.Taken.TheVariants as K
use Rattle.ob_items.specs.declared.item.Closure.{Closure as Kept}
use Rattle.ob_items.specs.declared.thrown.Thrown.TheVariants as T
use Rattle.ob_items.specs.declared.value.CodeKey.{CodeKey}
use Rattle.ob_items.specs.declared.value.Ref.{Ref}
use Rattle.ob_items.specs.declared.value.Value.{Value}
use Rattle.ob_items.specs.declared.value.Value.TheVariants as V
use Rattle.ob_values.specs.Store.{read_item}
use Rattle.ob_actions.specs.Act.{Out, Go, Threw, Refused}
use Rattle.ob_actions.specs.Core.{Core, with_locals}
use Rattle.ob_actions.specs.Generators.{keeps}
use Rattle.ob_actions.specs.Meters.{takes_step, throws}
use Rattle.ob_actions.specs.NewItems.{blank_frame}
use Rattle.ob_actions.specs.Requests.{Closure, Prelude, Resume, Reply}
use Rattle.ob_actions.specs.World.{World}
use Rattle.ob_code.specs.Code.{Code, code_of, function_at}
use Rattle.ob_code.specs.Codes.{Numbered, chunk_at}
use Rattle.ob_code.specs.Configs.{Here, Frame, Frames, frame_at, Own, Config, Running, Done, Paused}
use Rattle.ob_code.specs.Steps.{Calls, Leads}
use Rattle.ob_code.specs.declared.chunk.Chunk.{Chunk}
use Rattle.ob_code.specs.declared.entry.Entry.{Entry}

-- ---- the code of a function, in its text

pub record Program : Type 0 where
  pub chunk : Chunk
  pub code : Code

abbrev pub program_in : ℕ → Option Chunk → Option Program
program_in function None = None
program_in function (Some chunk) = option_map (λ f. record { chunk = chunk; code = code_of f }) (function_at chunk function)

abbrev pub program_of : Numbered → CodeKey → Option Program
program_of codes key = program_in key.function (chunk_at codes key.code)

-- ---- how a call begins

-- the boxes at the entry: so many of those that a function value keeps, the last first
abbrev pub entry_boxes : Ref → ℕ → List Ref → List Ref
entry_boxes nowhere zero boxes = []
entry_boxes nowhere (suc n) [] = entry_boxes nowhere n [] ++ nowhere ∷ []
entry_boxes nowhere (suc n) (r ∷ boxes) = entry_boxes nowhere n boxes ++ r ∷ []

abbrev pub entered : Here → Code → List Value → List Ref → Core → Frames → Config
entered here code args boxes s fs =
    Running 0 [] [] (with_locals [] s) (record { args = args; boxes = entry_boxes here.inputs (length code.captures) boxes; frames = fs })

abbrev pub here_of : Kept → Here
here_of c = record { key = c.code; inputs = c.inputs; invalidation = c.invalidation }

-- a text of the prelude is called as a function that keeps nothing
abbrev pub prelude_here : World → ℕ → Here
prelude_here world code = record {
  key = record { code = code; function = 0 };
  inputs = record { region = world.region; item = 0 };
  invalidation = None;
}

-- ---- how a call ends

-- the locals of the caller are there again, however it ends
abbrev pub with_callers : {A : Type 0} → List (Option Value) → Out Core A → Out Core A
with_callers locals (Go a s) = Go a (with_locals locals s)
with_callers locals (Threw v s) = Threw v (with_locals locals s)
with_callers locals (Refused l s) = Refused l (with_locals locals s)

abbrev pub reply_of : Bool → Value → Reply
reply_of has_ended v = record { value = v; ended = has_ended }

abbrev pub replied : Out Core Value → Out Core Reply
replied (Go v s) = Go (reply_of false v) s
replied (Threw v s) = Threw v s
replied (Refused l s) = Refused l s

-- a call that is no pull; a `yield` in it gives undefined
abbrev pub Returns : Config → Out Core Value → Frames → Type 0
Returns (Done out fs) p gs = (p ≡ out) × (gs ≡ fs)
Returns (Paused v place es s o) p gs = (p ≡ Go V.Undefined s) × (gs ≡ o.frames)
Returns _ p gs = ⊥

-- the end of the code, or a throw, ends a generator object; at a limit it goes on running
abbrev pub ended : Ref → Out Core Value → Out Core Reply
ended r (Go v s) = Go (reply_of true v) (keeps r K.Ended s)
ended r (Threw v s) = Threw v (keeps r K.Ended s)
ended r (Refused l s) = Refused l s

abbrev pub frame_of : Here → ℕ → List Entry → Core → Own → Frame
frame_of here place es s o = record { here = here; place = place; entries = es; boxes = o.boxes; locals = s.locals }

abbrev pub stands_still : Here → Ref → Core → Core
stands_still here r s = keeps r (K.Held (blank_frame here.key.code here.inputs)) s

-- a pull: the object stands still at a `yield`, or it has ended
abbrev pub Pauses : Here → Ref → List (Option Value) → Config → Out Core Reply → Frames → Type 0
Pauses here r locals (Done out fs) p gs = (p ≡ with_callers locals (ended r out)) × (gs ≡ fs)
Pauses here r locals (Paused v place es s o) p gs =
    (p ≡ Go (reply_of false v) (with_locals locals (stands_still here r s))) × (gs ≡ (r, frame_of here place es s o) ∷ o.frames)
Pauses here r locals _ p gs = ⊥

module _ (world : World) (codes : Numbered) where
  -- ---- calls of functions

  abbrev pub RunsCode : Calls → Here → Option Program → List Value → List Ref → Core → Frames → Out Core Reply → Frames → Type 0
  RunsCode calls here None args boxes s fs p gs = (p ≡ throws world T.NotAFunction s) × (gs ≡ fs)
  RunsCode calls here (Some x) args boxes s fs p gs =
      (c : Config) × Leads world calls x.chunk x.code here (entered here x.code args boxes s fs) c
      × (out : Out Core Value) × Returns c out gs × (p ≡ with_callers s.locals (replied out))

  abbrev pub RunsClosure : Calls → Option Kept → List Value → Core → Frames → Out Core Reply → Frames → Type 0
  RunsClosure calls None args s fs p gs = (p ≡ throws world T.NotAFunction s) × (gs ≡ fs)
  RunsClosure calls (Some c) args s fs p gs = RunsCode calls (here_of c) (program_of codes c.code) args c.boxes s fs p gs

  -- ---- resumptions: the value that is sent stands on the operands

  abbrev pub GoesOn : Calls → Ref → Value → Frame → Option Program → Core → Frames → Out Core Reply → Frames → Type 0
  GoesOn calls r v f None s fs p gs = (p ≡ throws world T.NotAFunction s) × (gs ≡ fs)
  GoesOn calls r v f (Some x) s fs p gs =
      (c : Config)
      × Leads world calls x.chunk x.code f.here
      (Running f.place (v ∷ []) f.entries (keeps r K.Runs (with_locals f.locals s)) (record { args = []; boxes = f.boxes; frames = fs })) c
      × Pauses f.here r s.locals c p gs

  abbrev pub Resumes : Calls → Ref → Value → Option Frame → Core → Frames → Out Core Reply → Frames → Type 0
  Resumes calls r v None s fs p gs = (p ≡ throws world T.GeneratorRunning s) × (gs ≡ fs)
  Resumes calls r v (Some f) s fs p gs = GoesOn calls r v f (program_of codes f.here.key) s fs p gs

  -- ---- requests

  abbrev pub CarriesOut : Calls → Calls
  CarriesOut calls (Closure r args) s fs p gs = RunsClosure calls (read_item closure_of s.store r) args s fs p gs
  CarriesOut calls (Prelude code args) s fs p gs =
      RunsCode calls (prelude_here world code) (program_of codes (prelude_here world code).key) args [] s fs p gs
  CarriesOut calls (Resume r v) s fs p gs = Resumes calls r v (frame_at fs r) s fs p gs

  -- what follows the step that a call takes
  abbrev pub After : Out Core (Unit {0}) → (Core → Out Core Reply → Frames → Type 0) → Frames → Out Core Reply → Frames → Type 0
  After (Go _ s) next fs p gs = next s p gs
  After (Threw v s) next fs p gs = (p ≡ Threw v s) × (gs ≡ fs)
  After (Refused l s) next fs p gs = (p ≡ Refused l s) × (gs ≡ fs)

  -- requests, where so many calls more may be open: the test of depth comes first, then the step
  abbrev pub calls_to : ℕ → Calls
  calls_to zero request s fs p gs = (p ≡ Refused limit.Calls s) × (gs ≡ fs)
  calls_to (suc depth) request s fs p gs =
      After (takes_step world s) (λ t. CarriesOut (calls_to depth) request t fs) fs p gs

  -- a call of a text's own code, inside which so many calls more may be open
  abbrev pub Starts : ℕ → Here → Core → Frames → Out Core Reply → Frames → Type 0
  Starts depth here s fs p gs =
      After (takes_step world s) (λ t. RunsCode (calls_to depth) here (program_of codes here.key) [] [] t fs) fs p gs
