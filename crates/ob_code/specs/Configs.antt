-- The states of a running call (this project): its place, its operands with the top first, what is open with the innermost first, and the state
-- of the run.
use Rattle.std.specs.Prelude.{ℕ, List, [], ◌∷◌, Option, Some, None, if◌then◌else◌}
use Rattle.ob_items.specs.declared.value.CodeKey.{CodeKey}
use Rattle.ob_items.specs.declared.value.Ref.{Ref}
use Rattle.ob_items.specs.declared.value.Value.{Value}
use Rattle.ob_values.specs.Values.{ref_eq}
use Rattle.ob_actions.specs.Act.{Out}
use Rattle.ob_actions.specs.Core.{Core}
use Rattle.ob_code.specs.declared.entry.Entry.{Entry}

-- what a call is of: the number of the text and of the function, the array of the inputs, and the invalidation object of the run, if the text
-- refers to that
pub record Here : Type 0 where
  pub key : CodeKey
  pub inputs : Ref
  pub invalidation : Option Ref

-- a call that stands at a `yield`
pub record Frame : Type 0 where
  pub here : Here
  pub place : ℕ
  pub entries : List Entry
  pub boxes : List Ref
  pub locals : List (Option Value)

-- the frames of the generator objects, the newest first; the store holds blank ones
abbrev pub Frames : Type 0
Frames = List (Ref × Frame)

abbrev pub frame_at : Frames → Ref → Option Frame
frame_at [] r = None
frame_at (e ∷ frames) r = if ref_eq e.0 r then Some e.1 else frame_at frames r

-- what a call has beside the state of the run: its arguments, the boxes of the bindings around it, the outermost first, and the frames
pub record Own : Type 0 where
  pub args : List Value
  pub boxes : List Ref
  pub frames : Frames

abbrev pub with_boxes : List Ref → Own → Own
with_boxes boxes o = record { args = o.args; boxes = boxes; frames = o.frames }

abbrev pub with_frames : Frames → Own → Own
with_frames frames o = record { args = o.args; boxes = o.boxes; frames = frames }

-- it runs, it has ended, it stands at a `yield` with the value that it gives, or it misses what an instruction needs
pub data Config : Type 0 where
  Running : (place : ℕ) → (operands : List Value) → (entries : List Entry) → Core → Own → Config
  Done : Out Core Value → Frames → Config
  Paused : Value → (place : ℕ) → (entries : List Entry) → Core → Own → Config
  Stuck : Config
