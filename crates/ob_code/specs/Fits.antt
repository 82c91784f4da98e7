-- A running call fits the shape at its place: it has so many operands, at least so many locals and boxes, and what is open in it was opened where
-- the shape says. So it finds the next instruction, and the operands, locals, boxes, texts and open parts that this needs.
use Rattle.std.specs.Prelude.{◌≡◌, ℕ, zero, suc, ◌+◌, ◌<◌, ◌≤◌, true, List, [], ◌∷◌, length, Option, Some, None, slice_get}
use Rattle.ob_items.specs.declared.value.Ref.{Ref}
use Rattle.ob_items.specs.declared.value.Value.{Value}
use Rattle.ob_actions.specs.Core.{Core}
use Rattle.ob_actions.specs.World.{World}
use Rattle.ob_code.specs.Code.{Site, code_of, site_of, functions_of, boxes_for_each, function_at}
use Rattle.ob_code.specs.Configs.{Here, Frames, Own, Config, Running, Done, Paused, Stuck}
use Rattle.ob_code.specs.Rules.{Walk, Keeps, Breaks, walk_function, KeepsRules}
use Rattle.ob_code.specs.Codes.{Numbered}
use Rattle.ob_code.specs.Runs.{entered, calls_to}
use Rattle.ob_code.specs.Shapes.{Shapes, shape_at, opener}
use Rattle.ob_code.specs.Steps.{Calls, Steps}
use Rattle.ob_code.specs.Ways.{is_nothing}
use Rattle.ob_code.specs.declared.chunk.Chunk.{Chunk, out-Chunk}
use Rattle.ob_code.specs.declared.entry.Entry.{Entry}
use Rattle.ob_code.specs.declared.entry.Entry.TheVariants as entry
use Rattle.ob_code.specs.declared.op.Op.{Op}
use Rattle.ob_code.specs.declared.op.Op.TheVariants as op
use Rattle.ob_code.specs.declared.shape.Open.{Open}
use Rattle.ob_code.specs.declared.shape.Open.TheVariants as open_at
use Rattle.ob_code.specs.declared.shape.Shape.{Shape}

-- ---- the shapes of a function's code

abbrev pub boxes_at_entry : ℕ → Chunk → ℕ
boxes_at_entry zero c = 0
boxes_at_entry (suc n) c = length (out-Chunk c).captures

-- the function of a number, as the rules look at it
abbrev pub site_at : Chunk → ℕ → Chunk → Site
site_at chunk number f = site_of (boxes_for_each (functions_of chunk)) (boxes_at_entry number f) f

abbrev pub shapes_in : Walk → Shapes
shapes_in (Keeps shapes) = shapes
shapes_in (Breaks place) = []

abbrev pub shapes_of : Site → Shapes
shapes_of site = shapes_in (walk_function site)

-- ---- what is open

-- the instruction at a place opened this
abbrev pub IsOpenedBy : Option Op → ℕ → Entry → Type 0
IsOpenedBy (Some (op.Loop out again)) p (entry.Turn a b) = (a ≡ p + 1 + out) × (b ≡ p + 1 + again)
IsOpenedBy (Some (op.Over out again)) p (entry.Elements a b r i) = (a ≡ p + 1 + out) × (b ≡ p + 1 + again)
IsOpenedBy (Some (op.Over out again)) p (entry.Pulls a b r) = (a ≡ p + 1 + out) × (b ≡ p + 1 + again)
IsOpenedBy (Some (op.Try n)) p (entry.Handler a) = a ≡ p + 1 + n
IsOpenedBy (Some (op.Last n)) p (entry.Last a) = a ≡ p + 1 + n
IsOpenedBy _ p e = ⊥

abbrev pub IsEntryOf : List Op → Open → Entry → Type 0
IsEntryOf ops (open_at.In p) e = IsOpenedBy (slice_get ops p) p e
IsEntryOf ops (open_at.After p) (entry.After how) = Unit {0}
IsEntryOf ops _ e = ⊥

-- the entries of a call stand for what is open, from the innermost on
abbrev pub StandFor : List Op → Shapes → Open → List Entry → Type 0
StandFor ops shapes inside [] = is_nothing inside ≡ true
StandFor ops shapes inside (e ∷ es) =
    (t : Shape) × (opener shapes inside ≡ Some t) × IsEntryOf ops inside e × StandFor ops shapes t.inside es

-- ---- configurations

module _ (ops : List Op) (shapes : Shapes) where
  abbrev pub FitsShape : Option Shape → List Value → List Entry → Core → Own → Type 0
  FitsShape None st es s o = ⊥
  FitsShape (Some t) st es s o =
      (length st ≡ t.operands) × StandFor ops shapes t.inside es × (t.locals ≤ length s.locals) × (t.boxes ≤ length o.boxes)

  -- one that stands at a `yield` fits where it goes on, with the value that is sent
  abbrev pub Fits : Config → Type 0
  Fits (Running place st es s o) = FitsShape (shape_at shapes place) st es s o
  Fits (Done out frames) = Unit {0}
  Fits (Paused v place es s o) = FitsShape (shape_at shapes place) (v ∷ []) es s o
  Fits Stuck = ⊥

-- ---- what an instruction finds

-- the locals that an instruction names
abbrev pub AreLocals : ℕ → Op → Type 0
AreLocals n (op.GetLocal i) = i < n
AreLocals n (op.SetLocal i) = i < n
AreLocals n (op.InitLocal i) = i < n
AreLocals n (op.BinaryLocal b i) = i < n
AreLocals n (op.CompareLocal c i) = i < n
AreLocals n (op.UpdateLocal u i) = i < n
AreLocals n (op.StoreLocal i) = i < n
AreLocals n (op.TurnWhileInt c i k to) = i < n
AreLocals n (op.TurnWhileLocal c i j to) = (i < n) × (j < n)
AreLocals n (op.Enter size more) = size ≤ n
AreLocals n _ = Unit {0}

-- the instruction at the place is there, and so are the locals that it names
abbrev pub Finds : List Op → Config → Type 0
Finds ops (Running place st es s o) = (i : Op) × (slice_get ops place ≡ Some i) × AreLocals (length s.locals) i
Finds ops _ = Unit {0}

-- a generator object that an instruction begins stands where it fits
abbrev pub BeginsWell : List Op → Shapes → Config → Type 0
BeginsWell ops shapes (Running place st es s o) =
    slice_get ops place ≡ Some op.Begin → (v : Value) → Fits ops shapes (Running (place + 1) (v ∷ []) [] s o)
BeginsWell ops shapes _ = Unit {0}

-- ---- code that keeps the rules is never stuck: a call fits at its entry, each step leads to a configuration that fits, and one that fits finds
-- what its instruction needs

pub record NeverStuck (world : World) (calls : Calls) (chunk f : Chunk) (here : Here) (shapes : Shapes) : Type 0 where
  pub enters : (args : List Value) (boxes : List Ref) (s : Core) (fs : Frames) → Fits (code_of f).ops shapes (entered here (code_of f) args boxes s fs)
  pub goes_on : (c d : Config) → Fits (code_of f).ops shapes c → Steps world calls chunk (code_of f) here c d → Fits (code_of f).ops shapes d
  pub finds : (c : Config) → Fits (code_of f).ops shapes c → Finds (code_of f).ops c
  pub begins : (c : Config) → Fits (code_of f).ops shapes c → BeginsWell (code_of f).ops shapes c

abbrev pub RulesSuffice : Type 0
RulesSuffice =
    (world : World) (codes : Numbered) (depth : ℕ) (chunk f : Chunk) (number : ℕ) (here : Here) → KeepsRules chunk → function_at chunk number ≡ Some f
    → NeverStuck world (calls_to world codes depth) chunk f here (shapes_of (site_at chunk number f))
