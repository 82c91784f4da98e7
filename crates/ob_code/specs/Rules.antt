-- The rules of code: one pass over the instructions of each function hands the shape of a call on, from each place to those that follow it.
-- An instruction breaks them where it misses an operand or what it names, where it leads past the end, and where it leads in another shape
-- to a place to which a way leads already. A place to which no way leads breaks none.
use Rattle.std.specs.Prelude.{◌≡◌, ℕ, ◌+◌, nat_lt, nat_le, Bool, ◌&&◌, List, [], ◌∷◌, length, replicate, Option, Some, None, slice_set, if◌then◌else◌}
use Rattle.std.specs.Option.{option_and_then}
use Rattle.ob_code.specs.Code.{Site, site_of, functions_of, boxes_for_each}
use Rattle.ob_code.specs.Shapes.{Shapes, shape_at, joined, is_opened_by, keeps_open}
use Rattle.ob_code.specs.Ways.{ways_of}
use Rattle.ob_code.specs.declared.chunk.Chunk.{Chunk, out-Chunk}
use Rattle.ob_code.specs.declared.op.Op.{Op}
use Rattle.ob_code.specs.declared.spot.Spot.{Spot}
use Rattle.ob_code.specs.declared.shape.Open.TheVariants as open_at
use Rattle.ob_code.specs.declared.shape.Shape.{Shape}
use Rattle.ob_code.specs.declared.shape.Way.{Way}
use Rattle.ob_code.specs.declared.shape.Ways.{Ways}
use Rattle.ob_code.specs.declared.shape.Ways.TheVariants as ways

-- the shapes when all instructions keep the rules, or the place of the first that breaks them
pub data Walk : Type 0 where
  Keeps : Shapes → Walk
  Breaks : ℕ → Walk

abbrev pub on_from : Option Shapes → ℕ → (Shapes → Walk) → Walk
on_from None place k = Breaks place
on_from (Some shapes) place k = k shapes

-- that place, if there is one
abbrev pub break_of : Walk → Option ℕ
break_of (Keeps shapes) = None
break_of (Breaks place) = Some place

abbrev pub first_shape : ℕ → Shape
first_shape boxes = record { operands = 0; locals = 0; boxes = boxes; inside = open_at.Nothing }

abbrev pub with_shape : ℕ → Shapes → Option Shape → Option Shapes
with_shape place shapes None = None
with_shape place shapes (Some s) = Some (slice_set shapes place (Some s))

module _ (site : Site) where
  -- a call has room for what it has in this shape
  abbrev pub has_room : Shape → Bool
  has_room s = nat_le s.operands site.operands && nat_le s.locals site.locals

  -- a way leads ahead to an instruction, in a shape for which there is room, inside what was opened by then, and with what that needs
  abbrev pub is_way : ℕ → Way → Shapes → Bool
  is_way place w shapes =
      nat_lt place w.place && nat_lt w.place (length shapes) && has_room w.shape && is_opened_by place w.shape.inside && keeps_open shapes w.shape

  -- the shapes with one way more
  abbrev pub handed : ℕ → Way → Shapes → Option Shapes
  handed place w shapes = if is_way place w shapes then with_shape w.place shapes (joined (shape_at shapes w.place) w.shape) else None

  abbrev pub all_handed : ℕ → Ways → Shapes → Option Shapes
  all_handed place ways.Nowhere shapes = Some shapes
  all_handed place (ways.One a) shapes = handed place a shapes
  all_handed place (ways.Two a b) shapes = option_and_then (handed place b) (handed place a shapes)
  all_handed place (ways.Three a b c) shapes = option_and_then (handed place c) (option_and_then (handed place b) (handed place a shapes))

  abbrev pub handed_by : ℕ → Option Ways → Shapes → Option Shapes
  handed_by place None shapes = None
  handed_by place (Some w) shapes = all_handed place w shapes

  abbrev pub passed_in : Op → ℕ → Shapes → Option Shape → Option Shapes
  passed_in o place shapes None = Some shapes
  passed_in o place shapes (Some s) = handed_by place (ways_of site shapes place o s) shapes

  -- past one instruction
  abbrev pub passed : Op → ℕ → Shapes → Option Shapes
  passed o place shapes = passed_in o place shapes (shape_at shapes place)

  -- over the instructions from a place on
  abbrev pub walk : List Op → ℕ → Shapes → Walk
  walk [] place shapes = Keeps shapes
  walk (o ∷ ops) place shapes = on_from (passed o place shapes) place (λ more. walk ops (place + 1) more)

  -- the shape at the entry alone is known; a function has an instruction there
  abbrev pub entry_shapes : Option Shapes
  entry_shapes =
      if nat_lt 0 (length site.ops) then Some (slice_set (replicate (length site.ops) None) 0 (Some (first_shape site.boxes))) else None

  -- over the whole code of a function
  abbrev pub walk_function : Walk
  walk_function = on_from entry_shapes 0 (walk site.ops 0)

-- ---- all functions of a text

abbrev pub spot_in : ℕ → Option ℕ → Option Spot
spot_in function None = None
spot_in function (Some place) = Some (record { function = function; place = place })

abbrev pub or_else : Option Spot → Option Spot → Option Spot
or_else None other = other
or_else (Some spot) other = Some spot

abbrev pub break_in : List ℕ → ℕ → Chunk → Option ℕ
break_in asked boxes c = break_of (walk_function (site_of asked boxes c))

-- a function in a text has no functions of its own: else its first instruction breaks the rules
abbrev pub break_in_inner : List ℕ → Chunk → Option ℕ
break_in_inner asked c =
    if nat_lt 0 (length (functions_of c)) then Some 0 else break_in asked (length (out-Chunk c).captures) c

abbrev pub break_in_functions : List ℕ → ℕ → List Chunk → Option Spot
break_in_functions asked number [] = None
break_in_functions asked number (c ∷ rest) =
    or_else (spot_in number (break_in_inner asked c)) (break_in_functions asked (number + 1) rest)

-- the first instruction that breaks the rules; the text itself has no boxes at its entry
abbrev pub first_break : Chunk → Option Spot
first_break c =
    or_else (spot_in 0 (break_in (boxes_for_each (functions_of c)) 0 c)) (break_in_functions (boxes_for_each (functions_of c)) 1 (functions_of c))

-- all code of a text keeps the rules
abbrev pub KeepsRules : Chunk → Type 0
KeepsRules c = first_break c ≡ None
