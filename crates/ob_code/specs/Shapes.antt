-- The shape of a call at each place of a function's code, as far as it is known; the places to which no way leads have none.
use Rattle.std.specs.Prelude.{ℕ, ◌==◌, nat_le, min, Bool, true, false, ◌&&◌, List, Option, Some, None, slice_index_or, if◌then◌else◌}
use Rattle.std.specs.Option.{option_map_or}
use Rattle.ob_code.specs.declared.shape.Open.{Open}
use Rattle.ob_code.specs.declared.shape.Open.TheVariants as open_at
use Rattle.ob_code.specs.declared.shape.Shape.{Shape}

abbrev pub Shapes : Type 0
Shapes = List (Option Shape)

abbrev pub shape_at : Shapes → ℕ → Option Shape
shape_at shapes place = slice_index_or shapes place None

-- ---- other shapes

abbrev pub with_operands : ℕ → Shape → Shape
with_operands n s = record { operands = n; locals = s.locals; boxes = s.boxes; inside = s.inside }

abbrev pub with_locals : ℕ → Shape → Shape
with_locals n s = record { operands = s.operands; locals = n; boxes = s.boxes; inside = s.inside }

abbrev pub with_boxes : ℕ → Shape → Shape
with_boxes n s = record { operands = s.operands; locals = s.locals; boxes = n; inside = s.inside }

abbrev pub with_inside : Open → Shape → Shape
with_inside o s = record { operands = s.operands; locals = s.locals; boxes = s.boxes; inside = o }

-- ---- two ways to one place

abbrev pub same_open : Open → Open → Bool
same_open open_at.Nothing open_at.Nothing = true
same_open (open_at.In p) (open_at.In q) = p == q
same_open (open_at.After p) (open_at.After q) = p == q
same_open _ _ = false

-- the same operands, and the same is open
abbrev pub agree : Shape → Shape → Bool
agree a b = a.operands == b.operands && same_open a.inside b.inside

-- what a call has, whichever of two ways it came
abbrev pub joined : Option Shape → Shape → Option Shape
joined None b = Some b
joined (Some a) b =
    if agree a b then Some (record { operands = b.operands; locals = min a.locals b.locals; boxes = min a.boxes b.boxes; inside = b.inside })
    else None

-- a call of this shape has all that the other one has
abbrev pub covers : Shape → Shape → Bool
covers a b = agree a b && nat_le b.locals a.locals && nat_le b.boxes a.boxes

-- ---- what is open

-- the shape where this was opened
abbrev pub opener : Shapes → Open → Option Shape
opener shapes open_at.Nothing = None
opener shapes (open_at.In p) = shape_at shapes p
opener shapes (open_at.After p) = shape_at shapes p

-- what was open there
abbrev pub outside : Shapes → Open → Open
outside shapes o = option_map_or (λ (s : Shape). s.inside) (opener shapes o) open_at.Nothing

-- the locals and the boxes that this needs, since they were there
abbrev pub locals_kept : Shapes → Open → ℕ
locals_kept shapes o = option_map_or (λ (s : Shape). s.locals) (opener shapes o) 0

abbrev pub boxes_kept : Shapes → Open → ℕ
boxes_kept shapes o = option_map_or (λ (s : Shape). s.boxes) (opener shapes o) 0

-- a call of this shape has what is open needs
abbrev pub keeps_open : Shapes → Shape → Bool
keeps_open shapes s = nat_le (locals_kept shapes s.inside) s.locals && nat_le (boxes_kept shapes s.inside) s.boxes

-- an instruction at this place, or one before it, opened this
abbrev pub is_opened_by : ℕ → Open → Bool
is_opened_by place open_at.Nothing = true
is_opened_by place (open_at.In p) = nat_le p place
is_opened_by place (open_at.After p) = nat_le p place
