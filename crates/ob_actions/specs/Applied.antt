-- What a change makes of the current value of a mutable (this project).
use Rattle.std.specs.Prelude.{pos, [], ◌∷◌, Option, Some, None, Result, Ok, Err}
use Rattle.ob_base.specs.declared.operators.BinaryOp.{BinaryOp}
use Rattle.ob_base.specs.declared.operators.BinaryOp.TheVariants as O
use Rattle.ob_base.specs.declared.operators.ChangeOp.{ChangeOp}
use Rattle.ob_base.specs.declared.operators.ChangeOp.TheVariants as C
use Rattle.ob_base.specs.declared.plain.Plain.{Plain}
use Rattle.ob_base.specs.declared.plain.Plain.TheVariants as P
use Rattle.ob_items.specs.Region.{no_cells}
use Rattle.ob_items.specs.declared.thrown.Thrown.{Thrown}
use Rattle.ob_items.specs.declared.value.RegionKey.{RegionKey}
use Rattle.ob_values.specs.Operators.{Made, Number, Text, binary_result}
use Rattle.ob_values.specs.Placed.{Placed, placed}

-- the operators work on values, so both plain data are placed in a region that is made for this
abbrev pub only_region : RegionKey
only_region = record { 0 = 0 }

abbrev pub plain_made : Result Made Thrown → Option Plain
plain_made (Ok (Number n)) = Some (P.Int n)
plain_made (Ok (Text units)) = Some (P.Text units)
plain_made (Err t) = None

abbrev pub on_placed : BinaryOp → Placed → Placed → Option Plain
on_placed op a b = plain_made (binary_result b.store op a.value b.value)

abbrev pub placed_behind : BinaryOp → Plain → Placed → Option Plain
placed_behind op b a = on_placed op a (placed only_region b a.store)

-- what an operator gives of two plain data, or none where it throws
abbrev pub combined : BinaryOp → Plain → Plain → Option Plain
combined op a b = placed_behind op b (placed only_region a (Some no_cells ∷ []))

-- `++` and `--` are of numbers alone
abbrev pub counted : BinaryOp → Plain → Option Plain
counted op (P.Int n) = combined op (P.Int n) (P.Int (pos 1))
counted op _ = None

-- the new value, or none where the operator throws: the change is then lost
abbrev pub changed_by : ChangeOp → Plain → Plain → Option Plain
changed_by C.Set current value = Some value
changed_by C.Add current value = combined O.Add current value
changed_by C.Sub current value = combined O.Sub current value
changed_by C.Mul current value = combined O.Mul current value
changed_by C.Up current value = counted O.Add current
changed_by C.Down current value = counted O.Sub current
