-- What an instruction names is there: a local, a box, a text, a method, a function.
use Rattle.std.specs.Prelude.{ℕ, ◌-◌, nat_lt, nat_le, Bool, true, false, ◌&&◌, List, length, slice_get}
use Rattle.std.specs.Option.{option_map_or}
use Rattle.ob_base.specs.Integers.{is_in_range}
use Rattle.ob_code.specs.Code.{Site}
use Rattle.ob_code.specs.declared.chunk.Methods.{Methods}
use Rattle.ob_code.specs.declared.op.Op.{Op}
use Rattle.ob_code.specs.declared.op.Op.TheVariants as op
use Rattle.ob_code.specs.declared.shape.Shape.{Shape}

-- a text has at most 65,536 units
abbrev pub is_short : List ℕ → Bool
is_short units = nat_le (length units) 65536

abbrev pub is_text : List (List ℕ) → ℕ → Bool
is_text texts place = option_map_or is_short (slice_get texts place) false

-- a function that asks for so many boxes at most
abbrev pub is_function : List ℕ → ℕ → ℕ → Bool
is_function asked boxes number = nat_lt 0 number && option_map_or (λ n. nat_le n boxes) (slice_get asked (number - 1)) false

abbrev pub is_methods : Site → ℕ → Bool
is_methods site place = option_map_or (λ (m : Methods). is_text site.texts m.name) (slice_get site.methods place) false

abbrev pub is_there : Site → Shape → Op → Bool
is_there site s (op.Int n) = is_in_range n
is_there site s (op.Builtin n) = nat_lt n 9
is_there site s (op.Text t) = is_text site.texts t
is_there site s (op.GetLocal i) = nat_lt i s.locals
is_there site s (op.GetBox i) = nat_lt i s.boxes
is_there site s (op.SetLocal i) = nat_lt i s.locals
is_there site s (op.SetBox i) = nat_lt i s.boxes
is_there site s (op.InitLocal i) = nat_lt i s.locals
is_there site s (op.InitBox i) = nat_lt i s.boxes
is_there site s (op.Member t) = is_text site.texts t
is_there site s (op.SetMember t) = is_text site.texts t
is_there site s (op.Method m) = is_methods site m
is_there site s (op.SetProp t) = is_text site.texts t
is_there site s (op.Closure f) = is_function site.asked s.boxes f
is_there site s (op.BinaryLocal b i) = nat_lt i s.locals
is_there site s (op.CompareLocal c i) = nat_lt i s.locals
is_there site s (op.UpdateLocal u i) = nat_lt i s.locals
is_there site s (op.StoreLocal i) = nat_lt i s.locals
is_there site s (op.TurnWhileInt c i n to) = nat_lt i s.locals
is_there site s (op.TurnWhileLocal c i j to) = nat_lt i s.locals && nat_lt j s.locals
is_there site s _ = true
