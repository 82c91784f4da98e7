-- The numbers that a function's methods carry are those of the methods of their names, for each kind of receiver.
use Rattle.std.specs.Prelude.{◌≡◌, ℕ, List, [], Some, slice_get, unwrap_or}
use Rattle.ob_items.specs.declared.value.Kind.TheVariants as S
use Rattle.ob_values.specs.BuiltinNames.{method_number}
use Rattle.ob_code.specs.Code.{Code, code_of, function_at}
use Rattle.ob_code.specs.declared.chunk.Chunk.{Chunk}
use Rattle.ob_code.specs.declared.chunk.Methods.{Methods}

-- the units of the name
abbrev pub name_of : Code → Methods → List ℕ
name_of code m = unwrap_or (slice_get code.texts m.name) []

pub record AreNumbersOf (name : List ℕ) (m : Methods) : Type 0 where
  pub array : m.array ≡ method_number S.Array name
  pub text : m.text ≡ method_number S.Text name
  pub generator : m.generator ≡ method_number S.Generator name
  pub invalidation : m.invalidation ≡ method_number S.Invalidation name

-- in all functions of a text
abbrev pub HasItsNumbers : Chunk → Type 0
HasItsNumbers chunk =
    (number : ℕ) (f : Chunk) (place : ℕ) (m : Methods) → function_at chunk number ≡ Some f → slice_get (code_of f).methods place ≡ Some m
    → AreNumbersOf (name_of (code_of f) m) m
