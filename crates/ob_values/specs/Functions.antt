-- The functions of `Math`, `String` and the three errors (ECMA-262, "Function Properties of the Math Object", "String" and
-- "Error", in this project's profile; faults, elements and steps are this project's).
use Rattle.std.specs.Prelude.{ℕ, ℤ, pos, List, [], ◌∷◌, fold, Option, Some, Result, Ok, Err, unsigned_abs}
use Rattle.std.specs.Int.{int_min, int_max, int_signum}
use Rattle.ob_items.specs.Items.{live}
use Rattle.ob_items.specs.Numbers.{ranged}
use Rattle.ob_items.specs.declared.thrown.Thrown.{Thrown}
use Rattle.ob_items.specs.declared.thrown.Thrown.TheVariants as T
use Rattle.ob_items.specs.declared.value.ErrorKind.{ErrorKind}
use Rattle.ob_items.specs.declared.value.Ref.{Ref}
use Rattle.ob_items.specs.declared.value.RegionKey.{RegionKey}
use Rattle.ob_items.specs.declared.value.Value.{Value}
use Rattle.ob_items.specs.declared.value.Value.TheVariants as V
use Rattle.ob_items.specs.declared.item.Body.TheVariants as B
use Rattle.ob_values.specs.Store.{Store, with_new, next_ref, literal_ref, with_literal_in}
use Rattle.ob_values.specs.Values.{string_of}
use Rattle.ob_values.specs.Effects.{Effect, gives, makes_text, argument, or_bad, number_of, all_some}

-- the least or the greatest of one or more numbers
abbrev pub best_of : Store → RegionKey → (ℤ → ℤ → ℤ) → List ℤ → Result Effect Thrown
best_of s region best [] = Err T.BadCount
best_of s region best (n ∷ ns) = Ok (gives s region (V.Int (fold best n ns)))

abbrev pub math_min : Store → RegionKey → List Value → Result Effect Thrown
math_min s region args = or_bad (all_some number_of args) (best_of s region int_min)

abbrev pub math_max : Store → RegionKey → List Value → Result Effect Thrown
math_max s region args = or_bad (all_some number_of args) (best_of s region int_max)

abbrev pub gives_number : Store → RegionKey → Result ℤ Thrown → Result Effect Thrown
gives_number s region (Ok n) = Ok (gives s region (V.Int n))
gives_number s region (Err t) = Err t

-- a result outside the range throws
abbrev pub math_abs : Store → RegionKey → List Value → Result Effect Thrown
math_abs s region args =
    or_bad (number_of (argument args 0)) (λ n. gives_number s region (ranged (pos (unsigned_abs n))))

abbrev pub math_sign : Store → RegionKey → List Value → Result Effect Thrown
math_sign s region args = or_bad (number_of (argument args 0)) (λ n. Ok (gives s region (V.Int (int_signum n))))

-- `String`: a text costs as made even where it is an old one
abbrev pub to_text : Store → RegionKey → List Value → Result Effect Thrown
to_text s region args = or_bad (string_of s (argument args 0)) (makes_text s region 0)

-- the units of an error's message: what `String` gives, and none for undefined
abbrev pub message_of : Store → Value → Option (List ℕ)
message_of s V.Undefined = Some []
message_of s v = string_of s v

-- the text of the message: a text itself, else a literal
abbrev pub message_ref : Store → RegionKey → Value → List ℕ → Ref
message_ref s region (V.Ref r) units = r
message_ref s region _ units = literal_ref s region units

abbrev pub with_message : Store → RegionKey → Value → List ℕ → Store
with_message s region (V.Ref r) units = s
with_message s region _ units = with_literal_in s region units

-- a new error, whose message costs nothing more
abbrev pub gives_error : Store → RegionKey → ErrorKind → Value → List ℕ → Effect
gives_error s region kind message units = record {
  value = V.Ref (next_ref (with_message s region message units) region);
  store = with_new (with_message s region message units) region (live (B.Error kind (message_ref s region message units))) 1;
  region = region;
  elements = 1;
  steps = 0;
}

abbrev pub make_error : Store → RegionKey → ErrorKind → List Value → Result Effect Thrown
make_error s region kind args =
    or_bad (message_of s (argument args 0)) (λ units. Ok (gives_error s region kind (argument args 0) units))
