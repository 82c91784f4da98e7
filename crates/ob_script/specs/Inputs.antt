-- What the `value` of an input reads as (this project).
use Rattle.std.specs.Prelude.{ℕ, ℤ, pos, negsuc, List, [], ◌∷◌, ◌&&◌, codes, Bool, nat_le, int_le, Option, Some, None, Result, Ok, Err, if◌then◌else◌}
use Rattle.serde_json.specs.Data.{Num, Data, null, boolean, number, string, array, object, Items, no_items, item, Members, no_members, member}
use Rattle.serde_json.specs.Find.{as_i64, get}
use Rattle.ob_base.specs.declared.cause.Cause.{Cause}
use Rattle.ob_base.specs.declared.cause.Cause.TheVariants.{BadShape, NumberRange}
use Rattle.ob_base.specs.declared.plain.Plain as plain
use Rattle.ob_base.specs.declared.plain.Plain.{Plain}
use Rattle.ob_base.specs.declared.plain.PlainProp.{PlainProp}
use Rattle.ob_base.specs.Integers.{is_in_range}
use Rattle.ob_base.specs.PlainData.{elements, nesting, has_short_texts}
use Rattle.ob_base.specs.Utf16.{utf16}
use Rattle.ob_script.specs.Fields.{◌>>=◌, in_form}

abbrev pub integer_from : Option ℤ → Result Plain Cause
integer_from None = Err NumberRange
integer_from (Some n) = if is_in_range n then Ok (plain.Int n) else Err NumberRange

-- a number is a whole one in this range
unfoldable pub integer_of : Num → Result Plain Cause
integer_of n = integer_from (as_i64 n)

-- the data of a value; the properties of an object are created in the byte order of their keys, in which its members stand
abbrev mutual
  pub plain_of : Data → Result Plain Cause
  plain_of null = Ok plain.Null
  plain_of (boolean b) = Ok (plain.Bool b)
  plain_of (number n) = integer_of n
  plain_of (string text) = Ok (plain.Text (utf16 text))
  plain_of (array ds) = plains_of ds >>= λ items. Ok (plain.Array items)
  plain_of (object ms) = props_of ms >>= λ props. Ok (plain.Object props)

  pub plains_of : Items → Result (List Plain) Cause
  plains_of no_items = Ok []
  plains_of (item d ds) = plain_of d >>= λ p. plains_of ds >>= λ ps. Ok (p ∷ ps)

  pub props_of : Members → Result (List PlainProp) Cause
  props_of no_members = Ok []
  props_of (member key d ms) = plain_of d >>= λ p. props_of ms >>= λ ps. Ok (record { key = utf16 key; value = p } ∷ ps)

-- texts and keys of at most 65,536 units, nested at most 100 deep, of at most 50,000 elements
abbrev pub is_within_limits : Plain → Bool
is_within_limits p = has_short_texts p && nat_le (nesting p) 100 && nat_le (elements p) 50000

unfoldable pub within_limits : Plain → Result Plain Cause
within_limits p = if is_within_limits p then Ok p else Err (BadShape (codes "value"))

-- the field `value`: `NumberRange` comes before the limits
unfoldable pub value_field : Data → Result Plain Cause
value_field d =
    in_form (codes "value") (get (codes "value") d) >>= λ value.
    plain_of value >>= λ p.
    within_limits p
