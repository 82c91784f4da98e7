-- The methods of texts (ECMA-262, "Properties of the String Prototype Object", in this project's profile; faults, elements
-- and steps are this project's).
use Rattle.std.specs.Prelude.{ℕ, zero, suc, ◌+◌, ◌-◌, ◌/◌, ◌++◌, Bool, ℤ, pos, negsuc, List, [], ◌∷◌, length, map, fold, sum, take, drop, find, Option, Some, is_some, unwrap_or, Result, Ok, Err, nat_eq, slice_get, codes}
use Rattle.std.specs.List.{repeat, starts_with, ends_with, range_with_len}
use Rattle.std.specs.Option.{option_map_or}
use Rattle.ob_items.specs.Bodies.{text_of}
use Rattle.ob_items.specs.declared.thrown.Thrown.{Thrown}
use Rattle.ob_items.specs.declared.thrown.Thrown.TheVariants as T
use Rattle.ob_items.specs.declared.value.Ref.{Ref}
use Rattle.ob_items.specs.declared.value.RegionKey.{RegionKey}
use Rattle.ob_items.specs.declared.value.Value.{Value}
use Rattle.ob_items.specs.declared.value.Value.TheVariants as V
use Rattle.ob_values.specs.Operators.{text_in}
use Rattle.ob_values.specs.Store.{Store, read_item, next_ref, text_cost}
use Rattle.ob_values.specs.ArrayMethods.{found}
use Rattle.ob_values.specs.Effects.{Effect, gives, gives_array, with_text, in_steps, with_parts, makes_text, argument, or_bad, number_of, part_of}

-- the units of a receiver
abbrev pub units_at : Store → Ref → List ℕ
units_at s r = unwrap_or (read_item text_of s r) []

-- a part as a new text
abbrev pub slice_text : Store → RegionKey → List ℕ → List Value → Result Effect Thrown
slice_text s region units args = or_bad (part_of units args) (makes_text s region 0)

-- a text so many times
abbrev pub repeated : Store → RegionKey → List ℕ → ℤ → Result Effect Thrown
repeated s region units (pos n) = makes_text s region 0 (repeat n units)
repeated s region units (negsuc n) = Err T.BadCount

abbrev pub repeat_text : Store → RegionKey → List ℕ → List Value → Result Effect Thrown
repeat_text s region units args = or_bad (number_of (argument args 0)) (repeated s region units)

-- the pad of `padStart`: a space by default
abbrev pub pad_of : Store → Value → Option (List ℕ)
pad_of s V.Undefined = Some (codes " ")
pad_of s v = text_in s v

-- so many units of the pad, again and again; an empty pad gives none
abbrev pub padding : ℕ → List ℕ → List ℕ
padding n pad = take n (repeat n pad)

-- before a text, what it lacks of n units
abbrev pub padded : ℤ → List ℕ → List ℕ → List ℕ
padded (pos n) pad units = padding (n - length units) pad ++ units
padded (negsuc n) pad units = units

abbrev pub pad_start : Store → RegionKey → List ℕ → List Value → Result Effect Thrown
pad_start s region units args =
    or_bad (number_of (argument args 0)) (λ n. or_bad (pad_of s (argument args 1)) (λ pad. makes_text s region 0 (padded n pad units)))

-- the piece stands in the text at a place
abbrev pub stands_at : List ℕ → List ℕ → ℕ → Bool
stands_at units piece k = starts_with nat_eq (drop k units) piece

-- the first place at which a piece stands
abbrev pub first_place : List ℕ → List ℕ → Option ℕ
first_place units piece = find (stands_at units piece) (range_with_len 0 (length units + 1))

-- a value that is found of a text and a piece of it, which takes a step for each 16 units of the text, rounded up
abbrev pub searches : Store → RegionKey → List ℕ → List Value → (List ℕ → Value) → Result Effect Thrown
searches s region units args f =
    or_bad (text_in s (argument args 0)) (λ piece. Ok (in_steps ((length units + 15) / 16) (gives s region (f piece))))

abbrev pub index_of_text : Store → RegionKey → List ℕ → List Value → Result Effect Thrown
index_of_text s region units args = searches s region units args (λ piece. found (first_place units piece))

abbrev pub includes_text : Store → RegionKey → List ℕ → List Value → Result Effect Thrown
includes_text s region units args = searches s region units args (λ piece. V.Bool (is_some (first_place units piece)))

abbrev pub starts_with_text : Store → RegionKey → List ℕ → List Value → Result Effect Thrown
starts_with_text s region units args = searches s region units args (λ piece. V.Bool (starts_with nat_eq units piece))

abbrev pub ends_with_text : Store → RegionKey → List ℕ → List Value → Result Effect Thrown
ends_with_text s region units args = searches s region units args (λ piece. V.Bool (ends_with nat_eq units piece))

-- the parts between the pieces from the front on, where there are at most n pieces
unfoldable pub cut : ℕ → List ℕ → List ℕ → List (List ℕ)
cut zero piece units = units ∷ []
cut (suc n) piece units =
    option_map_or (λ k. take k units ∷ cut n piece (drop (k + length piece) units)) (first_place units piece) (units ∷ [])

-- the empty piece parts a text into its units
abbrev pub split_by : List ℕ → List ℕ → List (List ℕ)
split_by [] units = map (λ unit. unit ∷ []) units
split_by (u ∷ us) units = cut (length units) (u ∷ us) units

-- the store with a new text of each of these
abbrev pub with_texts : RegionKey → Store → List (List ℕ) → Store
with_texts region s texts = fold (with_text region) s texts

-- these texts, each in the store behind the ones before it
abbrev pub text_values : RegionKey → Store → List (List ℕ) → List Value
text_values region s [] = []
text_values region s (units ∷ texts) = V.Ref (next_ref s region) ∷ text_values region (with_text region s units) texts

abbrev pub texts_cost : List (List ℕ) → ℕ
texts_cost texts = sum (map (λ units. text_cost (length units)) texts)

-- new texts in a new array
abbrev pub gives_texts : Store → RegionKey → List (List ℕ) → Effect
gives_texts s region texts =
    with_parts (texts_cost texts) (gives_array (with_texts region s texts) region (text_values region s texts))

abbrev pub split : Store → RegionKey → List ℕ → List Value → Result Effect Thrown
split s region units args = or_bad (text_in s (argument args 0)) (λ piece. Ok (gives_texts s region (split_by piece units)))

-- the unit at a place
abbrev pub unit_at : Store → RegionKey → List ℕ → ℤ → Result Effect Thrown
unit_at s region units (pos k) = option_map_or (λ unit. Ok (gives s region (V.Int (pos unit)))) (slice_get units k) (Err T.PastEnd)
unit_at s region units (negsuc k) = Err T.PastEnd

abbrev pub char_code_at : Store → RegionKey → List ℕ → List Value → Result Effect Thrown
char_code_at s region units args = or_bad (number_of (argument args 0)) (unit_at s region units)
