-- The functions of `Object` and `Array` (ECMA-262, "Properties of the Object Constructor" and "Array.isArray", in this
-- project's profile; faults, elements and steps are this project's).
use Rattle.std.specs.Prelude.{ℕ, ◌*◌, List, [], ◌∷◌, length, fold, Option, Some, None, is_some, Result, Ok}
use Rattle.std.specs.Fmt.{signed_decimal}
use Rattle.ob_items.specs.Bodies.{properties_of}
use Rattle.ob_items.specs.Items.{live}
use Rattle.ob_items.specs.Properties.{Keyed, keys_of, values_of, entries_of, property}
use Rattle.ob_items.specs.declared.properties.Property.{Property}
use Rattle.ob_items.specs.declared.thrown.Thrown.{Thrown}
use Rattle.ob_items.specs.declared.value.RegionKey.{RegionKey}
use Rattle.ob_items.specs.declared.value.Value.{Value}
use Rattle.ob_items.specs.declared.value.Value.TheVariants as V
use Rattle.ob_items.specs.declared.item.Body.TheVariants as B
use Rattle.ob_values.specs.Operators.{text_in}
use Rattle.ob_values.specs.Store.{Store, read_item, with_new, next_ref, literal_ref, with_literal_in}
use Rattle.ob_values.specs.ArrayMethods.{array_in}
use Rattle.ob_values.specs.Effects.{Effect, gives, gives_array, with_parts, argument, or_bad}

-- the properties of a value that is an object
abbrev pub object_in : Store → Value → Option Keyed
object_in s (V.Ref r) = read_item properties_of s r
object_in s _ = None

-- the units of a key: a text, or a number, which stands for its decimal text
abbrev pub key_in : Store → Value → Option (List ℕ)
key_in s (V.Int n) = Some (signed_decimal n)
key_in s v = text_in s v

-- the store once a region has the literal of each of these
abbrev pub with_literals : RegionKey → Store → List (List ℕ) → Store
with_literals region s texts = fold (λ t units. with_literal_in t region units) s texts

-- these literals, each in the store behind the ones before it
abbrev pub literals : RegionKey → Store → List (List ℕ) → List Value
literals region s [] = []
literals region s (units ∷ texts) = V.Ref (literal_ref s region units) ∷ literals region (with_literal_in s region units) texts

-- the keys as literals in a new array
abbrev pub object_keys : Store → RegionKey → List Value → Result Effect Thrown
object_keys s region args =
    or_bad (object_in s (argument args 0)) (λ o. Ok (gives_array (with_literals region s (keys_of o)) region (literals region s (keys_of o))))

abbrev pub object_values : Store → RegionKey → List Value → Result Effect Thrown
object_values s region args = or_bad (object_in s (argument args 0)) (λ o. Ok (gives_array s region (values_of o)))

-- the store with a property in a new array of two, its key as a literal
abbrev pub with_pair : RegionKey → Store → Property → Store
with_pair region s p =
    with_new (with_literal_in s region p.key) region (live (B.Array (V.Ref (literal_ref s region p.key) ∷ p.value ∷ []))) 3

abbrev pub with_pairs : RegionKey → Store → List Property → Store
with_pairs region s properties = fold (with_pair region) s properties

-- these arrays of two, each in the store behind the ones before it
abbrev pub pairs : RegionKey → Store → List Property → List Value
pairs region s [] = []
pairs region s (p ∷ properties) =
    V.Ref (next_ref (with_literal_in s region p.key) region) ∷ pairs region (with_pair region s p) properties

-- the keys with their values in a new array; each pair costs 3
abbrev pub object_entries : Store → RegionKey → List Value → Result Effect Thrown
object_entries s region args =
    or_bad (object_in s (argument args 0))
    (λ o. Ok (with_parts (3 * length (entries_of o)) (gives_array (with_pairs region s (entries_of o)) region (pairs region s (entries_of o)))))

abbrev pub has_own : Store → RegionKey → List Value → Result Effect Thrown
has_own s region args =
    or_bad (object_in s (argument args 0))
    (λ o. or_bad (key_in s (argument args 1)) (λ key. Ok (gives s region (V.Bool (is_some (property o key))))))

abbrev pub is_array : Store → RegionKey → List Value → Result Effect Thrown
is_array s region args = Ok (gives s region (V.Bool (is_some (array_in s (argument args 0)))))
