-- The methods of arrays (ECMA-262, "Properties of the Array Prototype Object", in this project's profile; faults, elements
-- and steps are this project's).
use Rattle.std.specs.Prelude.{ℕ, ◌+◌, ◌-◌, ◌++◌, true, false, pos, negsuc, List, [], ◌∷◌, length, reverse, remove, fold, position, Option, Some, None, is_some, unwrap_or, Result, Ok, Err, codes, if◌then◌else◌}
use Rattle.std.specs.List.{flat_map, join_by}
use Rattle.ob_items.specs.Bodies.{array_of}
use Rattle.ob_items.specs.Items.{with_element}
use Rattle.ob_items.specs.declared.thrown.Thrown.{Thrown}
use Rattle.ob_items.specs.declared.thrown.Thrown.TheVariants as T
use Rattle.ob_items.specs.declared.value.Ref.{Ref}
use Rattle.ob_items.specs.declared.value.RegionKey.{RegionKey}
use Rattle.ob_items.specs.declared.value.Value.{Value}
use Rattle.ob_items.specs.declared.value.Value.TheVariants as V
use Rattle.ob_items.specs.declared.item.Body.TheVariants as B
use Rattle.ob_values.specs.Operators.{text_in}
use Rattle.ob_values.specs.Store.{Store, read_item, is_frozen, count_in, written}
use Rattle.ob_values.specs.Values.{same_value, string_of}
use Rattle.ob_values.specs.Effects.{Effect, gives, gives_array, in_steps, makes_text, argument, or_bad, part_of, all_some}

-- the elements of a receiver
abbrev pub elements_at : Store → Ref → List Value
elements_at s r = unwrap_or (read_item array_of s r) []

-- a method that changes a frozen array throws before anything else
abbrev pub unless_frozen : Store → Ref → Effect → Result Effect Thrown
unless_frozen s r e = if is_frozen s r then Err T.Frozen else Ok e

-- the store with one element more at the end of an array
abbrev pub appended : Ref → Store → Value → Store
appended r s value = written array_of (with_element (count_in s r) value) s r true

-- the store with an array's elements as f puts them, none of them new
abbrev pub rearranged : (List Value → List Value) → Store → Ref → Store
rearranged f s r = written array_of (λ values. B.Array (f values)) s r false

-- each argument at the end, in order; the new length
abbrev pub push : Store → Ref → List Value → Result Effect Thrown
push s r args = unless_frozen s r (record {
  value = V.Int (pos (length (elements_at s r) + length args));
  store = fold (appended r) s args;
  region = r.region;
  elements = length args;
  steps = 0;
})

-- what moves the elements of an array, adds none, and takes so many steps
abbrev pub moves : Store → Ref → Value → (List Value → List Value) → ℕ → Result Effect Thrown
moves s r value f n = unless_frozen s r (record { value = value; store = rearranged f s r; region = r.region; elements = 0; steps = n })

-- without the last; that, or undefined
abbrev pub pop : Store → Ref → Result Effect Thrown
pop s r = moves s r (argument (elements_at s r) (length (elements_at s r) - 1)) (λ values. remove values (length values - 1)) 0

-- without the first; that, or undefined
abbrev pub shift : Store → Ref → Result Effect Thrown
shift s r = moves s r (argument (elements_at s r) 0) (λ values. remove values 0) (length (elements_at s r))

-- from the last to the first; the array itself
abbrev pub reverse_in_place : Store → Ref → Result Effect Thrown
reverse_in_place s r = moves s r (V.Ref r) reverse (length (elements_at s r))

-- a part as a new array
abbrev pub slice : Store → RegionKey → Ref → List Value → Result Effect Thrown
slice s region r args = or_bad (part_of (elements_at s r) args) (λ values. Ok (gives_array s region values))

-- the elements of a value that is an array
abbrev pub array_in : Store → Value → Option (List Value)
array_in s (V.Ref r) = read_item array_of s r
array_in s _ = None

-- what an argument of `concat` adds: an array its elements, any other value itself
abbrev pub spread : Store → Value → List Value
spread s value = unwrap_or (array_in s value) (value ∷ [])

-- the elements and those of the arguments as a new array
abbrev pub concat : Store → RegionKey → Ref → List Value → Result Effect Thrown
concat s region r args = Ok (gives_array s region (elements_at s r ++ flat_map (spread s) args))

-- the first place of an element that is the same as the value by `===`
abbrev pub place_among : Store → Ref → Value → Option ℕ
place_among s r value = position (λ x. same_value s x value) (elements_at s r)

-- a place that was found, or -1
abbrev pub found : Option ℕ → Value
found (Some k) = V.Int (pos k)
found None = V.Int (negsuc 0)

abbrev pub index_of : Store → RegionKey → Ref → List Value → Result Effect Thrown
index_of s region r args = Ok (in_steps (length (elements_at s r)) (gives s region (found (place_among s r (argument args 0)))))

abbrev pub includes : Store → RegionKey → Ref → List Value → Result Effect Thrown
includes s region r args =
    Ok (in_steps (length (elements_at s r)) (gives s region (V.Bool (is_some (place_among s r (argument args 0))))))

-- the separator of `join`: a comma by default
abbrev pub separator : Store → Value → Option (List ℕ)
separator s V.Undefined = Some (codes ",")
separator s v = text_in s v

-- how `join` writes an element: undefined and null as the empty text
abbrev pub written_as : Store → Value → Option (List ℕ)
written_as s V.Undefined = Some []
written_as s V.Null = Some []
written_as s v = string_of s v

-- the texts of the elements, with the separator between them
abbrev pub join : Store → RegionKey → Ref → List Value → Result Effect Thrown
join s region r args =
    or_bad (separator s (argument args 0))
    (λ between. or_bad (all_some (written_as s) (elements_at s r))
    (λ texts. makes_text s region (length (elements_at s r)) (join_by (λ units. units) between texts)))
