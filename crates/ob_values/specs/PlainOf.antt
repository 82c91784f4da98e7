-- The plain data of a value (this project): what it unfolds to, through arrays and objects.
use Rattle.std.specs.Prelude.{ℕ, zero, suc, ◌+◌, ◌^◌, nat_lt, nat_le, Bool, true, List, [], ◌∷◌, length, Option, Some, None, Result, Ok, Err, if◌then◌else◌}
use Rattle.std.specs.List.{list_any, sum_by}
use Rattle.std.specs.Option.{option_map, option_map_or, option_and_then}
use Rattle.ob_base.specs.declared.plain.Plain.{Plain}
use Rattle.ob_base.specs.declared.plain.Plain.TheVariants as P
use Rattle.ob_base.specs.declared.plain.PlainProp.{PlainProp}
use Rattle.ob_items.specs.Numbers.{is_in_range}
use Rattle.ob_items.specs.Properties.{values_of, entries_of}
use Rattle.ob_items.specs.declared.properties.Property.{Property}
use Rattle.ob_items.specs.declared.error.PlainError.{PlainError}
use Rattle.ob_items.specs.declared.error.PlainError.TheVariants as E
use Rattle.ob_items.specs.declared.value.Value.{Value}
use Rattle.ob_items.specs.declared.value.Value.TheVariants as V
use Rattle.ob_items.specs.declared.value.Ref.{Ref}
use Rattle.ob_items.specs.declared.item.Body.{Body}
use Rattle.ob_items.specs.declared.item.Body.TheVariants as B
use Rattle.ob_values.specs.Freeze.{refs_of}
use Rattle.ob_values.specs.Reach.{Walk, Reaches}
use Rattle.ob_values.specs.Store.{Store, item_of, text_cost}

-- ---- what stands in a value, and cycles

-- the values that stand in an item: the elements of an array, or the values of an object's properties
abbrev pub parts_of : Body → List Value
parts_of (B.Array values) = values
parts_of (B.Object properties) = values_of properties
parts_of _ = []

abbrev pub parts_at : Store → Ref → List Value
parts_at s r = option_map_or (λ item. parts_of item.body) (item_of s r) []

-- the items that stand in an item
abbrev pub items_in : Store → Ref → List Ref
items_in s r = refs_of (parts_at s r)

-- the value is or holds an item that stands in itself, by one step or more
pub record HasCycle (s : Store) (value : Value) : Type 0 where
  pub item : Ref
  pub reached : Reaches (items_in s) (refs_of (value ∷ [])) item
  pub more : ℕ
  pub round : Walk (items_in s) item item (suc more)

-- so many steps down are possible, each from an item to one that stands in it
unfoldable pub goes_down : ℕ → Store → Ref → Bool
goes_down zero s r = true
goes_down (suc n) s r = list_any (goes_down n s) (items_in s r)

-- more levels than a store has items
abbrev pub all_levels : ℕ
all_levels = 2 ^ 63

-- the same, as a test: what goes down that far comes by an item twice
abbrev pub is_endless : Store → Value → Bool
is_endless s value = list_any (goes_down all_levels s) (refs_of (value ∷ []))

-- ---- elements: a text has one for each 16 units that it begins, and at least 1; an array or an object of n has 1 + n, with its parts; other
-- values have none

abbrev pub own_elements : Body → ℕ
own_elements (B.Text units) = text_cost (length units)
own_elements (B.Array values) = 1 + length values
own_elements (B.Object properties) = 1 + length (values_of properties)
own_elements _ = 0

abbrev pub elements_at : Store → Ref → ℕ
elements_at s r = option_map_or (λ item. own_elements item.body) (item_of s r) 0

-- those of an item's tree, down to so many levels
unfoldable pub tree_elements : ℕ → Store → Ref → ℕ
tree_elements zero s r = 0
tree_elements (suc n) s r = elements_at s r + sum_by (tree_elements n s) (items_in s r)

-- the tree of a value, all of it where there is no cycle, has more than 50,000
abbrev pub is_large : Store → Value → Bool
is_large s value = nat_lt 50000 (sum_by (tree_elements all_levels s) (refs_of (value ∷ [])))

-- ---- plain data

-- what f gives of each, if it gives something of all
abbrev pub all_some : {X Y : Type 0} → (X → Option Y) → List X → Option (List Y)
all_some f [] = Some []
all_some f (x ∷ xs) = option_and_then (λ y. option_map (λ ys. y ∷ ys) (all_some f xs)) (f x)

-- units, if they are at most 65,536
abbrev pub short : List ℕ → Option (List ℕ)
short units = if nat_le (length units) 65536 then Some units else None

-- the property of plain data, where f gives the plain data of its value
abbrev pub plain_prop : (Value → Option Plain) → Property → Option PlainProp
plain_prop f p = option_and_then (λ key. option_map (λ value. record { key = key; value = value }) (f p.value)) (short p.key)

-- the plain data of an item, where f gives that of the values inside
abbrev pub plain_body : (Value → Option Plain) → Body → Option Plain
plain_body f (B.Text units) = option_map P.Text (short units)
plain_body f (B.Array values) = option_map P.Array (all_some f values)
plain_body f (B.Object properties) = option_map P.Object (all_some (plain_prop f) (entries_of properties))
plain_body f _ = None

-- the plain data of a value, where f gives that of an item
abbrev pub plain_value : (Ref → Option Plain) → Value → Option Plain
plain_value f V.Undefined = Some P.Undefined
plain_value f V.Null = Some P.Null
plain_value f (V.Bool b) = Some (P.Bool b)
plain_value f (V.Int n) = if is_in_range n then Some (P.Int n) else None
plain_value f (V.Builtin _) = None
plain_value f (V.Holder _) = None
plain_value f (V.Ref r) = f r

-- that of an item in which no array and no object may stand: of a text
abbrev pub plain_leaf : Body → Option Plain
plain_leaf (B.Text units) = option_map P.Text (short units)
plain_leaf _ = None

-- that of an item, where at most so many arrays and objects may stand in one another
unfoldable pub plain_from : ℕ → Store → Body → Option Plain
plain_from zero s body = plain_leaf body
plain_from (suc n) s body = plain_body (plain_value (λ r. option_and_then (λ item. plain_from n s item.body) (item_of s r))) body

abbrev pub plain_at : ℕ → Store → Ref → Option Plain
plain_at n s r = option_and_then (λ item. plain_from n s item.body) (item_of s r)

abbrev pub plain_of : ℕ → Store → Value → Option Plain
plain_of n s value = plain_value (plain_at n s) value

-- the plain data of a value, or why it has none: a cycle, too many elements, or else what is no plain data
abbrev pub plain_result : Store → Value → Result Plain PlainError
plain_result s value =
    if is_endless s value then Err E.NotPlain
    else if is_large s value then Err E.HeapFull
    else option_map_or (λ plain. Ok plain) (plain_of 100 s value) (Err E.NotPlain)
