-- The items of a region, in the order of allocation, and what a write makes of them.
use Rattle.std.specs.Prelude.{ℕ, ◌+◌, ◌==◌, ◌&&◌, nat_lt, Bool, true, false, List, [], ◌∷◌, ◌++◌, length, Option, Some, None, Result, Ok, Err, slice_get, slice_set, if◌then◌else◌, is_none}
use Rattle.std.specs.Option.{option_map_or}
use Rattle.ob_items.specs.Bodies.{array_of, properties_of, hooks_of}
use Rattle.ob_items.specs.Properties.{property}
use Rattle.ob_items.specs.declared.value.Value.{Value}
use Rattle.ob_items.specs.declared.error.SetError.{SetError}
use Rattle.ob_items.specs.declared.error.SetError.TheVariants as S
use Rattle.ob_items.specs.declared.error.HookError.{HookError}
use Rattle.ob_items.specs.declared.error.HookError.TheVariants as H
use Rattle.ob_items.specs.Item.{Item}
use Rattle.ob_items.specs.declared.item.Body.{Body}
use Rattle.ob_items.specs.declared.item.Body.TheVariants as B

-- an item that is new
abbrev pub live : Body → Item
live body = record { frozen = false; body = body }

-- what a reader of items gives of the item at a place
abbrev pub at_item : {X : Type 0} → (Body → Option X) → List Item → ℕ → Option X
at_item read items at = option_map_or (λ item. read item.body) (slice_get items at) None

-- the item at a place has the frozen mark
abbrev pub is_frozen_at : List Item → ℕ → Bool
is_frozen_at items at = option_map_or (λ item. item.frozen) (slice_get items at) false

-- the items with another body at a place, under the mark that is there
abbrev pub with_body : List Item → ℕ → Body → List Item
with_body items at body = slice_set items at (record { frozen = is_frozen_at items at; body = body })

-- the items with what `make` gives of what `read` gives of the item at a place
abbrev pub changed : {X : Type 0} → (Body → Option X) → (X → Body) → List Item → ℕ → List Item
changed read make items at = option_map_or (λ x. with_body items at (make x)) (at_item read items at) items

-- the items with the frozen mark at a place
abbrev pub marked_at : List Item → ℕ → List Item
marked_at items at = option_map_or (λ item. slice_set items at (record { frozen = true; body = item.body })) (slice_get items at) items

-- what an answer refuses, if it refuses
abbrev pub fault_of : {T E : Type 0} → Result T E → Option E
fault_of (Ok _) = None
fault_of (Err e) = Some e

-- how many elements an array has
abbrev pub count_at : List Item → ℕ → ℕ
count_at items at = option_map_or length (at_item array_of items at) 0

-- whether an object has no such property
abbrev pub is_new_at : List Item → ℕ → List ℕ → Bool
is_new_at items at key = option_map_or (λ ps. is_none (property ps key)) (at_item properties_of items at) false

-- why a write of an element is refused, memory aside: of a frozen array, past its end, or where it appends in a region
-- that has all its elements
abbrev pub element_fault : Bool → ℕ → ℕ → ℕ → Option SetError
element_fault frozen count index elements =
    if frozen then Some S.Frozen
    else if nat_lt count index then Some S.PastEnd
    else if (index == count) && nat_lt 50000 (elements + 1) then Some S.HeapFull
    else None

-- an array after a write of an element: at its length it appends
abbrev pub with_element : ℕ → Value → List Value → Body
with_element index value values =
    B.Array (if index == length values then values ++ value ∷ [] else slice_set values index value)

-- why a write of a property is refused, memory aside: of a frozen object, or where it is new in a region that has all
-- its elements
abbrev pub property_fault : Bool → Bool → ℕ → Option SetError
property_fault frozen is_new elements =
    if frozen then Some S.Frozen
    else if is_new && nat_lt 50000 (elements + 1) then Some S.HeapFull
    else None

-- why a write that adds nothing is refused
abbrev pub frozen_fault : Bool → Option SetError
frozen_fault frozen = if frozen then Some S.Frozen else None

-- why a hook is not counted: of a frozen object, or where 1,000 were
abbrev pub hook_fault : Bool → ℕ → Option HookError
hook_fault frozen hooks = if frozen then Some H.Frozen else if nat_lt 999 hooks then Some H.TooMany else None

-- how many hooks an invalidation object has counted
abbrev pub hooks_at : List Item → ℕ → ℕ
hooks_at items at = option_map_or (λ n. n) (at_item hooks_of items at) 0
