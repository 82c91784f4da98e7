-- What a contract sees of `Regions`: a store. A reference is the key of a region and the number of an allocation in it.
use Rattle.std.specs.Prelude.{◌≡◌, ◌≢◌, ℕ, ℤ, pos, negsuc, ◌+◌, ◌/◌, max, Bool, false, List, length, Option, Some, None, IsSome, slice_get, slice_set, slice_index_or, unwrap_or}
use Rattle.std.specs.Option.{option_map_or}
use Rattle.ob_items.specs.Items.{at_item, is_frozen_at, count_at, is_new_at, hooks_at}
use Rattle.ob_items.specs.Region.{Cells, with_item, rewritten, marked, literal_at, after_literal}
use Rattle.ob_items.specs.declared.value.Value.{Value}
use Rattle.ob_items.specs.declared.value.Value.TheVariants as V
use Rattle.ob_items.specs.declared.value.Ref.{Ref}
use Rattle.ob_items.specs.declared.value.RegionKey.{RegionKey}
use Rattle.ob_items.specs.Item.{Item}
use Rattle.ob_items.specs.declared.item.Body.{Body}

-- for each key its region, or nothing
abbrev pub Store : Type 0
Store = List (Option Cells)

-- the region of a key, if it is open
abbrev pub region_of : Store → ℕ → Option Cells
region_of s key = slice_index_or s key None

abbrev pub IsOpen : Store → RegionKey → Type 0
IsOpen s key = IsSome (region_of s key.0)

-- the store as a finite map: the item that a reference points to
abbrev pub item_of : Store → Ref → Option Item
item_of s r = option_map_or (λ c. slice_get c.items r.item) (region_of s r.region.0) None

-- what a reader of items gives of it
abbrev pub read_item : {X : Type 0} → (Body → Option X) → Store → Ref → Option X
read_item read s r = option_map_or (λ c. at_item read c.items r.item) (region_of s r.region.0) None

-- its body
abbrev pub body_of : Store → Ref → Option Body
body_of s r = read_item (λ body. Some body) s r

abbrev pub is_frozen : Store → Ref → Bool
is_frozen s r = option_map_or (λ c. is_frozen_at c.items r.item) (region_of s r.region.0) false

-- the elements of a region
abbrev pub elements_in : Store → RegionKey → ℕ
elements_in s key = option_map_or (λ c. c.elements) (region_of s key.0) 0

-- the store with another region at a key
abbrev pub with_region : Store → ℕ → Cells → Store
with_region s key c = slice_set s key (Some c)

-- the key has this region, and each other key what it had
pub record Updates (old new : Store) (key : ℕ) (region : Option Cells) : Type 0 where
  pub changed : region_of new key ≡ region
  pub others : (other : ℕ) → other ≢ key → region_of new other ≡ region_of old other

-- the store with an item more in a region, which costs so many elements
abbrev pub with_new : Store → RegionKey → Item → ℕ → Store
with_new s key item cost = option_map_or (λ c. with_region s key.0 (with_item c item cost)) (region_of s key.0) s

-- the reference that the next item of a region gets
abbrev pub next_ref : Store → RegionKey → Ref
next_ref s key = record { region = key; item = option_map_or (λ c. length c.items) (region_of s key.0) 0 }

-- the store after a write: the item at r is what `make` gives of what `read` gave, under the same mark; its region has
-- one element more if it grows; all else is as before
abbrev pub written : {X : Type 0} → (Body → Option X) → (X → Body) → Store → Ref → Bool → Store
written read make s r grows =
    option_map_or (λ c. with_region s r.region.0 (rewritten read make c r.item grows)) (region_of s r.region.0) s

-- the store with the frozen mark at a reference
abbrev pub with_mark : Store → Ref → Store
with_mark s r = option_map_or (λ c. with_region s r.region.0 (marked c r.item)) (region_of s r.region.0) s

-- how many elements an array has
abbrev pub count_in : Store → Ref → ℕ
count_in s r = option_map_or (λ c. count_at c.items r.item) (region_of s r.region.0) 0

-- whether an object has no such property
abbrev pub is_new_in : Store → Ref → List ℕ → Bool
is_new_in s r key = option_map_or (λ c. is_new_at c.items r.item key) (region_of s r.region.0) false

-- how many hooks an invalidation object has counted
abbrev pub hooks_in : Store → Ref → ℕ
hooks_in s r = option_map_or (λ c. hooks_at c.items r.item) (region_of s r.region.0) 0

-- the element at an index, or undefined outside
abbrev pub element : List Value → ℤ → Value
element values (pos index) = unwrap_or (slice_get values index) V.Undefined
element values (negsuc index) = V.Undefined

-- the elements that a text of so many units costs
abbrev pub text_cost : ℕ → ℕ
text_cost units = max 1 ((units + 15) / 16)

-- the reference that the literal of these units has or gets
abbrev pub literal_ref : Store → RegionKey → List ℕ → Ref
literal_ref s key units = record {
  region = key;
  item = option_map_or (λ c. unwrap_or (literal_at c units) (length c.items)) (region_of s key.0) 0;
}

-- the store once a region has the literal of these units
abbrev pub with_literal_in : Store → RegionKey → List ℕ → Store
with_literal_in s key units =
    option_map_or (λ c. with_region s key.0 (after_literal c units)) (region_of s key.0) s
