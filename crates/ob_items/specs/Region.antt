-- What a contract sees of a region.
use Rattle.std.specs.Prelude.{◌≡◌, ℕ, ◌+◌, ◌≤◌, Bool, List, [], ◌∷◌, ◌++◌, length, Option, Some, nat_eq, if◌then◌else◌}
use Rattle.std.specs.Cmp.Lexicographic.{pointwise}
use Rattle.std.specs.Map.{lookup}
use Rattle.std.specs.Option.{option_map_or}
use Rattle.indexmap.specs.IndexMap.{insert_entry}
use Rattle.ob_items.specs.Bodies.{text_of}
use Rattle.ob_items.specs.Items.{at_item, changed, marked_at, live}
use Rattle.ob_items.specs.Item.{Item}
use Rattle.ob_items.specs.declared.item.Body.{Body}
use Rattle.ob_items.specs.declared.item.Body.TheVariants as B

-- its items in the order of allocation, the elements that they cost, and the place of the text of each literal
pub record Cells : Type 0 where
  pub items : List Item
  pub elements : ℕ
  pub literals : List (List ℕ × ℕ)

-- a region that is new
abbrev pub no_cells : Cells
no_cells = record { items = []; elements = 0; literals = [] }

-- each literal is a text of its units
unfoldable pub AreLiterals : List Item → List (List ℕ × ℕ) → Type 0
AreLiterals items literals =
    (units : List ℕ) (at : ℕ) → lookup (pointwise nat_eq units) literals ≡ Some at → at_item text_of items at ≡ Some units

pub record IsRegion (c : Cells) : Type 0 where
  pub literals : AreLiterals c.items c.literals
  pub elements : c.elements ≤ 50000

-- the region with one item more, which costs so many elements
abbrev pub with_item : Cells → Item → ℕ → Cells
with_item c item cost = record { items = c.items ++ item ∷ []; elements = c.elements + cost; literals = c.literals }

-- the region after a write of an item, with one element more if it grows
abbrev pub rewritten : {X : Type 0} → (Body → Option X) → (X → Body) → Cells → ℕ → Bool → Cells
rewritten read make c at grows = record {
  items = changed read make c.items at;
  elements = if grows then c.elements + 1 else c.elements;
  literals = c.literals;
}

-- the region with the frozen mark at a place
abbrev pub marked : Cells → ℕ → Cells
marked c at = record { items = marked_at c.items at; elements = c.elements; literals = c.literals }

-- the place of the literal of these units
abbrev pub literal_at : Cells → List ℕ → Option ℕ
literal_at c units = lookup (pointwise nat_eq units) c.literals

-- the region with a literal more, a text that costs no elements
abbrev pub with_literal : Cells → List ℕ → Cells
with_literal c units = record {
  items = c.items ++ live (B.Text units) ∷ [];
  elements = c.elements;
  literals = insert_entry (pointwise nat_eq) c.literals units (length c.items);
}

-- the region once it has the literal of these units
abbrev pub after_literal : Cells → List ℕ → Cells
after_literal c units = option_map_or (λ at. c) (literal_at c units) (with_literal c units)
