-- The items of a region, kept as two columns: their frozen marks and their bodies.
use Rattle.std.specs.Prelude.{ℕ, Bool, List, [], ◌∷◌, Option, None, slice_get, slice_set}
use Rattle.std.specs.Option.{option_map_or}
use Rattle.ob_items.specs.Item.{Item}
use Rattle.ob_items.specs.declared.item.Body.{Body}

-- the items of these marks and these bodies
unfoldable pub items_of : List Bool → List Body → List Item
items_of [] bodies = []
items_of (mark ∷ marks) [] = []
items_of (mark ∷ marks) (body ∷ bodies) = record { frozen = mark; body = body } ∷ items_of marks bodies

-- what a reader of items gives of the body at a place
abbrev pub read_at : {X : Type 0} → (Body → Option X) → List Body → ℕ → Option X
read_at read bodies at = option_map_or read (slice_get bodies at) None

-- the bodies with what `make` gives of what `read` gives of the body at a place
abbrev pub remade : {X : Type 0} → (Body → Option X) → (X → Body) → List Body → ℕ → List Body
remade read make bodies at = option_map_or (λ x. slice_set bodies at (make x)) (read_at read bodies at) bodies
