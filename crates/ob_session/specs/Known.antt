-- The ids and the names of cells.
use Rattle.std.specs.Prelude.{◌≡◌, ◌<◌, ℕ, List, Bool, false, Option, IfSome, length, map, bytes_eq}
use Rattle.std.specs.List.{list_any, position}
use Rattle.ob_session.specs.declared.world.Cell.{Cell}

-- in the order of the cells
pub record CellNames : Type 0 where
  pub ids : List (List ℕ)
  pub names : List (List ℕ)

abbrev pub names_of : List Cell → CellNames
names_of cells = record { ids = map (λ c. c.id) cells; names = map (λ c. c.name) cells }

abbrev pub has_text : List (List ℕ) → List ℕ → Bool
has_text texts text = list_any (bytes_eq text) texts

-- the place, from 0
abbrev pub place_in : List (List ℕ) → List ℕ → Option ℕ
place_in texts text = position (bytes_eq text) texts

-- a cell behind these: its id and its name are not among theirs, and its input is one of them
abbrev pub IsNew : CellNames → Cell → Type 0
IsNew known cell = (has_text known.ids cell.id ≡ false) × (has_text known.names cell.name ≡ false) × IfSome cell.input (λ place. place < length known.names)
