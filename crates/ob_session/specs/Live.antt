-- Which cells are live (after the Observable Runtime: a variable is evaluated where an observer reaches it).
use Rattle.std.specs.Prelude.{ℕ, ◌+◌, List, [], ◌∷◌, ◌==◌, ◌&&◌, ◌||◌, Bool, true, false, Option, Some, None, slice_index_or, slice_set, if◌then◌else◌}
use Rattle.ob_session.specs.declared.world.Cell.{Cell}

abbrev pub reads : Option ℕ → ℕ → Bool
reads None place = false
reads (Some input) place = input == place

-- whether a live one of these cells reads the cell at a place
abbrev pub is_read : ℕ → List Cell → List Bool → Bool
is_read place [] live = false
is_read place (c ∷ cells) [] = false
is_read place (c ∷ cells) (l ∷ live) = (l && reads c.input place) || is_read place cells live

-- of each cell from a place on, whether it is live: it is observed, or a live cell behind it reads it
abbrev pub live_from : ℕ → List Cell → List Bool → List Bool
live_from place [] observed = []
live_from place (c ∷ cells) [] = []
live_from place (c ∷ cells) (o ∷ observed) =
    (o || is_read place cells (live_from (place + 1) cells observed)) ∷ live_from (place + 1) cells observed

-- marks with that of a cell's input, where the cell is marked
abbrev pub with_mark : List Bool → ℕ → Option ℕ → List Bool
with_mark marks place None = marks
with_mark marks place (Some input) = if slice_index_or marks place false then slice_set marks input true else marks
