-- The notebook that a bundle opens, and what a command makes of it (this project).
use Rattle.std.specs.Prelude.{ℕ, List, [], ◌∷◌, ◌++◌, length, replicate, true, false, not, ◌&&◌, ◌||◌, nat_le, bytes_eq, chars, slice_set, Option, Some, None, option_map, option_and_then, Result, Ok, Err, if◌then◌else◌}
use Rattle.std.specs.List.{position_from}
use Rattle.ob_base.specs.declared.cause.Cause.{Cause}
use Rattle.ob_base.specs.declared.cause.Cause.TheVariants as cause
use Rattle.ob_base.specs.declared.command.Command.{Command}
use Rattle.ob_base.specs.declared.command.Command.TheVariants as command
use Rattle.ob_base.specs.declared.command.NewCell.{NewCell}
use Rattle.ob_tree_types.specs.declared.cell.CellTree.{CellTree}
use Rattle.ob_tree_types.specs.declared.cell.CellTree.TheVariants as cell
use Rattle.ob_grammar.specs.ReadingTexts.{text_cell}
use Rattle.ob_session.specs.declared.world.Cell.{Cell}
use Rattle.ob_session.specs.declared.world.World.{World}
use Rattle.ob_session.specs.Known.{CellNames, names_of, has_text, place_in}
use Rattle.ob_session.specs.Names.{function_name}
use Rattle.ob_session.specs.Sums.{is_sum, is_taken}

-- the place, from 0, of the cell of an id
abbrev pub place_of_id : List Cell → List ℕ → Option ℕ
place_of_id cells id = position_from (λ c. bytes_eq c.id id) 0 cells

-- the input of a cell behind cells of these names: none where it reads no name, and no cell where none of these defines the name
abbrev pub resolved : List (List ℕ) → Option (List ℕ) → Option (Option ℕ)
resolved names None = Some None
resolved names (Some x) = option_map (λ p. Some p) (place_in names x)

-- the cell of a tree behind cells of these ids and names; none where it is not built
abbrev pub cell_behind : CellNames → List ℕ → CellTree → Option Cell
cell_behind known id (cell.Named name body) =
    if is_taken name || not (is_sum body) || has_text known.ids id || has_text known.names name then None
    else option_map (λ input. record { id = id; name = name; body = body; input = input }) (resolved known.names (function_name body))
cell_behind known id other = None

-- the most bytes of a cell's text
abbrev pub text_limit : ℕ
text_limit = 65536

abbrev pub cell_from : CellNames → NewCell → Option Cell
cell_from known new = if nat_le (length new.text) text_limit then option_and_then (cell_behind known new.id) (text_cell (chars new.text)) else None

-- the cells of a list behind these; none where one is not built
abbrev pub cells_from : List Cell → List NewCell → Option (List Cell)
cells_from cells [] = Some cells
cells_from cells (new ∷ more) = option_and_then (λ c. cells_from (cells ++ c ∷ []) more) (cell_from (names_of cells) new)

-- nothing is observed, and nothing was live
abbrev pub new_world : List ℕ → List Cell → World
new_world main cells = record { main = main; cells = cells; observed = replicate (length cells) false; live = replicate (length cells) false; ticks = 0 }

-- one notebook alone, the main one, of at most 1,000 cells
abbrev pub world_of_notebook : List ℕ → List ℕ → List NewCell → Option World
world_of_notebook main id cells = if bytes_eq id main && nat_le (length cells) 1000 then option_map (new_world main) (cells_from [] cells) else None

-- the world of a bundle's notebooks; none where one is not built: it has to be one
unfoldable pub world_of : List ℕ → List Command → Option World
world_of main (command.Notebook id cells ∷ []) = world_of_notebook main id cells
world_of main other = None

abbrev pub observed_at : World → List ℕ → Option ℕ → Result World Cause
observed_at w id (Some p) = Ok (record w { observed = slice_set w.observed p true })
observed_at w id None = Err (cause.NoCell id)

-- the world after a command other than a tick, or why it is refused
unfoldable pub accepts : World → Command → Result World Cause
accepts w (command.Observe notebook id) = if bytes_eq notebook w.main then observed_at w id (place_of_id w.cells id) else Err (cause.NoNotebook notebook)
accepts w other = Err cause.NotBuilt
