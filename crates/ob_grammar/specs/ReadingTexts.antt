-- The cell of a text, as it is computed.
use Rattle.std.specs.Prelude.{ℕ, false, List, length, Option, option_and_then}
use Rattle.ob_lex.specs.Reading.{cut}
use Rattle.ob_tree_types.specs.declared.cell.CellTree.{CellTree}
use Rattle.ob_grammar.specs.ReadingCells.{parsed}

-- the tokens that the characters are cut into, read as a cell
unfoldable pub text_cell : List ℕ → Option CellTree
text_cell characters = option_and_then parsed (cut (length characters) false 0 characters)
