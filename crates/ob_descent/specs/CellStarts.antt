-- How the texts of cells begin.
use Rattle.std.specs.Prelude.{ℕ, List, ◌∷◌, Option}
use Rattle.ob_base.specs.declared.reserved.ReservedWord.TheVariants as word
use Rattle.ob_lex.specs.declared.token.Token.{Token}
use Rattle.ob_lex.specs.declared.token.TokenKind.{TokenKind}
use Rattle.ob_lex.specs.declared.token.TokenKind.TheVariants as kind
use Rattle.ob_tree_types.specs.declared.cell.CellTree.{CellTree}
use Rattle.ob_tree_types.specs.declared.cell.CellTree.TheVariants as cell
use Rattle.ob_tree_types.specs.declared.tree.Function.{Function}
use Rattle.ob_grammar.specs.ReadingCells.{depth_limit, headed, cell_head}
use Rattle.ob_descent.specs.declared.cells.CellStart.{CellStart}
use Rattle.ob_descent.specs.declared.cells.CellStart.TheVariants as start

-- how a cell that begins with such a token begins
unfoldable pub cell_start : TokenKind → CellStart
cell_start (kind.Reserved word.Import) = start.Import
cell_start (kind.Reserved word.Viewof) = start.Viewof
cell_start (kind.Reserved word.Mutable) = start.Mutable
cell_start (kind.Name x) = start.Name
cell_start _ = start.Body

-- the cell of a name and a body, behind what it begins with
abbrev pub named_tree : CellStart → List ℕ → Function → CellTree
named_tree start.Viewof = cell.View
named_tree start.Mutable = cell.Mutable
named_tree _ = cell.Named

-- a cell that has a name where one and `=` stand in the first list, else one without a name, of the second
abbrev pub headed_as : ℕ → CellStart → List Token → List Token → Option CellTree
headed_as depth s ahead ts = headed depth_limit depth (named_tree s) (cell_head depth_limit depth ahead) ts
