-- Which tokens read as which cell.
use Rattle.std.specs.Prelude.{◌≡◌, ℕ, ◌≤◌, true, List}
use Rattle.ob_lex.specs.declared.token.Token.{Token}
use Rattle.ob_lex.specs.Tokens.{Tokens}
use Rattle.ob_tree.specs.Depth.{depth_of}
use Rattle.ob_tree_types.specs.declared.cell.CellTree.{CellTree}
use Rattle.ob_grammar.specs.Cells.{Derives}
use Rattle.ob_grammar.specs.Early.{is_free_of_errors}
use Rattle.ob_grammar.specs.Limits.{most_open}

-- the tokens derive the cell, which has no early error, is at most 200 deep, and has at most 500 brackets open at once
pub record Reads (tokens : List Token) (tree : CellTree) : Type 0 where
  pub derives : Derives tokens tree
  pub errors : is_free_of_errors tree ≡ true
  pub depth : depth_of tree ≤ 200
  pub brackets : most_open 0 tokens ≤ 500

-- a text of these characters reads as the cell
pub record TextReads (text : List ℕ) (tree : CellTree) : Type 0 where
  pub tokens : List Token
  pub division : Tokens text tokens
  pub reads : Reads tokens tree
