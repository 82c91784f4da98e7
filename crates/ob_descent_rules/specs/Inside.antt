-- The pieces that lie one nesting deeper, with trees as deep as a cell's tree may be.
use Rattle.std.specs.Prelude.{ℕ}
use Rattle.ob_tree_types.specs.declared.tree.Stmt.{Stmt}
use Rattle.ob_grammar.specs.declared.form.Level.{Level}
use Rattle.ob_grammar.specs.declared.piece.Piece.{Piece}
use Rattle.ob_grammar.specs.Grammar.{Rule}
use Rattle.ob_grammar.specs.Reading.{reads, reads_statement}
use Rattle.ob_grammar.specs.ReadingCells as cells
use Rattle.ob_grammar.specs.Taking.{Parser}

abbrev pub depth_limit : ℕ
depth_limit = cells.depth_limit

abbrev pub inner : ℕ → Rule → Parser Piece
inner depth = reads depth_limit depth

abbrev pub nested : ℕ → Level → Parser Stmt
nested depth = reads_statement depth_limit depth
