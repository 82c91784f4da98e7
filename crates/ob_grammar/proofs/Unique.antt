-- A token list reads as at most one expression, and as at most one cell.
use Rattle.std.proofs.Common.{◌≡◌, max, [], Option, Some, None, sym, ap, ◌∙◌, arith}
use Rattle.ob_tree_types.specs.declared.cell.CellTree.{CellTree}
use Rattle.ob_tree_types.specs.declared.tree.Expr.{Expr}
use Rattle.ob_grammar.specs.declared.piece.Piece.{Piece}
use Rattle.ob_grammar.specs.Grammar.{whole}
use Rattle.ob_grammar.specs.Reading.{at, reads, reads_statement}
use Rattle.ob_grammar.specs.ReadingCells.{cell_of}
use Rattle.ob_grammar.specs.Taking.{Read, piece}
use Rattle.ob_grammar.proofs.Complete.{complete}
use Rattle.ob_grammar.proofs.CompleteCells.{cells_are_complete}
use Rattle.ob_grammar.proofs.Need.{need}
use Rattle.ob_grammar.proofs.Tall.{tall}
use Rattle.ob_grammar.proofs.Statements.{need_cell, tall_cell, AtMostOneExpression, AtMostOneCell}

abbrev tree_or : Expr → Read Piece → Expr
tree_or a None = a
tree_or a (Some p) = p.0.tree

abbrev cell_or : CellTree → Option CellTree → CellTree
cell_or a None = a
cell_or a (Some b) = b

pub at_most_one_expression : AtMostOneExpression
at_most_one_expression ts a b f g d e =
    let limit = max (tall d) (tall e) in
    let n = max (need d) (need e) in
    let h : at limit (reads limit n) (reads_statement limit n) whole ts ≡ Some (piece a f, []) = complete limit d tt (omega arith) n (omega arith) in
    let i : at limit (reads limit n) (reads_statement limit n) whole ts ≡ Some (piece b g, []) = complete limit e tt (omega arith) n (omega arith) in
    sym (ap (tree_or a) h) ∙ ap (tree_or a) i

pub at_most_one_cell : AtMostOneCell
at_most_one_cell ts a b d e =
    let limit = max (tall_cell d.derives) (tall_cell e.derives) in
    let n = max (need_cell d.derives) (need_cell e.derives) in
    let h : cell_of limit n ts ≡ Some a = cells_are_complete ts a d.derives d.errors limit (omega arith) n (omega arith) in
    let i : cell_of limit n ts ≡ Some b = cells_are_complete ts b e.derives e.errors limit (omega arith) n (omega arith) in
    sym (ap (cell_or a) h) ∙ ap (cell_or a) i
