-- The canonical text of a readable tree reads as that tree.
use Rattle.std.proofs.Common.{◌≡◌, ℕ, ◌≤◌, List, [], ap, arith}
use Rattle.std.proofs.lemmas.List.{append-nil}
use Rattle.std.specs.Str.{chars, IsUtf8}
use Rattle.ob_tree_types.specs.declared.cell.CellTree.{CellTree}
use Rattle.ob_tree.specs.Depth.{depth_of}
use Rattle.ob_tree.specs.Print.{cell_tokens, print}
use Rattle.ob_grammar.specs.Limits.{most_open}
use Rattle.ob_grammar.specs.Readable.{TextReads}
use Rattle.ob_grammar.proofs.Texts.{at_most_one_cell_of}
use Rattle.ob_print_law.proofs.Placed.{placed}
use Rattle.ob_print_law.proofs.Source.{text_valid}
use Rattle.ob_print_law.proofs.Lexed.{printed_text}
use Rattle.ob_print_law.proofs.Nesting.{most, placed_most}
use Rattle.ob_print_law.proofs.Cells.{CellPrints, cell_prints}

few_brackets : {tree : CellTree} → CellPrints tree → depth_of tree ≤ 200 → most_open 0 (placed 0 (cell_tokens tree)) ≤ 500
few_brackets {tree} p le =
    let e = placed_most 0 0 (cell_tokens tree) in let a = ap (most 0) (append-nil (cell_tokens tree)) in let o = p.opens.at_most 0 [] in omega (arith, e, a, o, le)

pub reads_again : (text : List ℕ) (tree : CellTree) → IsUtf8 text → TextReads (chars text) tree → TextReads (chars (print tree)) tree
reads_again text tree u r =
    let p = cell_prints r.reads.derives (text_valid text r.tokens u r.division) in
    record {
      tokens = placed 0 (cell_tokens tree);
      division = printed_text (cell_tokens tree) p.lexes;
      reads = record { derives = p.derives; errors = r.reads.errors; depth = r.reads.depth; brackets = few_brackets p r.reads.depth };
    }

pub reads_once : (text : List ℕ) (tree other : CellTree) → IsUtf8 text → TextReads (chars text) tree → TextReads (chars (print tree)) other → other ≡ tree
reads_once text tree other u r s = at_most_one_cell_of (chars (print tree)) other tree s (reads_again text tree u r)
