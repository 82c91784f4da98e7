-- The cell that is computed from tokens, or from a text, is the cell that they read as.
use Rattle.std.proofs.Common.{◌≡◌, ℕ, List, Option, Some, None, refl, ap, sym, ◌∙◌}
use Rattle.std.specs.Prelude.{◌↔◌, option_and_then}
use Rattle.ob_lex.specs.declared.token.Token.{Token}
use Rattle.ob_lex.proofs.Steps.{both_ways}
use Rattle.ob_tree_types.specs.declared.cell.CellTree.{CellTree}
use Rattle.ob_grammar.specs.Readable.{TextReads}
use Rattle.ob_grammar.specs.ReadingCells.{parsed}
use Rattle.ob_grammar.specs.ReadingTexts.{text_cell}
use Rattle.ob_grammar.proofs.Bound.{cells_nest_within}
use Rattle.ob_grammar.proofs.Complete.{expressions_are_complete}
use Rattle.ob_grammar.proofs.CompleteCells.{cells_are_complete}
use Rattle.ob_grammar.proofs.Parsed.{parsed_is_readable}
use Rattle.ob_grammar.proofs.SoundCells.{cells_are_sound}
use Rattle.ob_grammar.proofs.Statements.{ParsedIsReadable}
use Rattle.ob_grammar.proofs.TallBound.{cells_build_within}

pub tokens_are_exact : ParsedIsReadable
tokens_are_exact ts tree = parsed_is_readable (cells_are_sound expressions_are_complete) cells_are_complete cells_nest_within cells_build_within ts tree

record Split (division : Option (List Token)) (tree : CellTree) : Type 0 where
  tokens : List Token
  are : division ≡ Some tokens
  read : parsed tokens ≡ Some tree

split : (division : Option (List Token)) (tree : CellTree) → option_and_then parsed division ≡ Some tree → Split division tree
split None tree h = cc
split (Some tokens) tree h = record { tokens = tokens; are = refl; read = h }

text_reads : (text : List ℕ) (tree : CellTree) → text_cell text ≡ Some tree → TextReads text tree
unfolding text_cell
text_reads text tree h = let s = split _ tree h in
    record { tokens = s.tokens; division = (both_ways text s.tokens).0 s.are; reads = (tokens_are_exact s.tokens tree).0 s.read }

cell_is : (text : List ℕ) (tree : CellTree) → TextReads text tree → text_cell text ≡ Some tree
unfolding text_cell
cell_is text tree r = ap (option_and_then parsed) ((both_ways text r.tokens).1 r.division) ∙ (tokens_are_exact r.tokens tree).1 r.reads

pub text_is_exact : (text : List ℕ) (tree : CellTree) → (text_cell text ≡ Some tree) ↔ TextReads text tree
text_is_exact text tree = (text_reads text tree, cell_is text tree)

pub at_most_one_cell_of : (text : List ℕ) (tree other : CellTree) → TextReads text tree → TextReads text other → tree ≡ other
at_most_one_cell_of text tree other r s = let e : Some tree ≡ Some other = sym (cell_is text tree r) ∙ cell_is text other s in cc

pub no_cell_reads : (text : List ℕ) → text_cell text ≡ None → (tree : CellTree) → TextReads text tree → ⊥
no_cell_reads text h tree r = let e : None ≡ Some tree = sym h ∙ cell_is text tree r in cc
