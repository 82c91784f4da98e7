-- The answer that is computed from a text is the cell that the text reads as.
use Rattle.std.proofs.Common.{◌≡◌, ◌≢◌, ℕ, List, Option, Some, None, Ok, Err, refl, sym, ap, ◌∙◌}
use Rattle.std.specs.Prelude.{IfOk, Result}
use Rattle.ob_tree_types.specs.declared.cell.CellTree.{CellTree}
use Rattle.ob_descent_tokens.specs.declared.error.ParseError.{ParseError}
use Rattle.ob_descent_tokens.specs.declared.error.ParseError.TheVariants as errors
use Rattle.ob_descent_tokens.specs.Gives.{Answers}
use Rattle.ob_grammar.specs.Readable.{TextReads}
use Rattle.ob_grammar.specs.ReadingTexts.{text_cell}
use Rattle.ob_grammar.proofs.Texts.{text_is_exact, no_cell_reads}

pub found : (text : List ℕ) (r : Result CellTree ParseError) → Answers (text_cell text) r → IfOk r (TextReads text)
found text (Ok tree) h = (text_is_exact text tree).0 h
found text (Err e) h = tt

pub syntax_of : (text : List ℕ) (r : Result CellTree ParseError) → Answers (text_cell text) r → r ≡ Err errors.Syntax → (tree : CellTree) → TextReads text tree → ⊥
syntax_of text (Ok x) h e tree reads = cc
syntax_of text (Err errors.NoMemory) h e tree reads = cc
syntax_of text (Err errors.Syntax) h e tree reads = no_cell_reads text (h (λ q. cc)) tree reads

pub given : (text : List ℕ) (r : Result CellTree ParseError) → Answers (text_cell text) r → (tree : CellTree) → TextReads text tree → r ≢ Err errors.NoMemory → r ≡ Ok tree
given text (Ok x) h tree reads n = let e : Some x ≡ Some tree = sym h ∙ (text_is_exact text tree).1 reads in cc
given text (Err errors.NoMemory) h tree reads n = absurd (n refl)
given text (Err errors.Syntax) h tree reads n = absurd (no_cell_reads text (h (λ q. cc)) tree reads)
