-- The rules of cells by how a cell begins.
use Rattle.std.proofs.Common.{◌≡◌, ℕ, List, ◌∷◌, Option, Result, refl, ap, sym, subst, ◌∙◌}
use Rattle.ob_base.specs.declared.reserved.ReservedWord.TheVariants as word
use Rattle.ob_lex.specs.declared.token.Token.{Token}
use Rattle.ob_lex.specs.declared.token.TokenKind.{TokenKind}
use Rattle.ob_lex.specs.declared.token.TokenKind.TheVariants as kind
use Rattle.ob_tree_types.specs.declared.cell.CellTree.{CellTree}
use Rattle.ob_tree_types.specs.declared.cell.CellTree.TheVariants as cell
use Rattle.ob_grammar.specs.ReadingCells.{depth_limit, all_of, bare_of, import_of, cell_by, cell_of}
use Rattle.ob_grammar.specs.Taking.{mapped}
use Rattle.ob_descent_tokens.specs.declared.error.ParseError.{ParseError}
use Rattle.ob_descent_tokens.specs.Gives.{Answers}
use Rattle.ob_descent.specs.CellStarts.{cell_start, headed_as}
use Rattle.ob_descent.specs.declared.cells.CellStart.{CellStart}
use Rattle.ob_descent.specs.declared.cells.CellStart.TheVariants as start

-- a cell that begins so, of these tokens, of which the rest stands behind the first
abbrev pub cell_as : ℕ → CellStart → List Token → List Token → Option CellTree
cell_as depth start.Import rest ts = all_of (mapped cell.Import (import_of rest))
cell_as depth start.Viewof rest ts = headed_as depth start.Viewof rest ts
cell_as depth start.Mutable rest ts = headed_as depth start.Mutable rest ts
cell_as depth start.Name rest ts = headed_as depth start.Name ts ts
cell_as depth start.Body rest ts = bare_of depth_limit depth ts

by_start : (depth : ℕ) (k : TokenKind) (t : Token) (ts : List Token) → cell_by depth_limit depth k t ts ≡ cell_as depth (cell_start k) ts (t ∷ ts)
unfolding cell_by cell_start
by_start depth (kind.Reserved word.Import) t ts = refl
by_start depth (kind.Reserved word.Viewof) t ts = refl
by_start depth (kind.Reserved word.Mutable) t ts = refl
by_start depth (kind.Reserved _) t ts = refl
by_start depth (kind.Name x) t ts = refl
by_start depth (kind.Number n) t ts = refl
by_start depth (kind.Text units) t ts = refl
by_start depth (kind.Punctuator m) t ts = refl

cell_from : (depth : ℕ) (t : Token) (ts rest : List Token) (s : CellStart) → ts ≡ t ∷ rest → cell_start t.kind ≡ s → cell_of depth_limit depth ts ≡ cell_as depth s rest ts
unfolding cell_of
cell_from depth t ts rest s first begins = ap (cell_of depth_limit depth) first ∙ by_start depth t.kind t rest ∙ ap (λ x. cell_as depth x rest (t ∷ rest)) begins
    ∙ ap (cell_as depth s rest) (sym first)

pub answered : (depth : ℕ) (t : Token) (ts rest : List Token) (s : CellStart) (r : Result CellTree ParseError) → ts ≡ t ∷ rest → cell_start t.kind ≡ s
    → Answers (cell_as depth s rest ts) r → Answers (cell_of depth_limit depth ts) r
answered depth t ts rest s r first begins answers = subst (λ x. Answers x r) (sym (cell_from depth t ts rest s first begins)) answers
