-- The descent on cells.
use Rattle.std.specs.Prelude.{ℕ, zero, suc, Bool, true, false, List, [], ◌∷◌, length, Option, Some, None, if◌then◌else◌, nat_le, ◌&&◌}
use Rattle.ob_base.specs.declared.reserved.ReservedWord.TheVariants as word
use Rattle.ob_lex.specs.declared.token.Token.{Token}
use Rattle.ob_lex.specs.declared.token.TokenKind.{TokenKind}
use Rattle.ob_lex.specs.declared.token.TokenKind.TheVariants as kind
use Rattle.ob_tree_types.specs.declared.tree.DeclValue.TheOpen as layer
use Rattle.ob_tree_types.specs.declared.tree.Expr.{Expr, out-Expr}
use Rattle.ob_tree_types.specs.declared.tree.DeclValue.{DeclValue}
use Rattle.ob_tree_types.specs.declared.tree.FnBody.{FnBody}
use Rattle.ob_tree_types.specs.declared.tree.ForHead.{ForHead}
use Rattle.ob_tree_types.specs.declared.tree.PropNode.{PropNode}
use Rattle.ob_tree_types.specs.declared.tree.Stmt.{Stmt}
use Rattle.ob_tree_types.specs.declared.tree.CatchPart.{CatchPart}
use Rattle.ob_tree_types.specs.declared.tree.Decl.{Decl}
use Rattle.ob_tree_types.specs.declared.tree.Function.{Function}
use Rattle.ob_tree.specs.Depth.{depth_of}
use Rattle.ob_tree_types.specs.declared.cell.CellTree.{CellTree}
use Rattle.ob_tree_types.specs.declared.cell.CellTree.TheVariants as cell
use Rattle.ob_tree_types.specs.declared.cell.ImportTree.{ImportTree}
use Rattle.ob_tree_types.specs.declared.cell.ImportSpec.{ImportSpec}
use Rattle.ob_tree_types.specs.declared.cell.SpecForm.{SpecForm}
use Rattle.ob_tree_types.specs.declared.cell.SpecForm.TheVariants as form
use Rattle.ob_grammar.specs.Grammar.{whole}
use Rattle.ob_grammar.specs.Cells.{of_block, of_value}
use Rattle.ob_grammar.specs.Early.{is_free_of_errors}
use Rattle.ob_grammar.specs.Limits.{most_open}
use Rattle.ob_grammar.specs.Taking.{Read, Parser, ◌>>=◌, mapped, opens_brace, closes_brace, is_comma, is_semicolon, is_assign, is_function, is_with, is_as, is_from, name_of, text_of, take, next_is, before, one, if_taken}
use Rattle.ob_grammar.specs.Reading.{block_of, reads, reads_statement}

-- ---- imports

abbrev pub form_by : TokenKind → Token → List Token → SpecForm × List Token
form_by (kind.Reserved word.Viewof) t ts = (form.Viewof, ts)
form_by (kind.Reserved word.Mutable) t ts = (form.Mutable, ts)
form_by _ t ts = (form.Plain, t ∷ ts)

unfoldable pub form_of : List Token → SpecForm × List Token
form_of [] = (form.Plain, [])
form_of (t ∷ ts) = form_by t.kind t ts

abbrev pub spec_by : Option (List Token) → SpecForm → List ℕ → Parser ImportSpec
spec_by (Some rest) f x ts = mapped (λ y. record { form = f; source = x; alias = Some y }) (one name_of rest)
spec_by None f x ts = Some (record { form = f; source = x; alias = None }, ts)

abbrev pub spec_at : SpecForm × List Token → Read ImportSpec
spec_at p = one name_of p.1 >>= λ x mid. spec_by (take is_as mid) p.0 x mid

unfoldable pub spec_of : Parser ImportSpec
spec_of ts = spec_at (form_of ts)

abbrev pub specs_by : Bool → Bool → ImportSpec → Parser (List ImportSpec) → Parser (List ImportSpec)
specs_by true comma s more ts = Some (s ∷ [], ts)
specs_by false true s more ts = mapped (λ list. s ∷ list) (more ts)
specs_by false false s more ts = None

abbrev pub after_spec : Parser (List ImportSpec) → ImportSpec → Parser (List ImportSpec)
after_spec more s [] = None
after_spec more s (c ∷ ts) = specs_by (closes_brace c.kind) (is_comma c.kind) s more ts

abbrev pub specs_at : Option (List Token) → Parser (List ImportSpec) → Parser (List ImportSpec)
specs_at (Some rest) more ts = Some ([], rest)
specs_at None more ts = spec_of ts >>= after_spec more

unfoldable pub specs_from : ℕ → Parser (List ImportSpec)
specs_from zero ts = None
specs_from (suc n) ts = specs_at (take closes_brace ts) (specs_from n) ts

unfoldable pub specs_of : Parser (List ImportSpec)
specs_of ts = if_taken (take opens_brace ts) (λ inside. specs_from (length inside) inside)

abbrev pub with_by : Option (List Token) → Parser (Option (List ImportSpec))
with_by (Some rest) ts = mapped (λ list. Some list) (specs_of rest)
with_by None ts = Some (None, ts)

-- what follows `import`
unfoldable pub import_of : Parser ImportTree
import_of ts = specs_of ts >>= λ list mid. with_by (take is_with mid) mid >>= λ given next.
    if_taken (take is_from next) (λ rest. mapped (λ id. record { specs = list; with = given; from = id }) (one text_of rest))

-- ---- cells

abbrev pub is_end : List Token → Bool
is_end [] = true
is_end (t ∷ []) = is_semicolon t.kind
is_end (t ∷ u ∷ ts) = false

-- what was read, where nothing but a `;` follows it
abbrev pub all_of : {A : Type 0} → Read A → Option A
all_of None = None
all_of (Some p) = if is_end p.1 then Some p.0 else None

-- a text that is a named function as a whole is a function cell
abbrev pub named_cell : Option (List ℕ) → Function → Expr → CellTree
named_cell (Some x) g a = cell.Function g
named_cell None g a = cell.Bare (of_value a)

abbrev pub function_by : layer.Expr-F DeclValue Expr FnBody ForHead PropNode Stmt CatchPart Decl Function → Expr → CellTree
function_by (layer.Expr::Function g) a = named_cell g.name g a
function_by _ a = cell.Bare (of_value a)

-- the cell of an expression; the flag says whether the text begins with `function`
abbrev pub value_cell : Bool → Expr → CellTree
value_cell true a = function_by (out-Expr a) a
value_cell false a = cell.Bare (of_value a)

-- with trees of loops no deeper than the limit, and pieces nested no deeper than the number
module _ (limit n : ℕ) where
  abbrev pub body_by : Bool → Parser Function
  body_by true ts = mapped of_block (block_of limit (reads limit n) (reads_statement limit n) ts)
  body_by false ts = mapped (λ p. of_value p.tree) (reads limit n whole ts)

  unfoldable pub body_of : Parser Function
  body_of ts = body_by (next_is opens_brace ts) ts

  abbrev pub bare_by : Bool → Parser CellTree
  bare_by true ts = mapped (λ items. cell.Bare (of_block items)) (block_of limit (reads limit n) (reads_statement limit n) ts)
  bare_by false ts = mapped (λ p. value_cell (next_is is_function ts) p.tree) (reads limit n whole ts)

  unfoldable pub bare_of : List Token → Option CellTree
  bare_of ts = all_of (bare_by (next_is opens_brace ts) ts)

  -- a name and `=`
  unfoldable pub cell_head : Parser (List ℕ)
  cell_head ts = one name_of ts >>= λ x mid. before is_assign x mid

  abbrev pub headed : (List ℕ → Function → CellTree) → Read (List ℕ) → List Token → Option CellTree
  headed make (Some p) ts = all_of (mapped (make p.0) (body_of p.1))
  headed make None ts = bare_of ts

  unfoldable pub cell_by : TokenKind → Token → List Token → Option CellTree
  cell_by (kind.Reserved word.Import) t ts = all_of (mapped cell.Import (import_of ts))
  cell_by (kind.Reserved word.Viewof) t ts = headed cell.View (cell_head ts) (t ∷ ts)
  cell_by (kind.Reserved word.Mutable) t ts = headed cell.Mutable (cell_head ts) (t ∷ ts)
  cell_by (kind.Name x) t ts = headed cell.Named (cell_head (t ∷ ts)) (t ∷ ts)
  cell_by _ t ts = bare_of (t ∷ ts)

  unfoldable pub cell_of : List Token → Option CellTree
  cell_of [] = Some cell.Empty
  cell_of (t ∷ ts) = cell_by t.kind t ts

-- ---- within the limits

-- the depth that a tree may have
abbrev pub depth_limit : ℕ
depth_limit = 200

abbrev pub if_readable : Option CellTree → Option CellTree
if_readable None = None
if_readable (Some tree) = if nat_le (depth_of tree) depth_limit && is_free_of_errors tree then Some tree else None

abbrev pub parsed_by : Bool → List Token → Option CellTree
parsed_by true tokens = if_readable (cell_of depth_limit 701 tokens)
parsed_by false tokens = None

-- the cell that the tokens read as
unfoldable pub parsed : List Token → Option CellTree
parsed tokens = parsed_by (nat_le (most_open 0 tokens) 500) tokens
