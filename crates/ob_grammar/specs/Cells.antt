-- The grammar of cells (this project, after the Observable Parser): imports, functions, and bodies that may have a name.
use Rattle.std.specs.Prelude.{◌≡◌, ℕ, false, List, [], ◌∷◌, codes, Option, Some, None}
use Rattle.ob_lex.specs.declared.punctuator.Punctuator.TheVariants as mark
use Rattle.ob_base.specs.declared.reserved.ReservedWord.TheVariants as word
use Rattle.ob_lex.specs.declared.token.Token.{Token}
use Rattle.ob_lex.specs.declared.token.TokenKind.TheVariants as kind
use Rattle.ob_tree_types.specs.declared.tree.Expr.{Expr}
use Rattle.ob_tree_types.specs.declared.tree.Stmt.{Stmt}
use Rattle.ob_tree_types.specs.declared.tree.Function.{Function}
use Rattle.ob_tree_types.specs.declared.tree.FnBody.TheVariants as body
use Rattle.ob_tree_types.specs.declared.cell.CellTree.{CellTree}
use Rattle.ob_tree_types.specs.declared.cell.CellTree.TheVariants as cell
use Rattle.ob_tree_types.specs.declared.cell.ImportTree.{ImportTree}
use Rattle.ob_tree_types.specs.declared.cell.ImportSpec.{ImportSpec}
use Rattle.ob_tree_types.specs.declared.cell.SpecForm.{SpecForm}
use Rattle.ob_tree_types.specs.declared.cell.SpecForm.TheVariants as form
use Rattle.ob_grammar.specs.Marks.{IsMark, IsWord, IsName, NotMark}
use Rattle.ob_grammar.specs.declared.form.Form.{Form}
use Rattle.ob_grammar.specs.Grammar.{whole, Reads, ReadsBlock, ReadsFunction}
use Rattle.ob_grammar.specs.Yields.{yields}

-- ---- imports

-- ["viewof" | "mutable"]
pub data ReadsForm : List Token → SpecForm → List Token → Type 0 where
  plain : (ts : List Token) → ReadsForm ts form.Plain ts
  viewof : (t : Token) (ts : List Token) → IsWord word.Viewof t → ReadsForm (t ∷ ts) form.Viewof ts
  mutable : (t : Token) (ts : List Token) → IsWord word.Mutable t → ReadsForm (t ∷ ts) form.Mutable ts

-- ["as" Name]
pub data ReadsAlias : List Token → Option (List ℕ) → List Token → Type 0 where
  no_alias : (ts : List Token) → ReadsAlias ts None ts
  alias : (t n : Token) (ts : List Token) (x : List ℕ) → IsName (codes "as") t → IsName x n → ReadsAlias (t ∷ n ∷ ts) (Some x) ts

-- Spec = ["viewof" | "mutable"] Name ["as" Name]
pub data ReadsSpec : List Token → ImportSpec → List Token → Type 0 where
  spec : (n : Token) (ts mid rest : List Token) (f : SpecForm) (x : List ℕ) (y : Option (List ℕ)) → ReadsForm ts f (n ∷ mid) → IsName x n
      → ReadsAlias mid y rest → ReadsSpec ts (record { form = f; source = x; alias = y }) rest

-- [Spec {"," Spec}* [","]] "}"
pub data ReadsSpecList : List Token → List ImportSpec → List Token → Type 0 where
  no_spec : (t : Token) (ts : List Token) → IsMark mark.CloseBrace t → ReadsSpecList (t ∷ ts) [] ts
  last_spec : (c : Token) (ts rest : List Token) (s : ImportSpec) → ReadsSpec ts s (c ∷ rest) → IsMark mark.CloseBrace c → ReadsSpecList ts (s ∷ []) rest
  more_specs : (c : Token) (ts mid rest : List Token) (s : ImportSpec) (specs : List ImportSpec) → ReadsSpec ts s (c ∷ mid) → IsMark mark.Comma c
      → ReadsSpecList mid specs rest → ReadsSpecList ts (s ∷ specs) rest

-- Specs = "{" [Spec {"," Spec}* [","]] "}"
pub data ReadsSpecs : List Token → List ImportSpec → List Token → Type 0 where
  specs : (t : Token) (ts rest : List Token) (list : List ImportSpec) → IsMark mark.OpenBrace t → ReadsSpecList ts list rest → ReadsSpecs (t ∷ ts) list rest

-- ["with" Specs]
pub data ReadsWith : List Token → Option (List ImportSpec) → List Token → Type 0 where
  no_with : (ts : List Token) → ReadsWith ts None ts
  with_specs : (t : Token) (ts rest : List Token) (list : List ImportSpec) → IsWord word.With t → ReadsSpecs ts list rest → ReadsWith (t ∷ ts) (Some list) rest

-- Import = "import" Specs ["with" Specs] "from" Text
pub data ReadsImport : List Token → ImportTree → List Token → Type 0 where
  import : (t o q : Token) (ts mid rest : List Token) (list : List ImportSpec) (given : Option (List ImportSpec)) (id : List ℕ) → IsWord word.Import t
      → ReadsSpecs ts list mid → ReadsWith mid given (o ∷ q ∷ rest) → IsName (codes "from") o → q.kind ≡ kind.Text id
      → ReadsImport (t ∷ ts) (record { specs = list; with = given; from = id }) rest

-- ---- cells

-- the function of a cell that is no function cell: it has no name and no parameters
abbrev pub of_block : List Stmt → Function
of_block items = record { name = None; params = []; generator = yields items; body = body.Items items }

abbrev pub of_value : Expr → Function
of_value a = record { name = None; params = []; generator = false; body = body.Value a }

-- Body = Block | Expr, a Block where the first token is "{"
pub data ReadsBody : List Token → Function → List Token → Type 0 where
  block : (ts rest : List Token) (items : List Stmt) → ReadsBlock ts items rest → ReadsBody ts (of_block items) rest
  value : (ts rest : List Token) (a : Expr) (f : Form) → NotMark mark.OpenBrace ts → Reads whole ts a f rest → ReadsBody ts (of_value a) rest

-- [";"] and the end of the text
pub data AtEnd : List Token → Type 0 where
  plain_end : AtEnd []
  ended : (t : Token) → IsMark mark.Semicolon t → AtEnd (t ∷ [])

-- FunctionCell [";"], where FunctionCell = "function" ["*"] Name Params Block
pub record IsFunctionText (ts : List Token) (f : Function) : Type 0 where
  pub name : List ℕ
  pub rest : List Token
  pub reads : ReadsFunction ts f rest
  pub named : f.name ≡ Some name
  pub ends : AtEnd rest

-- the tokens of a text derive this cell
pub data Derives : List Token → CellTree → Type 0 where
  -- Cell = (nothing)
  nothing : Derives [] cell.Empty
  -- | Import [";"]
  imported : (ts rest : List Token) (i : ImportTree) → ReadsImport ts i rest → AtEnd rest → Derives ts (cell.Import i)
  -- | FunctionCell [";"]
  function_cell : (ts : List Token) (f : Function) → IsFunctionText ts f → Derives ts (cell.Function f)
  -- | Body [";"]; a text that is a named function as a whole is a FunctionCell
  bare : (ts rest : List Token) (f : Function) → ReadsBody ts f rest → AtEnd rest → ((g : Function) → IsFunctionText ts g → ⊥) → Derives ts (cell.Bare f)
  -- | Name "=" Body [";"]
  named : (n q : Token) (ts rest : List Token) (x : List ℕ) (f : Function) → IsName x n → IsMark mark.Assign q → ReadsBody ts f rest → AtEnd rest
      → Derives (n ∷ q ∷ ts) (cell.Named x f)
  -- | "viewof" Name "=" Body [";"]
  view : (t n q : Token) (ts rest : List Token) (x : List ℕ) (f : Function) → IsWord word.Viewof t → IsName x n → IsMark mark.Assign q → ReadsBody ts f rest
      → AtEnd rest → Derives (t ∷ n ∷ q ∷ ts) (cell.View x f)
  -- | "mutable" Name "=" Body [";"]
  mutable_cell : (t n q : Token) (ts rest : List Token) (x : List ℕ) (f : Function) → IsWord word.Mutable t → IsName x n → IsMark mark.Assign q
      → ReadsBody ts f rest → AtEnd rest → Derives (t ∷ n ∷ q ∷ ts) (cell.Mutable x f)
