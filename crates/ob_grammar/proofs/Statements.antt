-- What is to be proved of the grammar and the descent, as types.
use Rattle.std.specs.Prelude.{◌≡◌, ◌↔◌, ◌≤◌, ℕ, ◌+◌, true, List, [], ◌∷◌, ◌++◌, Some, None}
use Rattle.ob_lex.specs.declared.token.Token.{Token}
use Rattle.ob_tree.specs.Depth.{depth_of, expr_depth}
use Rattle.ob_tree_types.specs.declared.tree.Expr.{Expr}
use Rattle.ob_tree_types.specs.declared.tree.Stmt.{Stmt}
use Rattle.ob_tree_types.specs.declared.tree.Function.{Function}
use Rattle.ob_tree_types.specs.declared.tree.Decl.{Decl}
use Rattle.ob_tree_types.specs.declared.cell.CellTree.{CellTree}
use Rattle.ob_grammar.specs.declared.form.Form.{Form}
use Rattle.ob_grammar.specs.Forms.{Stops, Ends}
use Rattle.ob_grammar.specs.Grammar.{Rule, whole, conditional, short, chain, power, prefixed, update, left, primary, Reads, ReadsItem, ReadsStmt, ReadsDecls}
use Rattle.ob_grammar.specs.Cells.{Derives, ReadsBody, IsFunctionText}
use Rattle.ob_grammar.specs.Cells as cells
use Rattle.ob_grammar.specs.Early.{is_free_of_errors}
use Rattle.ob_grammar.specs.Limits.{most_open}
use Rattle.ob_grammar.specs.Readable as readable
use Rattle.ob_grammar.specs.Semicolons.{BeginsExpression, BeginsItem, may_follow}
use Rattle.ob_grammar.specs.declared.form.Level.TheVariants as level
use Rattle.ob_grammar.specs.Taking.{Read, piece, end_of}
use Rattle.ob_grammar.specs.Reading.{at, item_of, statement_of, decls_of, reads, reads_statement}
use Rattle.ob_grammar.specs.ReadingCells.{cell_of, parsed}
use Rattle.ob_grammar.proofs.Need.{need, need_item, need_stmt, need_block, need_decls, need_function}
use Rattle.ob_grammar.proofs.Tall.{tall, tall_item, tall_stmt, tall_block, tall_decls, tall_function}

abbrev pub OnRead : {A : Type 0} → Read A → (A → List Token → Type 0) → Type 0
OnRead None P = Unit {0}
OnRead (Some p) P = P p.0 p.1

-- ---- sound: what the descent gives is in the grammar

abbrev pub ExpressionsAreSound : Type 0
ExpressionsAreSound = (limit n : ℕ) (r : Rule) (ts : List Token) → OnRead (reads limit n r ts) (λ p rest. Reads r ts p.tree p.form rest)

abbrev pub ItemsAreSound : Type 0
ItemsAreSound = (limit n : ℕ) (ts : List Token) → OnRead (reads_statement limit n level.Item ts) (ReadsItem ts)

abbrev pub StatementsAreSound : Type 0
StatementsAreSound = (limit n : ℕ) (ts : List Token) → OnRead (reads_statement limit n level.Statement ts) (ReadsStmt ts)

abbrev pub CellsAreSound : Type 0
CellsAreSound = (limit n : ℕ) (ts : List Token) (tree : CellTree) → cell_of limit n ts ≡ Some tree → Derives ts tree

-- ---- complete: what is in the grammar, the descent gives, where nothing goes on, and the limit and the number are large enough

-- tokens of smaller ranks go on with a piece of the rule; with a Cond, those that go on with the Expr behind its `:`
abbrev pub reach : Rule → ℕ
reach primary = 0
reach left = 1
reach update = 2
reach prefixed = 2
reach power = 3
reach (chain k) = k + 4
reach short = 14
reach conditional = 17
reach whole = 17

abbrev pub ExpressionsAreComplete : Type 0
ExpressionsAreComplete = (r : Rule) (ts : List Token) (a : Expr) (f : Form) (rest : List Token) (d : Reads r ts a f rest) → Stops f (reach r) rest
    → (limit : ℕ) → tall d ≤ limit → (m : ℕ) → need d ≤ m → at limit (reads limit m) (reads_statement limit m) r ts ≡ Some (piece a f, rest)

abbrev pub ItemsAreComplete : Type 0
ItemsAreComplete = (ts : List Token) (s : Stmt) (rest : List Token) (d : ReadsItem ts s rest) → (limit : ℕ) → tall_item d ≤ limit → (m : ℕ) → need_item d ≤ m
    → item_of limit (reads limit m) (reads_statement limit m) ts ≡ Some (s, rest)

abbrev pub StatementsAreComplete : Type 0
StatementsAreComplete = (ts : List Token) (s : Stmt) (rest : List Token) (d : ReadsStmt ts s rest) → (limit : ℕ) → tall_stmt d ≤ limit → (m : ℕ) → need_stmt d ≤ m
    → statement_of limit (reads limit m) (reads_statement limit m) ts ≡ Some (s, rest)

abbrev pub DeclarationsAreComplete : Type 0
DeclarationsAreComplete = (ts : List Token) (ds : List Decl) (f : Form) (rest : List Token) (d : ReadsDecls ts ds f rest) → Stops f 18 rest → (limit : ℕ)
    → tall_decls d ≤ limit → (m : ℕ) → need_decls d ≤ m → decls_of limit (reads limit m) (reads_statement limit m) ts ≡ Some (record { decls = ds; form = f }, rest)

abbrev pub EndsAreComplete : Type 0
EndsAreComplete = (f : Form) (ts rest : List Token) → Ends f ts rest ↔ (end_of f ts ≡ Some rest)

-- a body, and the function of a function cell, are read through `whole`
abbrev pub need_body : {ts : List Token} {g : Function} {rest : List Token} → ReadsBody ts g rest → ℕ
need_body (cells.block ts rest items d) = need_block d
need_body (cells.value ts rest a f h d) = 1 + need d

abbrev pub need_cell : {ts : List Token} {tree : CellTree} → Derives ts tree → ℕ
need_cell cells.nothing = 0
need_cell (cells.imported ts rest i d e) = 0
need_cell (cells.function_cell ts g d) = 1 + need_function d.reads
need_cell (cells.bare ts rest g d e other) = need_body d
need_cell (cells.named n q ts rest x g hn hq d e) = need_body d
need_cell (cells.view t n q ts rest x g ht hn hq d e) = need_body d
need_cell (cells.mutable_cell t n q ts rest x g ht hn hq d e) = need_body d

abbrev pub tall_body : {ts : List Token} {g : Function} {rest : List Token} → ReadsBody ts g rest → ℕ
tall_body (cells.block ts rest items d) = tall_block d
tall_body (cells.value ts rest a f h d) = tall d

abbrev pub tall_cell : {ts : List Token} {tree : CellTree} → Derives ts tree → ℕ
tall_cell cells.nothing = 0
tall_cell (cells.imported ts rest i d e) = 0
tall_cell (cells.function_cell ts g d) = tall_function d.reads
tall_cell (cells.bare ts rest g d e other) = tall_body d
tall_cell (cells.named n q ts rest x g hn hq d e) = tall_body d
tall_cell (cells.view t n q ts rest x g ht hn hq d e) = tall_body d
tall_cell (cells.mutable_cell t n q ts rest x g ht hn hq d e) = tall_body d

-- an expression that assigns to a name reads as a bare cell too, but has an early error
abbrev pub CellsAreComplete : Type 0
CellsAreComplete = (ts : List Token) (tree : CellTree) (d : Derives ts tree) → is_free_of_errors tree ≡ true → (limit : ℕ)
    → tall_cell d ≤ limit → (m : ℕ) → need_cell d ≤ m → cell_of limit m ts ≡ Some tree

-- ---- the depth of the tree and the brackets bound the nesting, and the depth alone what the loops build: with 200 and 500, 701 and 200 are
-- always enough

abbrev pub ExpressionsNestWithin : Type 0
ExpressionsNestWithin = (ts : List Token) (a : Expr) (f : Form) (d : Reads whole ts a f []) → need d ≤ expr_depth a + most_open 0 ts

abbrev pub CellsNestWithin : Type 0
CellsNestWithin = (ts : List Token) (tree : CellTree) (d : Derives ts tree) → need_cell d ≤ depth_of tree + most_open 0 ts

abbrev pub CellsBuildWithin : Type 0
CellsBuildWithin = (ts : List Token) (tree : CellTree) (d : Derives ts tree) → tall_cell d ≤ depth_of tree

-- ---- the laws that follow, public in the end

abbrev pub AtMostOneExpression : Type 0
AtMostOneExpression = (ts : List Token) (a b : Expr) (f g : Form) → Reads whole ts a f [] → Reads whole ts b g [] → a ≡ b

-- a token list reads as at most one cell
abbrev pub AtMostOneCell : Type 0
AtMostOneCell = (ts : List Token) (a b : CellTree) → readable.Reads ts a → readable.Reads ts b → a ≡ b

-- the descent, within the limits, reads exactly what is readable
abbrev pub ParsedIsReadable : Type 0
ParsedIsReadable = (ts : List Token) (tree : CellTree) → (parsed ts ≡ Some tree) ↔ readable.Reads ts tree

-- A statement that ends before a token is the beginning of no longer statement that goes on with that token: where a `;` is left out at a
-- line break, no rule lets the next token go on.
abbrev pub EndsWhereNothingGoesOn : Type 0
EndsWhereNothingGoesOn = (front more : List Token) (t : Token) (s : Stmt) → ReadsItem (front ++ t ∷ more) s (t ∷ more) → BeginsItem (front ++ t ∷ []) → ⊥

-- Where no rule lets a token that may follow a statement go on with an expression, a `;` may be left out before it, after a line break.
abbrev pub EndsWhereverNothingGoesOn : Type 0
EndsWhereverNothingGoesOn = (front more : List Token) (t : Token) (a : Expr) (f : Form) → Reads whole (front ++ t ∷ more) a f (t ∷ more)
    → may_follow t.kind ≡ true → t.break_before ≡ true → (BeginsExpression (front ++ t ∷ []) → ⊥) → Ends f (t ∷ more) (t ∷ more)

-- a derivation looks at no more than the first token of what follows it
abbrev pub ItemsMove : Type 0
ItemsMove = (front more others : List Token) (t : Token) (s : Stmt) → ReadsItem (front ++ t ∷ more) s (t ∷ more) → ReadsItem (front ++ t ∷ others) s (t ∷ others)
