-- The canonical text of a tree (this project): its tokens, with one space between two of them.
use Rattle.std.specs.Prelude.{ℕ, ◌+◌, ◌==◌, if◌then◌else◌, Bool, true, false, List, [], ◌∷◌, ◌++◌, codes, map, Option, Some, None}
use Rattle.ob_base.specs.declared.operators.BinaryOp.{BinaryOp}
use Rattle.ob_base.specs.declared.operators.BinaryOp.TheVariants as binary
use Rattle.ob_base.specs.declared.operators.CompareOp.{CompareOp}
use Rattle.ob_base.specs.declared.operators.CompareOp.TheVariants as compare
use Rattle.ob_base.specs.declared.operators.UnaryOp.{UnaryOp}
use Rattle.ob_base.specs.declared.operators.UnaryOp.TheVariants as unary
use Rattle.ob_base.specs.declared.operators.LogicOp.{LogicOp}
use Rattle.ob_base.specs.declared.operators.LogicOp.TheVariants as logic
use Rattle.ob_base.specs.declared.operators.AssignOp.{AssignOp}
use Rattle.ob_base.specs.declared.operators.AssignOp.TheVariants as assign
use Rattle.ob_base.specs.declared.operators.UpdateOp.{UpdateOp}
use Rattle.ob_base.specs.declared.operators.UpdateOp.TheVariants as update
use Rattle.ob_base.specs.declared.operators.ChangeOp.{ChangeOp}
use Rattle.ob_base.specs.declared.operators.ChangeOp.TheVariants as change
use Rattle.ob_tree_types.specs.declared.cell.CellTree.{CellTree}
use Rattle.ob_tree_types.specs.declared.cell.CellTree.TheVariants as cell
use Rattle.ob_tree_types.specs.declared.cell.ImportTree.{ImportTree}
use Rattle.ob_tree_types.specs.declared.cell.ImportSpec.{ImportSpec}
use Rattle.ob_tree_types.specs.declared.cell.SpecForm.{SpecForm}
use Rattle.ob_tree_types.specs.declared.cell.SpecForm.TheVariants as form
use Rattle.ob_tree_types.specs.declared.tree.DeclValue.{DeclValue, fold-DeclValue}
use Rattle.ob_tree_types.specs.declared.tree.Expr.{Expr, fold-Expr}
use Rattle.ob_tree_types.specs.declared.tree.FnBody.{FnBody, fold-FnBody}
use Rattle.ob_tree_types.specs.declared.tree.ForHead.{ForHead, fold-ForHead}
use Rattle.ob_tree_types.specs.declared.tree.PropNode.{PropNode, fold-PropNode}
use Rattle.ob_tree_types.specs.declared.tree.Stmt.{Stmt, fold-Stmt}
use Rattle.ob_tree_types.specs.declared.tree.CatchPart.{CatchPart, fold-CatchPart}
use Rattle.ob_tree_types.specs.declared.tree.Decl.{Decl, fold-Decl}
use Rattle.ob_tree_types.specs.declared.tree.Function.{Function, fold-Function}
use Rattle.ob_tree_types.specs.declared.tree.DeclValue.TheOpen as layer
use Rattle.ob_tree.specs.Tokens.{Token, Word, Mark, Number, Quoted, key_token, text_of}

abbrev pub Tokens : Type 0
Tokens = List Token

-- the tokens of an expression, and whether they may stand as an operand without parentheses
pub record Shown : Type 0 where
  pub tokens : Tokens
  pub alone : Bool

-- the tokens of a function after the word `function`, and those of an arrow function
pub record Both : Type 0 where
  pub declared : Tokens
  pub arrow : Tokens

-- ---- operators

abbrev pub binary_mark : BinaryOp → List ℕ
binary_mark binary.Add = codes "+"
binary_mark binary.Sub = codes "-"
binary_mark binary.Mul = codes "*"
binary_mark binary.Div = codes "/"
binary_mark binary.Rem = codes "%"
binary_mark binary.Pow = codes "**"
binary_mark binary.BitAnd = codes "&"
binary_mark binary.BitOr = codes "|"
binary_mark binary.BitXor = codes "^"
binary_mark binary.Shl = codes "<<"
binary_mark binary.Shr = codes ">>"
binary_mark binary.ShrUnsigned = codes ">>>"

abbrev pub compare_mark : CompareOp → List ℕ
compare_mark compare.Less = codes "<"
compare_mark compare.Greater = codes ">"
compare_mark compare.LessEq = codes "<="
compare_mark compare.GreaterEq = codes ">="
compare_mark compare.Same = codes "==="
compare_mark compare.NotSame = codes "!=="

abbrev pub logic_mark : LogicOp → List ℕ
logic_mark logic.And = codes "&&"
logic_mark logic.Or = codes "||"
logic_mark logic.Nullish = codes "??"

-- an operator, and `=` behind it
abbrev pub assign_mark : AssignOp → List ℕ
assign_mark assign.Set = codes "="
assign_mark (assign.Binary op) = binary_mark op ++ codes "="
assign_mark (assign.Logic op) = logic_mark op ++ codes "="

abbrev pub update_mark : UpdateOp → List ℕ
update_mark update.Up = codes "++"
update_mark update.Down = codes "--"

abbrev pub change_mark : ChangeOp → List ℕ
change_mark change.Set = codes "="
change_mark change.Add = codes "+="
change_mark change.Sub = codes "-="
change_mark change.Mul = codes "*="
change_mark change.Up = codes "++"
change_mark change.Down = codes "--"

abbrev pub unary_token : UnaryOp → Token
unary_token unary.Not = Mark (codes "!")
unary_token unary.Minus = Mark (codes "-")
unary_token unary.Plus = Mark (codes "+")
unary_token unary.BitNot = Mark (codes "~")
unary_token unary.Typeof = Word (codes "typeof")
unary_token unary.Void = Word (codes "void")

-- ---- frequent parts

abbrev pub in_parentheses : Tokens → Tokens
in_parentheses ts = Mark (codes "(") ∷ ts ++ Mark (codes ")") ∷ []

abbrev pub in_brackets : Tokens → Tokens
in_brackets ts = Mark (codes "[") ∷ ts ++ Mark (codes "]") ∷ []

abbrev pub in_braces : Tokens → Tokens
in_braces ts = Mark (codes "{") ∷ ts ++ Mark (codes "}") ∷ []

abbrev pub ended : Tokens → Tokens
ended ts = ts ++ Mark (codes ";") ∷ []

-- what stands before the part at a place: a comma, but for the first
abbrev pub comma_before : ℕ → Tokens
comma_before place = if place == 0 then [] else Mark (codes ",") ∷ []

-- the parts from a place on, with commas between
abbrev pub separated : ℕ → List Tokens → Tokens
separated place [] = []
separated place (ts ∷ rest) = comma_before place ++ (ts ++ separated (place + 1) rest)

abbrev pub listed : List Tokens → Tokens
listed parts = separated 0 parts

abbrev pub joined : List Tokens → Tokens
joined [] = []
joined (ts ∷ rest) = ts ++ joined rest

abbrev pub operand_by : Bool → Tokens → Tokens
operand_by true ts = ts
operand_by false ts = in_parentheses ts

-- an operand, a callee, or the object of a member or index
abbrev pub operand : Shown → Tokens
operand a = operand_by a.alone a.tokens

abbrev pub tokens_of : Shown → Tokens
tokens_of a = a.tokens

abbrev pub name_token : List ℕ → Tokens
name_token x = Word x ∷ []

abbrev pub name_if_there : Option (List ℕ) → Tokens
name_if_there None = []
name_if_there (Some x) = name_token x

abbrev pub expr_if_there : Option Shown → Tokens
expr_if_there None = []
expr_if_there (Some a) = a.tokens

-- `NAME =`, where a name is there
abbrev pub target_if_there : Option (List ℕ) → Tokens
target_if_there None = []
target_if_there (Some x) = Word x ∷ Mark (codes "=") ∷ []

abbrev pub star_if : Bool → Tokens
star_if true = Mark (codes "*") ∷ []
star_if false = []

abbrev pub bool_word : Bool → List ℕ
bool_word true = codes "true"
bool_word false = codes "false"

-- ---- expressions

abbrev pub stands : Tokens → Shown
stands ts = record { tokens = ts; alone = true }

abbrev pub wants : Tokens → Shown
wants ts = record { tokens = ts; alone = false }

abbrev pub between : List ℕ → Shown → Shown → Shown
between mark a b = wants (operand a ++ Mark mark ∷ operand b)

abbrev pub update_shown : Bool → Token → Shown → Shown
update_shown true op a = wants (op ∷ operand a)
update_shown false op a = wants (operand a ++ op ∷ [])

abbrev pub expr_step : layer.Expr-F Tokens Shown Tokens Tokens Tokens Tokens Tokens Tokens Both → Shown
expr_step layer.Undefined = stands (Word (codes "undefined") ∷ [])
expr_step layer.Null = stands (Word (codes "null") ∷ [])
expr_step (layer.Bool b) = stands (Word (bool_word b) ∷ [])
expr_step (layer.Int n) = stands (Number n ∷ [])
expr_step (layer.Text units) = stands (Quoted units ∷ [])
expr_step (layer.Name x) = stands (Word x ∷ [])
expr_step (layer.ViewofName x) = stands (Word (codes "viewof") ∷ Word x ∷ [])
expr_step (layer.Array items) = stands (in_brackets (listed (map tokens_of items)))
expr_step (layer.Object props) = wants (in_braces (listed props))
expr_step (layer.Expr::Function f) = wants (Word (codes "function") ∷ f.declared)
expr_step (layer.Arrow f) = wants f.arrow
expr_step (layer.Unary op a) = wants (unary_token op ∷ operand a)
expr_step (layer.Binary op a b) = between (binary_mark op) a b
expr_step (layer.Compare op a b) = between (compare_mark op) a b
expr_step (layer.Logic op a b) = between (logic_mark op) a b
expr_step (layer.Cond a b c) = wants (operand a ++ (Mark (codes "?") ∷ operand b ++ Mark (codes ":") ∷ operand c))
expr_step (layer.Assign op a b) = between (assign_mark op) a b
expr_step (layer.Update op before a) = update_shown before (Mark (update_mark op)) a
expr_step (layer.Member a word) = stands (operand a ++ Mark (codes ".") ∷ Word word ∷ [])
expr_step (layer.Index a k) = stands (operand a ++ in_brackets k.tokens)
expr_step (layer.Call a arguments) = stands (operand a ++ in_parentheses (listed (map tokens_of arguments)))
expr_step (layer.New x arguments) = stands (Word (codes "new") ∷ Word x ∷ in_parentheses (listed (map tokens_of arguments)))

abbrev pub prop_step : layer.PropNode-F Tokens Shown Tokens Tokens Tokens Tokens Tokens Tokens Both → Tokens
prop_step (layer.Short x) = name_token x
prop_step (layer.Fixed key a) = key_token key ∷ Mark (codes ":") ∷ a.tokens
prop_step (layer.Computed k a) = in_brackets k.tokens ++ Mark (codes ":") ∷ a.tokens

-- ---- functions

abbrev pub body_step : layer.FnBody-F Tokens Shown Tokens Tokens Tokens Tokens Tokens Tokens Both → Tokens
body_step (layer.Items items) = in_braces (joined items)
body_step (layer.FnBody::Value a) = in_parentheses a.tokens

abbrev pub params_tokens : List (List ℕ) → Tokens
params_tokens params = in_parentheses (listed (map name_token params))

abbrev pub function_step : layer.Function-F Tokens Shown Tokens Tokens Tokens Tokens Tokens Tokens Both → Both
function_step f = record {
  declared = star_if f.generator ++ (name_if_there f.name ++ (params_tokens f.params ++ f.body));
  arrow = params_tokens f.params ++ Mark (codes "=>") ∷ f.body;
}

-- ---- statements

abbrev pub value_step : layer.DeclValue-F Tokens Shown Tokens Tokens Tokens Tokens Tokens Tokens Both → Tokens
value_step layer.DeclValue::Nothing = []
value_step (layer.DeclValue::Value a) = Mark (codes "=") ∷ a.tokens
value_step (layer.DeclValue::Yield a) = Mark (codes "=") ∷ Word (codes "yield") ∷ expr_if_there a

abbrev pub decl_step : layer.Decl-F Tokens Shown Tokens Tokens Tokens Tokens Tokens Tokens Both → Tokens
decl_step d = Word d.name ∷ d.value

abbrev pub declares : List ℕ → List Tokens → Tokens
declares word decls = Word word ∷ listed decls

abbrev pub head_step : layer.ForHead-F Tokens Shown Tokens Tokens Tokens Tokens Tokens Tokens Both → Tokens
head_step layer.ForHead::Nothing = []
head_step (layer.ForHead::Let decls) = declares (codes "let") decls
head_step (layer.ForHead::Const decls) = declares (codes "const") decls
head_step (layer.ForHead::Expr a) = a.tokens

abbrev pub catch_name : Option (List ℕ) → Tokens
catch_name None = []
catch_name (Some x) = in_parentheses (name_token x)

abbrev pub catch_step : layer.CatchPart-F Tokens Shown Tokens Tokens Tokens Tokens Tokens Tokens Both → Tokens
catch_step c = Word (codes "catch") ∷ catch_name c.name ++ in_braces (joined c.items)

abbrev pub else_part : Option Tokens → Tokens
else_part None = []
else_part (Some ts) = Word (codes "else") ∷ ts

abbrev pub catch_part : Option Tokens → Tokens
catch_part None = []
catch_part (Some c) = c

abbrev pub finally_part : Option (List Tokens) → Tokens
finally_part None = []
finally_part (Some items) = Word (codes "finally") ∷ in_braces (joined items)

abbrev pub const_word : Bool → List ℕ
const_word true = codes "const"
const_word false = codes "let"

-- what stands in the parentheses of a `for`
abbrev pub for_parts : Tokens → Tokens → Tokens → Tokens
for_parts head test update = head ++ (Mark (codes ";") ∷ test ++ Mark (codes ";") ∷ update)

abbrev pub stmt_step : layer.Stmt-F Tokens Shown Tokens Tokens Tokens Tokens Tokens Tokens Both → Tokens
stmt_step (layer.Block items) = in_braces (joined items)
stmt_step layer.Empty = Mark (codes ";") ∷ []
stmt_step (layer.Stmt::Expr a) = ended (in_parentheses a.tokens)
stmt_step (layer.Stmt::Let decls) = ended (declares (codes "let") decls)
stmt_step (layer.Stmt::Const decls) = ended (declares (codes "const") decls)
stmt_step (layer.Stmt::Function f) = Word (codes "function") ∷ f.declared
stmt_step (layer.Stmt::Yield x a) = ended (target_if_there x ++ Word (codes "yield") ∷ expr_if_there a)
stmt_step (layer.Change x op a) = ended (Word (codes "mutable") ∷ Word x ∷ Mark (change_mark op) ∷ expr_if_there a)
stmt_step (layer.If a first second) = Word (codes "if") ∷ in_parentheses a.tokens ++ (first ++ else_part second)
stmt_step (layer.While a turn) = Word (codes "while") ∷ in_parentheses a.tokens ++ turn
stmt_step (layer.DoWhile turn a) = ended (Word (codes "do") ∷ turn ++ (Word (codes "while") ∷ in_parentheses a.tokens))
stmt_step (layer.For head test update turn) =
    Word (codes "for") ∷ in_parentheses (for_parts head (expr_if_there test) (expr_if_there update)) ++ turn
stmt_step (layer.ForOf constant x a turn) =
    Word (codes "for") ∷ in_parentheses (Word (const_word constant) ∷ Word x ∷ Word (codes "of") ∷ a.tokens) ++ turn
stmt_step layer.Break = ended (Word (codes "break") ∷ [])
stmt_step layer.Continue = ended (Word (codes "continue") ∷ [])
stmt_step (layer.Return a) = ended (Word (codes "return") ∷ expr_if_there a)
stmt_step (layer.Throw a) = ended (Word (codes "throw") ∷ a.tokens)
stmt_step (layer.Try items c f) = Word (codes "try") ∷ in_braces (joined items) ++ (catch_part c ++ finally_part f)

-- ---- the tokens of each kind of tree

abbrev pub shown : Expr → Shown
shown = fold-Expr Tokens Shown Tokens Tokens Tokens Tokens Tokens Tokens Both value_step expr_step body_step head_step prop_step stmt_step catch_step decl_step function_step

abbrev pub expr_tokens : Expr → Tokens
expr_tokens e = (shown e).tokens

abbrev pub prop_tokens : PropNode → Tokens
prop_tokens = fold-PropNode Tokens Shown Tokens Tokens Tokens Tokens Tokens Tokens Both value_step expr_step body_step head_step prop_step stmt_step catch_step decl_step function_step

abbrev pub stmt_tokens : Stmt → Tokens
stmt_tokens = fold-Stmt Tokens Shown Tokens Tokens Tokens Tokens Tokens Tokens Both value_step expr_step body_step head_step prop_step stmt_step catch_step decl_step function_step

abbrev pub value_tokens : DeclValue → Tokens
value_tokens = fold-DeclValue Tokens Shown Tokens Tokens Tokens Tokens Tokens Tokens Both value_step expr_step body_step head_step prop_step stmt_step catch_step decl_step function_step

abbrev pub body_tokens : FnBody → Tokens
body_tokens = fold-FnBody Tokens Shown Tokens Tokens Tokens Tokens Tokens Tokens Both value_step expr_step body_step head_step prop_step stmt_step catch_step decl_step function_step

abbrev pub head_tokens : ForHead → Tokens
head_tokens = fold-ForHead Tokens Shown Tokens Tokens Tokens Tokens Tokens Tokens Both value_step expr_step body_step head_step prop_step stmt_step catch_step decl_step function_step

abbrev pub catch_tokens : CatchPart → Tokens
catch_tokens = fold-CatchPart Tokens Shown Tokens Tokens Tokens Tokens Tokens Tokens Both value_step expr_step body_step head_step prop_step stmt_step catch_step decl_step function_step

abbrev pub decl_tokens : Decl → Tokens
decl_tokens = fold-Decl Tokens Shown Tokens Tokens Tokens Tokens Tokens Tokens Both value_step expr_step body_step head_step prop_step stmt_step catch_step decl_step function_step

abbrev pub function_tokens : Function → Both
function_tokens = fold-Function Tokens Shown Tokens Tokens Tokens Tokens Tokens Tokens Both value_step expr_step body_step head_step prop_step stmt_step catch_step decl_step function_step

-- ---- cells

abbrev pub form_tokens : SpecForm → Tokens
form_tokens form.Plain = []
form_tokens form.Viewof = Word (codes "viewof") ∷ []
form_tokens form.Mutable = Word (codes "mutable") ∷ []

abbrev pub alias_tokens : Option (List ℕ) → Tokens
alias_tokens None = []
alias_tokens (Some x) = Word (codes "as") ∷ Word x ∷ []

abbrev pub spec_tokens : ImportSpec → Tokens
spec_tokens s = form_tokens s.form ++ (Word s.source ∷ alias_tokens s.alias)

abbrev pub specs_tokens : List ImportSpec → Tokens
specs_tokens specs = in_braces (listed (map spec_tokens specs))

abbrev pub with_tokens : Option (List ImportSpec) → Tokens
with_tokens None = []
with_tokens (Some specs) = Word (codes "with") ∷ specs_tokens specs

-- what stands after `import`
abbrev pub import_tokens : ImportTree → Tokens
import_tokens i = specs_tokens i.specs ++ (with_tokens i.with ++ Word (codes "from") ∷ Quoted i.from ∷ [])

-- `=` and the body
abbrev pub defined_tokens : Function → Tokens
defined_tokens f = Mark (codes "=") ∷ body_tokens f.body

abbrev pub cell_tokens : CellTree → Tokens
cell_tokens cell.Empty = []
cell_tokens (cell.Import i) = Word (codes "import") ∷ import_tokens i
cell_tokens (cell.Function f) = Word (codes "function") ∷ (function_tokens f).declared
cell_tokens (cell.Bare f) = body_tokens f.body
cell_tokens (cell.Named x f) = Word x ∷ defined_tokens f
cell_tokens (cell.View x f) = Word (codes "viewof") ∷ Word x ∷ defined_tokens f
cell_tokens (cell.Mutable x f) = Word (codes "mutable") ∷ Word x ∷ defined_tokens f

-- the canonical text, in UTF-8
abbrev pub print : CellTree → List ℕ
print tree = text_of (cell_tokens tree)
