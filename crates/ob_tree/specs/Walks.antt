-- The scopes of each part of a tree (ECMA-262, "Declarations and the Variable Statement", "Block", "The for, for-of Statements", "The try
-- Statement", "Function Definitions", in the subset of this language).
--
-- These have a scope: a function, for its parameters with the declarations of its block; a block, for its declarations; a `catch` part, for its
-- name with the declarations of its block; a `for`, for the names of its head; a `for` over elements, one for what is gone through, in which the
-- name never gets a value and is no constant (ECMA-262, "ForIn/OfHeadEvaluation"), and one for each turn; and a function expression with a name, for that name around the function. A
-- declaration counts in its whole scope, before its place too.
use Rattle.std.specs.Prelude.{ℕ, Bool, true, false, List, [], ◌∷◌, ◌++◌, map, Option, Some, None}
use Rattle.ob_tree_types.specs.declared.cell.CellTree.{CellTree}
use Rattle.ob_tree_types.specs.declared.cell.CellTree.TheVariants as cell
use Rattle.ob_tree_types.specs.declared.cell.SpecForm.TheVariants as forms
use Rattle.ob_tree_types.specs.declared.tree.DeclValue.{DeclValue, fold-DeclValue}
use Rattle.ob_tree_types.specs.declared.tree.Expr.{Expr, fold-Expr}
use Rattle.ob_tree_types.specs.declared.tree.FnBody.{FnBody, fold-FnBody}
use Rattle.ob_tree_types.specs.declared.tree.ForHead.{ForHead, fold-ForHead}
use Rattle.ob_tree_types.specs.declared.tree.PropNode.{PropNode, fold-PropNode}
use Rattle.ob_tree_types.specs.declared.tree.Stmt.{Stmt, fold-Stmt}
use Rattle.ob_tree_types.specs.declared.tree.CatchPart.{CatchPart, fold-CatchPart}
use Rattle.ob_tree_types.specs.declared.tree.Decl.{Decl, fold-Decl}
use Rattle.ob_tree_types.specs.declared.tree.Function.{Function, fold-Function}
use Rattle.ob_tree_types.specs.declared.tree.DeclValue.TheOpen as layer
use Rattle.ob_tree.specs.Scopes.{Bound, Walk, nothing, named, outside, after, inside, in_function}

-- the bindings of `const` and the own names of function expressions are constant; all others are variable
abbrev pub variable : Bool
variable = false

abbrev pub constant : Bool
constant = true

abbrev pub binding : Bool → List ℕ → Bound
binding kind x = record { name = x; constant = kind }

-- a statement: the names that it declares in the block that it stands in, and its scopes and names
pub record Item : Type 0 where
  pub declares : List Bound
  pub walk : Walk

-- a declaration: its name, and its value
pub record Declared : Type 0 where
  pub name : List ℕ
  pub walk : Walk

-- a function: its own name, and what it is inside of that
pub record Made : Type 0 where
  pub name : Option (List ℕ)
  pub walk : Walk

-- ---- lists of parts, and parts that may be missing

abbrev pub all : List Walk → Walk
all [] = nothing
all (w ∷ walks) = after w (all walks)

abbrev pub if_there : Option Walk → Walk
if_there None = nothing
if_there (Some w) = w

abbrev pub declares_of : List Item → List Bound
declares_of [] = []
declares_of (i ∷ items) = i.declares ++ declares_of items

abbrev pub walks_of : List Item → Walk
walks_of [] = nothing
walks_of (i ∷ items) = after i.walk (walks_of items)

abbrev pub names_of : Bool → List Declared → List Bound
names_of kind [] = []
names_of kind (d ∷ decls) = binding kind d.name ∷ names_of kind decls

abbrev pub values_of : List Declared → Walk
values_of [] = nothing
values_of (d ∷ decls) = after d.walk (values_of decls)

-- ---- scopes

abbrev pub only : Walk → Item
only w = record { declares = []; walk = w }

abbrev pub declaring : Bool → List Declared → Item
declaring kind decls = record { declares = names_of kind decls; walk = values_of decls }

abbrev pub block : List Item → Walk
block items = inside (declares_of items) (walks_of items)

-- of a name that may be missing
abbrev pub bound_if_there : Bool → Option (List ℕ) → List Bound
bound_if_there kind None = []
bound_if_there kind (Some x) = binding kind x ∷ []

-- the own name of a function expression is constant, and in scope in that function alone
abbrev pub as_expression : Made → Walk
as_expression f = inside (bound_if_there constant f.name) f.walk

-- the name to which a `yield` gives what was sent
abbrev pub target_if_there : Option (List ℕ) → Walk
target_if_there None = nothing
target_if_there (Some x) = named x

abbrev pub item_if_there : Option Item → Walk
item_if_there None = nothing
item_if_there (Some i) = i.walk

abbrev pub block_if_there : Option (List Item) → Walk
block_if_there None = nothing
block_if_there (Some items) = block items

-- ---- layer by layer: a declaration's value, an expression, a body, a head, a property, a statement, a `catch` part, a declaration and a
-- function give a walk, a walk, an item, an item, a walk, an item, a walk, a declared name and what a function is

abbrev pub value_step : layer.DeclValue-F Walk Walk Item Item Walk Item Walk Declared Made → Walk
value_step layer.DeclValue::Nothing = nothing
value_step (layer.DeclValue::Value a) = a
value_step (layer.DeclValue::Yield a) = if_there a

abbrev pub expr_step : layer.Expr-F Walk Walk Item Item Walk Item Walk Declared Made → Walk
expr_step layer.Undefined = nothing
expr_step layer.Null = nothing
expr_step (layer.Bool b) = nothing
expr_step (layer.Int n) = nothing
expr_step (layer.Text t) = nothing
expr_step (layer.Name x) = named x
expr_step (layer.ViewofName x) = outside forms.Viewof x
expr_step (layer.Array items) = all items
expr_step (layer.Object props) = all props
expr_step (layer.Expr::Function f) = as_expression f
expr_step (layer.Arrow f) = f.walk
expr_step (layer.Unary op a) = a
expr_step (layer.Binary op a b) = after a b
expr_step (layer.Compare op a b) = after a b
expr_step (layer.Logic op a b) = after a b
expr_step (layer.Cond a b c) = after a (after b c)
expr_step (layer.Assign op a b) = after a b
expr_step (layer.Update op before a) = a
expr_step (layer.Member a x) = a
expr_step (layer.Index a b) = after a b
expr_step (layer.Call a arguments) = after a (all arguments)
expr_step (layer.New x arguments) = after (named x) (all arguments)

abbrev pub body_step : layer.FnBody-F Walk Walk Item Item Walk Item Walk Declared Made → Item
body_step (layer.Items items) = record { declares = declares_of items; walk = walks_of items }
body_step (layer.FnBody::Value a) = only a

abbrev pub head_step : layer.ForHead-F Walk Walk Item Item Walk Item Walk Declared Made → Item
head_step layer.ForHead::Nothing = only nothing
head_step (layer.ForHead::Let decls) = declaring variable decls
head_step (layer.ForHead::Const decls) = declaring constant decls
head_step (layer.ForHead::Expr a) = only a

abbrev pub prop_step : layer.PropNode-F Walk Walk Item Item Walk Item Walk Declared Made → Walk
prop_step (layer.Short x) = named x
prop_step (layer.Fixed k a) = a
prop_step (layer.Computed k a) = after k a

abbrev pub stmt_step : layer.Stmt-F Walk Walk Item Item Walk Item Walk Declared Made → Item
stmt_step (layer.Block items) = only (block items)
stmt_step layer.Empty = only nothing
stmt_step (layer.Stmt::Expr a) = only a
stmt_step (layer.Stmt::Let decls) = declaring variable decls
stmt_step (layer.Stmt::Const decls) = declaring constant decls
stmt_step (layer.Stmt::Function f) = record { declares = bound_if_there variable f.name; walk = f.walk }
stmt_step (layer.Stmt::Yield x a) = only (after (target_if_there x) (if_there a))
stmt_step (layer.Change x op a) = only (after (outside forms.Mutable x) (if_there a))
stmt_step (layer.If a first second) = only (after a (after first.walk (item_if_there second)))
stmt_step (layer.While a turn) = only (after a turn.walk)
stmt_step (layer.DoWhile turn a) = only (after turn.walk a)
stmt_step (layer.For head test update turn) =
    only (inside head.declares (after head.walk (after (if_there test) (after (if_there update) turn.walk))))
stmt_step (layer.ForOf k x a turn) = only (after (inside (binding variable x ∷ []) a) (inside (binding k x ∷ []) turn.walk))
stmt_step layer.Break = only nothing
stmt_step layer.Continue = only nothing
stmt_step (layer.Return a) = only (if_there a)
stmt_step (layer.Throw a) = only a
stmt_step (layer.Try items c f) = only (after (block items) (after (if_there c) (block_if_there f)))

abbrev pub catch_step : layer.CatchPart-F Walk Walk Item Item Walk Item Walk Declared Made → Walk
catch_step c = inside (bound_if_there variable c.name ++ declares_of c.items) (walks_of c.items)

abbrev pub decl_step : layer.Decl-F Walk Walk Item Item Walk Item Walk Declared Made → Declared
decl_step d = record { name = d.name; walk = d.value }

abbrev pub function_step : layer.Function-F Walk Walk Item Item Walk Item Walk Declared Made → Made
function_step f = record { name = f.name; walk = in_function (inside (map (binding variable) f.params ++ f.body.declares) f.body.walk) }

-- ---- trees

abbrev pub value_walk : DeclValue → Walk
value_walk = fold-DeclValue Walk Walk Item Item Walk Item Walk Declared Made value_step expr_step body_step head_step prop_step stmt_step catch_step decl_step function_step

abbrev pub expr_walk : Expr → Walk
expr_walk = fold-Expr Walk Walk Item Item Walk Item Walk Declared Made value_step expr_step body_step head_step prop_step stmt_step catch_step decl_step function_step

abbrev pub body_item : FnBody → Item
body_item = fold-FnBody Walk Walk Item Item Walk Item Walk Declared Made value_step expr_step body_step head_step prop_step stmt_step catch_step decl_step function_step

abbrev pub head_item : ForHead → Item
head_item = fold-ForHead Walk Walk Item Item Walk Item Walk Declared Made value_step expr_step body_step head_step prop_step stmt_step catch_step decl_step function_step

abbrev pub prop_walk : PropNode → Walk
prop_walk = fold-PropNode Walk Walk Item Item Walk Item Walk Declared Made value_step expr_step body_step head_step prop_step stmt_step catch_step decl_step function_step

abbrev pub stmt_item : Stmt → Item
stmt_item = fold-Stmt Walk Walk Item Item Walk Item Walk Declared Made value_step expr_step body_step head_step prop_step stmt_step catch_step decl_step function_step

abbrev pub catch_walk : CatchPart → Walk
catch_walk = fold-CatchPart Walk Walk Item Item Walk Item Walk Declared Made value_step expr_step body_step head_step prop_step stmt_step catch_step decl_step function_step

abbrev pub decl_declared : Decl → Declared
decl_declared = fold-Decl Walk Walk Item Item Walk Item Walk Declared Made value_step expr_step body_step head_step prop_step stmt_step catch_step decl_step function_step

abbrev pub made : Function → Made
made = fold-Function Walk Walk Item Item Walk Item Walk Declared Made value_step expr_step body_step head_step prop_step stmt_step catch_step decl_step function_step

-- a function by itself is a function expression
abbrev pub function_walk : Function → Walk
function_walk f = as_expression (made f)

-- a cell is its function; a function cell is the function expression of its name, and the name of another cell binds nothing in it
abbrev pub cell_walk : CellTree → Walk
cell_walk cell.Empty = nothing
cell_walk (cell.Import i) = nothing
cell_walk (cell.Function f) = function_walk f
cell_walk (cell.Bare f) = function_walk f
cell_walk (cell.Named x f) = function_walk f
cell_walk (cell.View x f) = function_walk f
cell_walk (cell.Mutable x f) = function_walk f
