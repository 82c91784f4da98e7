-- How deep a tree is (this project). The nodes are expressions, properties, statements, cells, and the function of a
-- function cell; every other part counts as its own parts do. A leaf has depth 1, any other node one more than its
-- deepest part.
use Rattle.std.specs.Prelude.{ℕ, ◌+◌, max, List, [], ◌∷◌, Option, Some, None}
use Rattle.ob_tree_types.specs.declared.tree.DeclValue.{DeclValue, fold-DeclValue}
use Rattle.ob_tree_types.specs.declared.tree.Expr.{Expr, fold-Expr}
use Rattle.ob_tree_types.specs.declared.tree.FnBody.{FnBody, fold-FnBody}
use Rattle.ob_tree_types.specs.declared.tree.ForHead.{ForHead, fold-ForHead}
use Rattle.ob_tree_types.specs.declared.tree.PropNode.{PropNode, fold-PropNode}
use Rattle.ob_tree_types.specs.declared.tree.Stmt.{Stmt, fold-Stmt}
use Rattle.ob_tree_types.specs.declared.tree.CatchPart.{CatchPart, fold-CatchPart}
use Rattle.ob_tree_types.specs.declared.tree.Decl.{Decl, fold-Decl}
use Rattle.ob_tree_types.specs.declared.tree.Function.{Function, fold-Function}
use Rattle.ob_tree_types.specs.declared.tree.DeclValue.TheOpen as layer
use Rattle.ob_tree_types.specs.declared.cell.CellTree.{CellTree}
use Rattle.ob_tree_types.specs.declared.cell.CellTree.TheVariants as cell

-- the depth of the deepest of some parts
abbrev pub deepest : List ℕ → ℕ
deepest [] = 0
deepest (n ∷ ns) = max n (deepest ns)

-- of a part that may be missing
abbrev pub if_there : Option ℕ → ℕ
if_there None = 0
if_there (Some n) = n

-- of a list of parts that may be missing
abbrev pub items_if_there : Option (List ℕ) → ℕ
items_if_there None = 0
items_if_there (Some ns) = deepest ns

abbrev pub expr_step : layer.Expr-F ℕ ℕ ℕ ℕ ℕ ℕ ℕ ℕ ℕ → ℕ
expr_step layer.Undefined = 1
expr_step layer.Null = 1
expr_step (layer.Bool b) = 1
expr_step (layer.Int n) = 1
expr_step (layer.Text t) = 1
expr_step (layer.Name x) = 1
expr_step (layer.ViewofName x) = 1
expr_step (layer.Array items) = 1 + deepest items
expr_step (layer.Object props) = 1 + deepest props
expr_step (layer.Expr::Function f) = 1 + f
expr_step (layer.Arrow f) = 1 + f
expr_step (layer.Unary op a) = 1 + a
expr_step (layer.Binary op a b) = 1 + max a b
expr_step (layer.Compare op a b) = 1 + max a b
expr_step (layer.Logic op a b) = 1 + max a b
expr_step (layer.Cond a b c) = 1 + max a (max b c)
expr_step (layer.Assign op a b) = 1 + max a b
expr_step (layer.Update op before a) = 1 + a
expr_step (layer.Member a x) = 1 + a
expr_step (layer.Index a b) = 1 + max a b
expr_step (layer.Call a args) = 1 + max a (deepest args)
expr_step (layer.New x args) = 1 + deepest args

abbrev pub prop_step : layer.PropNode-F ℕ ℕ ℕ ℕ ℕ ℕ ℕ ℕ ℕ → ℕ
prop_step (layer.Short x) = 1
prop_step (layer.Fixed k a) = 1 + a
prop_step (layer.Computed k a) = 1 + max k a

abbrev pub stmt_step : layer.Stmt-F ℕ ℕ ℕ ℕ ℕ ℕ ℕ ℕ ℕ → ℕ
stmt_step (layer.Block items) = 1 + deepest items
stmt_step layer.Empty = 1
stmt_step (layer.Stmt::Expr a) = 1 + a
stmt_step (layer.Stmt::Let decls) = 1 + deepest decls
stmt_step (layer.Stmt::Const decls) = 1 + deepest decls
stmt_step (layer.Stmt::Function f) = 1 + f
stmt_step (layer.Stmt::Yield x a) = 1 + if_there a
stmt_step (layer.Change x op a) = 1 + if_there a
stmt_step (layer.If a b c) = 1 + max a (max b (if_there c))
stmt_step (layer.While a b) = 1 + max a b
stmt_step (layer.DoWhile a b) = 1 + max a b
stmt_step (layer.For h a b c) = 1 + max h (max (if_there a) (max (if_there b) c))
stmt_step (layer.ForOf k x a b) = 1 + max a b
stmt_step layer.Break = 1
stmt_step layer.Continue = 1
stmt_step (layer.Return a) = 1 + if_there a
stmt_step (layer.Throw a) = 1 + a
stmt_step (layer.Try items c f) = 1 + max (deepest items) (max (if_there c) (items_if_there f))

abbrev pub value_step : layer.DeclValue-F ℕ ℕ ℕ ℕ ℕ ℕ ℕ ℕ ℕ → ℕ
value_step layer.DeclValue::Nothing = 0
value_step (layer.DeclValue::Value a) = a
value_step (layer.DeclValue::Yield a) = if_there a

abbrev pub body_step : layer.FnBody-F ℕ ℕ ℕ ℕ ℕ ℕ ℕ ℕ ℕ → ℕ
body_step (layer.Items items) = deepest items
body_step (layer.FnBody::Value a) = a

abbrev pub head_step : layer.ForHead-F ℕ ℕ ℕ ℕ ℕ ℕ ℕ ℕ ℕ → ℕ
head_step layer.ForHead::Nothing = 0
head_step (layer.ForHead::Let decls) = deepest decls
head_step (layer.ForHead::Const decls) = deepest decls
head_step (layer.ForHead::Expr a) = a

abbrev pub catch_step : layer.CatchPart-F ℕ ℕ ℕ ℕ ℕ ℕ ℕ ℕ ℕ → ℕ
catch_step c = deepest c.items

abbrev pub decl_step : layer.Decl-F ℕ ℕ ℕ ℕ ℕ ℕ ℕ ℕ ℕ → ℕ
decl_step d = d.value

abbrev pub function_step : layer.Function-F ℕ ℕ ℕ ℕ ℕ ℕ ℕ ℕ ℕ → ℕ
function_step f = f.body

abbrev pub expr_depth : Expr → ℕ
expr_depth = fold-Expr ℕ ℕ ℕ ℕ ℕ ℕ ℕ ℕ ℕ value_step expr_step body_step head_step prop_step stmt_step catch_step decl_step function_step

abbrev pub prop_depth : PropNode → ℕ
prop_depth = fold-PropNode ℕ ℕ ℕ ℕ ℕ ℕ ℕ ℕ ℕ value_step expr_step body_step head_step prop_step stmt_step catch_step decl_step function_step

abbrev pub stmt_depth : Stmt → ℕ
stmt_depth = fold-Stmt ℕ ℕ ℕ ℕ ℕ ℕ ℕ ℕ ℕ value_step expr_step body_step head_step prop_step stmt_step catch_step decl_step function_step

abbrev pub value_depth : DeclValue → ℕ
value_depth = fold-DeclValue ℕ ℕ ℕ ℕ ℕ ℕ ℕ ℕ ℕ value_step expr_step body_step head_step prop_step stmt_step catch_step decl_step function_step

abbrev pub body_depth : FnBody → ℕ
body_depth = fold-FnBody ℕ ℕ ℕ ℕ ℕ ℕ ℕ ℕ ℕ value_step expr_step body_step head_step prop_step stmt_step catch_step decl_step function_step

abbrev pub head_depth : ForHead → ℕ
head_depth = fold-ForHead ℕ ℕ ℕ ℕ ℕ ℕ ℕ ℕ ℕ value_step expr_step body_step head_step prop_step stmt_step catch_step decl_step function_step

abbrev pub catch_depth : CatchPart → ℕ
catch_depth = fold-CatchPart ℕ ℕ ℕ ℕ ℕ ℕ ℕ ℕ ℕ value_step expr_step body_step head_step prop_step stmt_step catch_step decl_step function_step

abbrev pub decl_depth : Decl → ℕ
decl_depth = fold-Decl ℕ ℕ ℕ ℕ ℕ ℕ ℕ ℕ ℕ value_step expr_step body_step head_step prop_step stmt_step catch_step decl_step function_step

abbrev pub function_depth : Function → ℕ
function_depth = fold-Function ℕ ℕ ℕ ℕ ℕ ℕ ℕ ℕ ℕ value_step expr_step body_step head_step prop_step stmt_step catch_step decl_step function_step

-- the function of a function cell is a node below the cell
abbrev pub depth_of : CellTree → ℕ
depth_of cell.Empty = 1
depth_of (cell.Import i) = 1
depth_of (cell.Function f) = 1 + (1 + function_depth f)
depth_of (cell.Bare f) = 1 + function_depth f
depth_of (cell.Named x f) = 1 + function_depth f
depth_of (cell.View x f) = 1 + function_depth f
depth_of (cell.Mutable x f) = 1 + function_depth f
