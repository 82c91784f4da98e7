-- What isn't built yet of the language of cells.
use Rattle.std.specs.Prelude.{Bool, true, false, not, ◌||◌, ◌&&◌, List, [], ◌∷◌, Option, Some, None, map, codes, bytes_eq}
use Rattle.std.specs.List.{list_any}
use Rattle.ob_tree_types.specs.declared.tree.DeclValue.{DeclValue, fold-DeclValue}
use Rattle.ob_tree_types.specs.declared.tree.Expr.{Expr, fold-Expr}
use Rattle.ob_tree_types.specs.declared.tree.FnBody.{FnBody, fold-FnBody}
use Rattle.ob_tree_types.specs.declared.tree.ForHead.{ForHead, fold-ForHead}
use Rattle.ob_tree_types.specs.declared.tree.PropNode.{PropNode, fold-PropNode}
use Rattle.ob_tree_types.specs.declared.tree.Stmt.{Stmt, fold-Stmt}
use Rattle.ob_tree_types.specs.declared.tree.CatchPart.{CatchPart, fold-CatchPart}
use Rattle.ob_tree_types.specs.declared.tree.Decl.{Decl, fold-Decl}
use Rattle.ob_tree_types.specs.declared.tree.Function.{Function, fold-Function}
use Rattle.ob_tree_types.specs.declared.tree.DeclValue.TheOpen as layer
use Rattle.ob_tree_types.specs.declared.cell.CellTree.{CellTree}
use Rattle.ob_tree_types.specs.declared.cell.CellTree.TheVariants as cell
use Rattle.ob_tree.specs.Names.{free_names}
use Rattle.ob_names.specs.Forms.{name_ref}
use Rattle.ob_names.specs.Sets.{same_name_form}
use Rattle.ob_names.specs.declared.form.NameForm.TheVariants as form
use Rattle.ob_names.specs.declared.form.NameRef.{NameRef}

-- ---- whether a function of a tree is a generator

-- one of some parts has a generator
abbrev pub any_of : List Bool → Bool
any_of [] = false
any_of (b ∷ bs) = b || any_of bs

-- of a part that may be missing
abbrev pub if_there : Option Bool → Bool
if_there None = false
if_there (Some n) = n

-- of a list of parts that may be missing
abbrev pub items_if_there : Option (List Bool) → Bool
items_if_there None = false
items_if_there (Some ns) = any_of ns

abbrev pub expr_step : layer.Expr-F Bool Bool Bool Bool Bool Bool Bool Bool Bool → Bool
expr_step layer.Undefined = false
expr_step layer.Null = false
expr_step (layer.Bool b) = false
expr_step (layer.Int n) = false
expr_step (layer.Text t) = false
expr_step (layer.Name x) = false
expr_step (layer.ViewofName x) = false
expr_step (layer.Array items) = any_of items
expr_step (layer.Object props) = any_of props
expr_step (layer.Expr::Function f) = f
expr_step (layer.Arrow f) = f
expr_step (layer.Unary op a) = a
expr_step (layer.Binary op a b) = a || b
expr_step (layer.Compare op a b) = a || b
expr_step (layer.Logic op a b) = a || b
expr_step (layer.Cond a b c) = a || (b || c)
expr_step (layer.Assign op a b) = a || b
expr_step (layer.Update op before a) = a
expr_step (layer.Member a x) = a
expr_step (layer.Index a b) = a || b
expr_step (layer.Call a args) = a || any_of args
expr_step (layer.New x args) = any_of args

abbrev pub prop_step : layer.PropNode-F Bool Bool Bool Bool Bool Bool Bool Bool Bool → Bool
prop_step (layer.Short x) = false
prop_step (layer.Fixed k a) = a
prop_step (layer.Computed k a) = k || a

abbrev pub stmt_step : layer.Stmt-F Bool Bool Bool Bool Bool Bool Bool Bool Bool → Bool
stmt_step (layer.Block items) = any_of items
stmt_step layer.Empty = false
stmt_step (layer.Stmt::Expr a) = a
stmt_step (layer.Stmt::Let decls) = any_of decls
stmt_step (layer.Stmt::Const decls) = any_of decls
stmt_step (layer.Stmt::Function f) = f
stmt_step (layer.Stmt::Yield x a) = if_there a
stmt_step (layer.Change x op a) = if_there a
stmt_step (layer.If a b c) = a || (b || if_there c)
stmt_step (layer.While a b) = a || b
stmt_step (layer.DoWhile a b) = a || b
stmt_step (layer.For h a b c) = h || (if_there a || (if_there b || c))
stmt_step (layer.ForOf k x a b) = a || b
stmt_step layer.Break = false
stmt_step layer.Continue = false
stmt_step (layer.Return a) = if_there a
stmt_step (layer.Throw a) = a
stmt_step (layer.Try items c f) = any_of items || (if_there c || items_if_there f)

abbrev pub value_step : layer.DeclValue-F Bool Bool Bool Bool Bool Bool Bool Bool Bool → Bool
value_step layer.DeclValue::Nothing = false
value_step (layer.DeclValue::Value a) = a
value_step (layer.DeclValue::Yield a) = if_there a

abbrev pub body_step : layer.FnBody-F Bool Bool Bool Bool Bool Bool Bool Bool Bool → Bool
body_step (layer.Items items) = any_of items
body_step (layer.FnBody::Value a) = a

abbrev pub head_step : layer.ForHead-F Bool Bool Bool Bool Bool Bool Bool Bool Bool → Bool
head_step layer.ForHead::Nothing = false
head_step (layer.ForHead::Let decls) = any_of decls
head_step (layer.ForHead::Const decls) = any_of decls
head_step (layer.ForHead::Expr a) = a

abbrev pub catch_step : layer.CatchPart-F Bool Bool Bool Bool Bool Bool Bool Bool Bool → Bool
catch_step c = any_of c.items

abbrev pub decl_step : layer.Decl-F Bool Bool Bool Bool Bool Bool Bool Bool Bool → Bool
decl_step d = d.value

abbrev pub function_step : layer.Function-F Bool Bool Bool Bool Bool Bool Bool Bool Bool → Bool
function_step f = f.generator || f.body

abbrev pub expr_has : Expr → Bool
expr_has = fold-Expr Bool Bool Bool Bool Bool Bool Bool Bool Bool value_step expr_step body_step head_step prop_step stmt_step catch_step decl_step function_step

abbrev pub prop_has : PropNode → Bool
prop_has = fold-PropNode Bool Bool Bool Bool Bool Bool Bool Bool Bool value_step expr_step body_step head_step prop_step stmt_step catch_step decl_step function_step

abbrev pub stmt_has : Stmt → Bool
stmt_has = fold-Stmt Bool Bool Bool Bool Bool Bool Bool Bool Bool value_step expr_step body_step head_step prop_step stmt_step catch_step decl_step function_step

abbrev pub value_has : DeclValue → Bool
value_has = fold-DeclValue Bool Bool Bool Bool Bool Bool Bool Bool Bool value_step expr_step body_step head_step prop_step stmt_step catch_step decl_step function_step

abbrev pub body_has : FnBody → Bool
body_has = fold-FnBody Bool Bool Bool Bool Bool Bool Bool Bool Bool value_step expr_step body_step head_step prop_step stmt_step catch_step decl_step function_step

abbrev pub head_has : ForHead → Bool
head_has = fold-ForHead Bool Bool Bool Bool Bool Bool Bool Bool Bool value_step expr_step body_step head_step prop_step stmt_step catch_step decl_step function_step

abbrev pub catch_has : CatchPart → Bool
catch_has = fold-CatchPart Bool Bool Bool Bool Bool Bool Bool Bool Bool value_step expr_step body_step head_step prop_step stmt_step catch_step decl_step function_step

abbrev pub decl_has : Decl → Bool
decl_has = fold-Decl Bool Bool Bool Bool Bool Bool Bool Bool Bool value_step expr_step body_step head_step prop_step stmt_step catch_step decl_step function_step

abbrev pub function_has : Function → Bool
function_has = fold-Function Bool Bool Bool Bool Bool Bool Bool Bool Bool value_step expr_step body_step head_step prop_step stmt_step catch_step decl_step function_step

-- a cell holds a generator function, or its body is a generator body
abbrev pub has_generator : CellTree → Bool
has_generator cell.Empty = false
has_generator (cell.Import i) = false
has_generator (cell.Function f) = function_has f
has_generator (cell.Bare f) = function_has f
has_generator (cell.Named x f) = function_has f
has_generator (cell.View x f) = function_has f
has_generator (cell.Mutable x f) = function_has f

-- ---- names

-- the name of the builtin `invalidation`, or one of another form than plain
abbrev pub is_unbuilt_name : NameRef → Bool
is_unbuilt_name x = not (same_name_form x.form form.Plain) || bytes_eq x.name (codes "invalidation")

abbrev pub names_are_built : CellTree → Bool
names_are_built tree = not (list_any is_unbuilt_name (map name_ref (free_names tree)))

-- ---- cells

-- no import, view or mutable cell, no generator, and no such name
unfoldable pub is_built : CellTree → Bool
is_built (cell.Import i) = false
is_built (cell.View x f) = false
is_built (cell.Mutable x f) = false
is_built cell.Empty = not (has_generator cell.Empty) && names_are_built cell.Empty
is_built (cell.Bare f) = not (has_generator (cell.Bare f)) && names_are_built (cell.Bare f)
is_built (cell.Named x f) = not (has_generator (cell.Named x f)) && names_are_built (cell.Named x f)
is_built (cell.Function f) = not (has_generator (cell.Function f)) && names_are_built (cell.Function f)
