-- The early errors of a cell, on its tree (ECMA-262, "Static Semantics: Early Errors" of blocks, declarations, functions, loops and
-- assignments, narrowed by this project): a name declared twice in one scope; `const` without a value outside `for .. of`; `yield` in the
-- head of a `for`; `break` or `continue` outside a loop of its function; `yield` outside a generator function or a cell's block; and an
-- assignment, `++`, `--` or `= yield` on a name that is not bound in a scope around it.
use Rattle.std.specs.Prelude.{ℕ, Bool, true, false, not, ◌&&◌, List, [], ◌∷◌, ◌++◌, Option, Some, None, bytes_eq}
use Rattle.std.specs.List.{list_any}
use Rattle.ob_tree_types.specs.declared.cell.CellTree.{CellTree}
use Rattle.ob_tree_types.specs.declared.cell.CellTree.TheVariants as cell
use Rattle.ob_tree_types.specs.declared.tree.DeclValue.{DeclValue, fold-DeclValue}
use Rattle.ob_tree_types.specs.declared.tree.Expr.{Expr, fold-Expr}
use Rattle.ob_tree_types.specs.declared.tree.FnBody.{FnBody, fold-FnBody}
use Rattle.ob_tree_types.specs.declared.tree.ForHead.{ForHead, fold-ForHead}
use Rattle.ob_tree_types.specs.declared.tree.PropNode.{PropNode, fold-PropNode}
use Rattle.ob_tree_types.specs.declared.tree.Stmt.{Stmt, fold-Stmt}
use Rattle.ob_tree_types.specs.declared.tree.CatchPart.{CatchPart, fold-CatchPart}
use Rattle.ob_tree_types.specs.declared.tree.Decl.{Decl, fold-Decl}
use Rattle.ob_tree_types.specs.declared.tree.Function.{Function, fold-Function}
use Rattle.ob_tree_types.specs.declared.tree.DeclValue.TheOpen as layer

abbrev pub Names : Type 0
Names = List (List ℕ)

-- what stands around a part: the names that are bound there, whether a loop of the same function does, and whether that function is a generator
pub record Around : Type 0 where
  pub names : Names
  pub in_loop : Bool
  pub in_generator : Bool

-- whether a part has no early error, by what stands around it
abbrev pub Check : Type 0
Check = Around → Bool

abbrev pub holds_name : List ℕ → Names → Bool
holds_name x names = list_any (bytes_eq x) names

abbrev pub distinct : Names → Bool
distinct [] = true
distinct (x ∷ names) = not (holds_name x names) && distinct names

abbrev pub binding : Names → Around → Around
binding names s = record { names = names ++ s.names; in_loop = s.in_loop; in_generator = s.in_generator }

abbrev pub in_turn : Around → Around
in_turn s = record { names = s.names; in_loop = true; in_generator = s.in_generator }

abbrev pub in_function : Bool → Around → Around
in_function generator s = record { names = s.names; in_loop = false; in_generator = generator }

-- ---- checks

abbrev pub always : Check
always s = true

abbrev pub both : Check → Check → Check
both a b s = a s && b s

abbrev pub every : List Check → Check
every [] s = true
every (c ∷ checks) s = c s && every checks s

abbrev pub if_there : Option Check → Check
if_there None s = true
if_there (Some c) s = c s

-- a scope that binds these names, each once, around a part
abbrev pub scope : Names → Check → Check
scope names part s = distinct names && part (binding names s)

-- the name that is assigned to, if it is a name, is bound
abbrev pub may_assign : Option (List ℕ) → Check
may_assign None s = true
may_assign (Some x) s = holds_name x s.names

-- ---- what the parts of a tree give

-- an expression: the name that it is, if it is one
pub record Value : Type 0 where
  pub name : Option (List ℕ)
  pub check : Check

abbrev pub plain : Check → Value
plain c = record { name = None; check = c }

abbrev pub checks_of : List Value → Check
checks_of [] s = true
checks_of (v ∷ values) s = v.check s && checks_of values s

abbrev pub value_if_there : Option Value → Check
value_if_there None s = true
value_if_there (Some v) s = v.check s

-- a statement, a body or a head: the names that it declares in the scope that it stands in
pub record Part : Type 0 where
  pub declares : Names
  pub check : Check

abbrev pub only : Check → Part
only c = record { declares = []; check = c }

abbrev pub declared_in : List Part → Names
declared_in [] = []
declared_in (p ∷ parts) = p.declares ++ declared_in parts

abbrev pub each : List Part → Check
each [] s = true
each (p ∷ parts) s = p.check s && each parts s

abbrev pub block : List Part → Check
block items = scope (declared_in items) (each items)

abbrev pub part_if_there : Option Part → Check
part_if_there None s = true
part_if_there (Some p) s = p.check s

abbrev pub block_if_there : Option (List Part) → Check
block_if_there None s = true
block_if_there (Some items) s = block items s

-- what a declaration gives its name: whether anything, and whether by `yield`
pub record Given : Type 0 where
  pub there : Bool
  pub yields : Bool
  pub check : Check

pub record Declared : Type 0 where
  pub name : List ℕ
  pub given : Given

abbrev pub names_of : List Declared → Names
names_of [] = []
names_of (d ∷ decls) = d.name ∷ names_of decls

abbrev pub each_given : (Given → Bool) → List Declared → Check
each_given test [] s = true
each_given test (d ∷ decls) s = (test d.given && d.given.check s) && each_given test decls s

abbrev pub anything : Given → Bool
anything g = true

abbrev pub some_value : Given → Bool
some_value g = g.there

abbrev pub no_yield : Given → Bool
no_yield g = not g.yields

abbrev pub some_value_no_yield : Given → Bool
some_value_no_yield g = g.there && not g.yields

abbrev pub declaring : (Given → Bool) → List Declared → Part
declaring test decls = record { declares = names_of decls; check = each_given test decls }

-- a function: its own name, and its check inside the scope of that
pub record Made : Type 0 where
  pub name : Option (List ℕ)
  pub check : Check

abbrev pub name_list : Option (List ℕ) → Names
name_list None = []
name_list (Some x) = x ∷ []

-- the own name of a function expression is bound in a scope around it
abbrev pub as_expression : Made → Check
as_expression f = scope (name_list f.name) f.check

-- ---- layer by layer

abbrev pub value_step : layer.DeclValue-F Given Value Part Part Check Part Check Declared Made → Given
value_step layer.DeclValue::Nothing = record { there = false; yields = false; check = always }
value_step (layer.DeclValue::Value a) = record { there = true; yields = false; check = a.check }
value_step (layer.DeclValue::Yield a) = record { there = true; yields = true; check = λ s. s.in_generator && value_if_there a s }

abbrev pub expr_step : layer.Expr-F Given Value Part Part Check Part Check Declared Made → Value
expr_step layer.Undefined = plain always
expr_step layer.Null = plain always
expr_step (layer.Bool b) = plain always
expr_step (layer.Int n) = plain always
expr_step (layer.Text t) = plain always
expr_step (layer.Name x) = record { name = Some x; check = always }
expr_step (layer.ViewofName x) = plain always
expr_step (layer.Array items) = plain (checks_of items)
expr_step (layer.Object props) = plain (every props)
expr_step (layer.Expr::Function f) = plain (as_expression f)
expr_step (layer.Arrow f) = plain f.check
expr_step (layer.Unary op a) = plain a.check
expr_step (layer.Binary op a b) = plain (both a.check b.check)
expr_step (layer.Compare op a b) = plain (both a.check b.check)
expr_step (layer.Logic op a b) = plain (both a.check b.check)
expr_step (layer.Cond a b c) = plain (both a.check (both b.check c.check))
expr_step (layer.Assign op a b) = plain (both (may_assign a.name) (both a.check b.check))
expr_step (layer.Update op before a) = plain (both (may_assign a.name) a.check)
expr_step (layer.Member a x) = plain a.check
expr_step (layer.Index a b) = plain (both a.check b.check)
expr_step (layer.Call a arguments) = plain (both a.check (checks_of arguments))
expr_step (layer.New x arguments) = plain (checks_of arguments)

abbrev pub body_step : layer.FnBody-F Given Value Part Part Check Part Check Declared Made → Part
body_step (layer.Items items) = record { declares = declared_in items; check = each items }
body_step (layer.FnBody::Value a) = only a.check

-- the head of a `for`
abbrev pub head_step : layer.ForHead-F Given Value Part Part Check Part Check Declared Made → Part
head_step layer.ForHead::Nothing = only always
head_step (layer.ForHead::Let decls) = declaring no_yield decls
head_step (layer.ForHead::Const decls) = declaring some_value_no_yield decls
head_step (layer.ForHead::Expr a) = only a.check

abbrev pub prop_step : layer.PropNode-F Given Value Part Part Check Part Check Declared Made → Check
prop_step (layer.Short x) = always
prop_step (layer.Fixed k a) = a.check
prop_step (layer.Computed k a) = both k.check a.check

abbrev pub stmt_step : layer.Stmt-F Given Value Part Part Check Part Check Declared Made → Part
stmt_step (layer.Block items) = only (block items)
stmt_step layer.Empty = only always
stmt_step (layer.Stmt::Expr a) = only a.check
stmt_step (layer.Stmt::Let decls) = declaring anything decls
stmt_step (layer.Stmt::Const decls) = declaring some_value decls
stmt_step (layer.Stmt::Function f) = record { declares = name_list f.name; check = f.check }
stmt_step (layer.Stmt::Yield x a) = only (both (λ s. s.in_generator) (both (may_assign x) (value_if_there a)))
stmt_step (layer.Change x op a) = only (value_if_there a)
stmt_step (layer.If a first second) = only (both a.check (both first.check (part_if_there second)))
stmt_step (layer.While a turn) = only (both a.check (λ s. turn.check (in_turn s)))
stmt_step (layer.DoWhile turn a) = only (both (λ s. turn.check (in_turn s)) a.check)
stmt_step (layer.For head test update turn) =
    only (scope head.declares (both head.check (both (value_if_there test) (both (value_if_there update) (λ s. turn.check (in_turn s))))))
stmt_step (layer.ForOf constant x a turn) = only (scope (x ∷ []) (both a.check (λ s. turn.check (in_turn s))))
stmt_step layer.Break = only (λ s. s.in_loop)
stmt_step layer.Continue = only (λ s. s.in_loop)
stmt_step (layer.Return a) = only (value_if_there a)
stmt_step (layer.Throw a) = only a.check
stmt_step (layer.Try items c f) = only (both (block items) (both (if_there c) (block_if_there f)))

-- the name of a `catch` and the top items of its block are one scope
abbrev pub catch_step : layer.CatchPart-F Given Value Part Part Check Part Check Declared Made → Check
catch_step c = scope (name_list c.name ++ declared_in c.items) (each c.items)

abbrev pub decl_step : layer.Decl-F Given Value Part Part Check Part Check Declared Made → Declared
decl_step d = record { name = d.name; given = d.value }

-- the parameters and the top items of a function's block are one scope
abbrev pub function_step : layer.Function-F Given Value Part Part Check Part Check Declared Made → Made
function_step f = record { name = f.name; check = λ s. scope (f.params ++ f.body.declares) f.body.check (in_function f.generator s) }

abbrev pub given_of : DeclValue → Given
given_of = fold-DeclValue Given Value Part Part Check Part Check Declared Made value_step expr_step body_step head_step prop_step stmt_step catch_step decl_step function_step

abbrev pub value_of : Expr → Value
value_of = fold-Expr Given Value Part Part Check Part Check Declared Made value_step expr_step body_step head_step prop_step stmt_step catch_step decl_step function_step

abbrev pub body_of : FnBody → Part
body_of = fold-FnBody Given Value Part Part Check Part Check Declared Made value_step expr_step body_step head_step prop_step stmt_step catch_step decl_step function_step

abbrev pub head_of : ForHead → Part
head_of = fold-ForHead Given Value Part Part Check Part Check Declared Made value_step expr_step body_step head_step prop_step stmt_step catch_step decl_step function_step

abbrev pub prop_check : PropNode → Check
prop_check = fold-PropNode Given Value Part Part Check Part Check Declared Made value_step expr_step body_step head_step prop_step stmt_step catch_step decl_step function_step

abbrev pub part_of : Stmt → Part
part_of = fold-Stmt Given Value Part Part Check Part Check Declared Made value_step expr_step body_step head_step prop_step stmt_step catch_step decl_step function_step

abbrev pub catch_check : CatchPart → Check
catch_check = fold-CatchPart Given Value Part Part Check Part Check Declared Made value_step expr_step body_step head_step prop_step stmt_step catch_step decl_step function_step

abbrev pub declared_of : Decl → Declared
declared_of = fold-Decl Given Value Part Part Check Part Check Declared Made value_step expr_step body_step head_step prop_step stmt_step catch_step decl_step function_step

abbrev pub made : Function → Made
made = fold-Function Given Value Part Part Check Part Check Declared Made value_step expr_step body_step head_step prop_step stmt_step catch_step decl_step function_step

abbrev pub nothing_around : Around
nothing_around = record { names = []; in_loop = false; in_generator = false }

-- a function cell is the function expression of its name; the name of another cell is not bound in it
unfoldable pub is_free_of_errors : CellTree → Bool
is_free_of_errors cell.Empty = true
is_free_of_errors (cell.Import i) = true
is_free_of_errors (cell.Function f) = as_expression (made f) nothing_around
is_free_of_errors (cell.Bare f) = (made f).check nothing_around
is_free_of_errors (cell.Named x f) = (made f).check nothing_around
is_free_of_errors (cell.View x f) = (made f).check nothing_around
is_free_of_errors (cell.Mutable x f) = (made f).check nothing_around
