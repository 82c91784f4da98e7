-- What recurs in the trees of the builtins that are written in the language itself (their texts are this project's).
-- In each of them `f` is the function that is called, `n` the count of elements, `i` the index and `r` the result.
use Rattle.std.specs.Prelude.{ℕ, pos, false, List, [], ◌∷◌, codes, Some, None}
use Rattle.ob_base.specs.declared.operators.CompareOp.TheVariants as compare
use Rattle.ob_base.specs.declared.operators.AssignOp.TheVariants as assign
use Rattle.ob_base.specs.declared.operators.UpdateOp.TheVariants as update
use Rattle.ob_tree_types.specs.declared.tree.Expr.{Expr}
use Rattle.ob_tree_types.specs.declared.tree.Expr.TheVariants as expr
use Rattle.ob_tree_types.specs.declared.tree.Stmt.{Stmt}
use Rattle.ob_tree_types.specs.declared.tree.Stmt.TheVariants as stmt
use Rattle.ob_tree_types.specs.declared.tree.ForHead.{ForHead}
use Rattle.ob_tree_types.specs.declared.tree.ForHead.TheVariants as head
use Rattle.ob_tree_types.specs.declared.tree.Decl.{Decl}
use Rattle.ob_tree_types.specs.declared.tree.DeclValue.TheVariants as value
use Rattle.ob_tree_types.specs.declared.tree.FnBody.TheVariants as body
use Rattle.ob_tree_types.specs.declared.tree.Function.{Function}

-- ---- expressions

-- x
abbrev pub name : List ℕ → Expr
name x = expr.Name x

-- x.word
unfoldable pub member : List ℕ → List ℕ → Expr
member x word = expr.Member (name x) word

-- x[i]
unfoldable pub element : List ℕ → Expr
element x = expr.Index (name x) (name (codes "i"))

-- f(args)
unfoldable pub call : List Expr → Expr
call args = expr.Call (name (codes "f")) args

-- f(first, i, a)
unfoldable pub call_with : Expr → Expr
call_with first = call (first ∷ name (codes "i") ∷ name (codes "a") ∷ [])

-- ---- statements

-- x = value, as the only one of a declaration
unfoldable pub declared : List ℕ → Expr → List Decl
declared x e = record { name = x; value = value.Value e } ∷ []

-- const x = value;
unfoldable pub const_stmt : List ℕ → Expr → Stmt
const_stmt x e = stmt.Const (declared x e)

-- let x = value;
unfoldable pub let_stmt : List ℕ → Expr → Stmt
let_stmt x e = stmt.Let (declared x e)

-- x = value;
unfoldable pub assign_stmt : List ℕ → Expr → Stmt
assign_stmt x e = stmt.Expr (expr.Assign assign.Set (name x) e)

-- const n = x.length;
unfoldable pub count_stmt : List ℕ → Stmt
count_stmt x = const_stmt (codes "n") (member x (codes "length"))

-- const r = [];
unfoldable pub empty_stmt : Stmt
empty_stmt = const_stmt (codes "r") (expr.Array [])

-- r.push(value);
unfoldable pub push_stmt : Expr → Stmt
push_stmt e = stmt.Expr (expr.Call (member (codes "r") (codes "push")) (e ∷ []))

-- return value;
abbrev pub return_stmt : Expr → Stmt
return_stmt e = stmt.Return (Some e)

-- if (test) { items }
unfoldable pub if_stmt : Expr → List Stmt → Stmt
if_stmt test items = stmt.If test (stmt.Block items) None

-- let i = 0, in the head of a loop
unfoldable pub from_zero : ForHead
from_zero = head.Let (declared (codes "i") (expr.Int (pos 0)))

-- i < n
unfoldable pub below_count : Expr
below_count = expr.Compare compare.Less (name (codes "i")) (name (codes "n"))

-- for (head; i < n; i++) { items }
unfoldable pub for_stmt : ForHead → List Stmt → Stmt
for_stmt first items =
    stmt.For first (Some below_count) (Some (expr.Update update.Up false (name (codes "i")))) (stmt.Block items)

-- ---- functions

-- the parameters (x, f)
abbrev pub two_params : List ℕ → List (List ℕ)
two_params x = x ∷ codes "f" ∷ []

-- function (params) { items }
unfoldable pub function_tree : List (List ℕ) → List Stmt → Function
function_tree params items = record { name = None; params = params; generator = false; body = body.Items items }
