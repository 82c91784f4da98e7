-- The trees of the builtins that are written in the language itself, one for each of their texts (this project; after
-- ECMA-262, "Properties of the Array Prototype Object" and "Array.from").
use Rattle.std.specs.Prelude.{pos, true, false, List, [], ◌∷◌, codes}
use Rattle.ob_base.specs.declared.operators.CompareOp.TheVariants as compare
use Rattle.ob_base.specs.declared.operators.UnaryOp.TheVariants as unary
use Rattle.ob_tree_types.specs.declared.tree.Expr.{Expr}
use Rattle.ob_tree_types.specs.declared.tree.Expr.TheVariants as expr
use Rattle.ob_tree_types.specs.declared.tree.Stmt.{Stmt}
use Rattle.ob_tree_types.specs.declared.tree.Stmt.TheVariants as stmt
use Rattle.ob_tree_types.specs.declared.tree.ForHead.TheVariants as head
use Rattle.ob_tree_types.specs.declared.tree.Function.{Function}
use Rattle.ob_prelude_texts.proofs.CopiedParts.{name, member, element, call, call_with, const_stmt, let_stmt, assign_stmt, count_stmt, empty_stmt, push_stmt, return_stmt, if_stmt, from_zero, for_stmt, two_params, function_tree}

-- ---- map

-- { const n = a.length; const r = []; for (let i = 0; i < n; i++) { r.push(f(a[i], i, a)); } return r; }
abbrev pub map_items : List Stmt
map_items =
    count_stmt (codes "a") ∷ empty_stmt ∷ for_stmt from_zero (push_stmt (call_with (element (codes "a"))) ∷ [])
    ∷ return_stmt (name (codes "r")) ∷ []

abbrev pub map_tree : Function
map_tree = function_tree (two_params (codes "a")) map_items

-- ---- filter

-- { const v = a[i]; if (f(v, i, a)) { r.push(v); } }
abbrev pub filter_turn : List Stmt
filter_turn =
    const_stmt (codes "v") (element (codes "a"))
    ∷ if_stmt (call_with (name (codes "v"))) (push_stmt (name (codes "v")) ∷ []) ∷ []

-- { const n = a.length; const r = []; for (let i = 0; i < n; i++) { .. } return r; }
abbrev pub filter_items : List Stmt
filter_items =
    count_stmt (codes "a") ∷ empty_stmt ∷ for_stmt from_zero filter_turn ∷ return_stmt (name (codes "r")) ∷ []

abbrev pub filter_tree : Function
filter_tree = function_tree (two_params (codes "a")) filter_items

-- ---- forEach

-- { const n = a.length; for (let i = 0; i < n; i++) { f(a[i], i, a); } }
abbrev pub for_each_items : List Stmt
for_each_items =
    count_stmt (codes "a") ∷ for_stmt from_zero (stmt.Expr (call_with (element (codes "a"))) ∷ []) ∷ []

abbrev pub for_each_tree : Function
for_each_tree = function_tree (two_params (codes "a")) for_each_items

-- ---- some and every

-- { const n = a.length; for (let i = 0; i < n; i++) { if (test) { return found; } } return other; }
abbrev pub search_items : Expr → Expr → Expr → List Stmt
search_items test found other =
    count_stmt (codes "a") ∷ for_stmt from_zero (if_stmt test (return_stmt found ∷ []) ∷ []) ∷ return_stmt other ∷ []

-- if (f(a[i], i, a)) { return true; }, and false after the loop
abbrev pub some_tree : Function
some_tree =
    function_tree (two_params (codes "a"))
    (search_items (call_with (element (codes "a"))) (expr.Bool true) (expr.Bool false))

-- if (!f(a[i], i, a)) { return false; }, and true after the loop
abbrev pub every_tree : Function
every_tree =
    function_tree (two_params (codes "a"))
    (search_items (expr.Unary unary.Not (call_with (element (codes "a")))) (expr.Bool false) (expr.Bool true))

-- ---- reduce

-- "bad argument"
abbrev pub message : Expr
message = expr.Text (codes "bad argument")

-- throw new TypeError("bad argument");
abbrev pub refuse_stmt : Stmt
refuse_stmt = stmt.Throw (expr.New (codes "TypeError") (message ∷ []))

-- a.length === 0
abbrev pub is_empty : Expr
is_empty = expr.Compare compare.Same (member (codes "a") (codes "length")) (expr.Int (pos 0))

-- a[0]
abbrev pub first_element : Expr
first_element = expr.Index (name (codes "a")) (expr.Int (pos 0))

-- { if (a.length === 0) { throw new TypeError("bad argument"); } r = a[0]; i = 1; }
abbrev pub start_items : List Stmt
start_items =
    if_stmt is_empty (refuse_stmt ∷ []) ∷ assign_stmt (codes "r") first_element
    ∷ assign_stmt (codes "i") (expr.Int (pos 1)) ∷ []

-- if (!given) { .. }
abbrev pub start_stmt : Stmt
start_stmt = if_stmt (expr.Unary unary.Not (name (codes "given"))) start_items

-- r = f(r, a[i], i, a);
abbrev pub reduce_turn : Stmt
reduce_turn =
    assign_stmt (codes "r")
    (call (name (codes "r") ∷ element (codes "a") ∷ name (codes "i") ∷ name (codes "a") ∷ []))

-- { let r = v; let i = 0; if (!given) { .. } const n = a.length; for (; i < n; i++) { .. } return r; }
abbrev pub reduce_items : List Stmt
reduce_items =
    let_stmt (codes "r") (name (codes "v")) ∷ let_stmt (codes "i") (expr.Int (pos 0)) ∷ start_stmt
    ∷ count_stmt (codes "a") ∷ for_stmt head.Nothing (reduce_turn ∷ []) ∷ return_stmt (name (codes "r")) ∷ []

abbrev pub reduce_tree : Function
reduce_tree = function_tree (codes "a" ∷ codes "f" ∷ codes "v" ∷ codes "given" ∷ []) reduce_items

-- ---- Array.from

-- f === undefined
abbrev pub has_no_function : Expr
has_no_function = expr.Compare compare.Same (name (codes "f")) expr.Undefined

-- f(x[i], i)
abbrev pub mapped_element : Expr
mapped_element = call (element (codes "x") ∷ name (codes "i") ∷ [])

-- f === undefined ? x[i] : f(x[i], i)
abbrev pub taken_element : Expr
taken_element = expr.Cond has_no_function (element (codes "x")) mapped_element

-- { const n = x.length; const r = []; for (let i = 0; i < n; i++) { r.push(..); } return r; }
abbrev pub from_items : List Stmt
from_items =
    count_stmt (codes "x") ∷ empty_stmt ∷ for_stmt from_zero (push_stmt taken_element ∷ [])
    ∷ return_stmt (name (codes "r")) ∷ []

abbrev pub from_tree : Function
from_tree = function_tree (two_params (codes "x")) from_items
