-- The depth of a tree, variant by variant.
use Rattle.std.proofs.Common.{◌≡◌, ℕ, ◌+◌, max, Bool, List, Option, Some, None, map, rules}
use Rattle.ob_base.specs.declared.operators.BinaryOp.{BinaryOp}
use Rattle.ob_base.specs.declared.operators.CompareOp.{CompareOp}
use Rattle.ob_base.specs.declared.operators.UnaryOp.{UnaryOp}
use Rattle.ob_base.specs.declared.operators.AssignOp.{AssignOp}
use Rattle.ob_base.specs.declared.operators.ChangeOp.{ChangeOp}
use Rattle.ob_base.specs.declared.operators.LogicOp.{LogicOp}
use Rattle.ob_base.specs.declared.operators.UpdateOp.{UpdateOp}
use Rattle.ob_tree_types.specs.declared.tree.Expr.{Expr, the_lemmas}
use Rattle.ob_tree_types.specs.declared.tree.Expr.TheVariants as node
use Rattle.ob_tree_types.specs.declared.tree.PropNode.{PropNode}
use Rattle.ob_tree_types.specs.declared.tree.PropNode.TheVariants as prop
use Rattle.ob_tree_types.specs.declared.tree.Function.{Function}
use Rattle.ob_tree_types.specs.declared.tree.FnBody.{FnBody}
use Rattle.ob_tree_types.specs.declared.tree.FnBody.TheVariants as body
use Rattle.ob_tree_types.specs.declared.tree.Decl.{Decl}
use Rattle.ob_tree_types.specs.declared.tree.DeclValue.{DeclValue}
use Rattle.ob_tree_types.specs.declared.tree.DeclValue.TheVariants as value
use Rattle.ob_tree_types.specs.declared.tree.Stmt.{Stmt}
use Rattle.ob_tree_types.specs.declared.tree.Stmt.TheVariants as stmt
use Rattle.ob_tree_types.specs.declared.tree.ForHead.{ForHead}
use Rattle.ob_tree_types.specs.declared.tree.ForHead.TheVariants as head
use Rattle.ob_tree_types.specs.declared.tree.CatchPart.{CatchPart}
use Rattle.ob_tree.specs.Depth.{deepest, expr_depth, prop_depth, stmt_depth, value_depth, body_depth, head_depth, catch_depth, decl_depth, function_depth}
use Rattle.ob_grammar.specs.declared.form.Infix.{Infix}
use Rattle.ob_grammar.specs.declared.form.Infix.TheVariants.{Computes, Compares, Chooses}
use Rattle.ob_grammar.specs.Marks.{joined}

pub array_depth : (items : List Expr) → expr_depth (node.Array items) ≡ 1 + deepest (map expr_depth items)
array_depth items = search (rules, the_lemmas)

pub object_depth : (props : List PropNode) → expr_depth (node.Object props) ≡ 1 + deepest (map prop_depth props)
object_depth props = search (rules, the_lemmas)

pub made_depth : (x : List ℕ) (args : List Expr) → expr_depth (node.New x args) ≡ 1 + deepest (map expr_depth args)
made_depth x args = search (rules, the_lemmas)

pub function_expression_depth : (f : Function) → expr_depth (node.Function f) ≡ 1 + function_depth f
function_expression_depth f = search (rules, the_lemmas)

pub arrow_depth : (f : Function) → expr_depth (node.Arrow f) ≡ 1 + function_depth f
arrow_depth f = search (rules, the_lemmas)

pub unary_depth : (op : UnaryOp) (a : Expr) → expr_depth (node.Unary op a) ≡ 1 + expr_depth a
unary_depth op a = search (rules, the_lemmas)

pub binary_depth : (op : BinaryOp) (a b : Expr) → expr_depth (node.Binary op a b) ≡ 1 + max (expr_depth a) (expr_depth b)
binary_depth op a b = search (rules, the_lemmas)

compare_depth : (op : CompareOp) (a b : Expr) → expr_depth (node.Compare op a b) ≡ 1 + max (expr_depth a) (expr_depth b)
compare_depth op a b = search (rules, the_lemmas)

logic_depth : (op : LogicOp) (a b : Expr) → expr_depth (node.Logic op a b) ≡ 1 + max (expr_depth a) (expr_depth b)
logic_depth op a b = search (rules, the_lemmas)

pub joined_depth : (op : Infix) (a b : Expr) → expr_depth (joined op a b) ≡ 1 + max (expr_depth a) (expr_depth b)
joined_depth (Computes op) a b = binary_depth op a b
joined_depth (Compares op) a b = compare_depth op a b
joined_depth (Chooses op) a b = logic_depth op a b

pub cond_depth : (a b c : Expr) → expr_depth (node.Cond a b c) ≡ 1 + max (expr_depth a) (max (expr_depth b) (expr_depth c))
cond_depth a b c = search (rules, the_lemmas)

pub assign_depth : (op : AssignOp) (a b : Expr) → expr_depth (node.Assign op a b) ≡ 1 + max (expr_depth a) (expr_depth b)
assign_depth op a b = search (rules, the_lemmas)

pub update_depth : (op : UpdateOp) (before : Bool) (a : Expr) → expr_depth (node.Update op before a) ≡ 1 + expr_depth a
update_depth op before a = search (rules, the_lemmas)

pub member_depth : (a : Expr) (x : List ℕ) → expr_depth (node.Member a x) ≡ 1 + expr_depth a
member_depth a x = search (rules, the_lemmas)

pub index_depth : (a b : Expr) → expr_depth (node.Index a b) ≡ 1 + max (expr_depth a) (expr_depth b)
index_depth a b = search (rules, the_lemmas)

pub call_depth : (a : Expr) (args : List Expr) → expr_depth (node.Call a args) ≡ 1 + max (expr_depth a) (deepest (map expr_depth args))
call_depth a args = search (rules, the_lemmas)

pub fixed_depth : (key : List ℕ) (a : Expr) → prop_depth (prop.Fixed key a) ≡ 1 + expr_depth a
fixed_depth key a = search (rules, the_lemmas)

pub computed_depth : (k a : Expr) → prop_depth (prop.Computed k a) ≡ 1 + max (expr_depth k) (expr_depth a)
computed_depth k a = search (rules, the_lemmas)

pub function_of_depth : (x : Option (List ℕ)) (xs : List (List ℕ)) (g : Bool) (b : FnBody)
    → function_depth (record { name = x; params = xs; generator = g; body = b }) ≡ body_depth b
function_of_depth x xs g b = search (rules, the_lemmas)

pub items_depth : (items : List Stmt) → body_depth (body.Items items) ≡ deepest (map stmt_depth items)
items_depth items = search (rules, the_lemmas)

pub body_value_depth : (a : Expr) → body_depth (body.Value a) ≡ expr_depth a
body_value_depth a = search (rules, the_lemmas)

pub decl_value_depth : (x : List ℕ) (v : DeclValue) → decl_depth (record { name = x; value = v }) ≡ value_depth v
decl_value_depth x v = search (rules, the_lemmas)

pub value_value_depth : (a : Expr) → value_depth (value.Value a) ≡ expr_depth a
value_value_depth a = search (rules, the_lemmas)

abbrev pub optional_depth : Option Expr → ℕ
optional_depth None = 0
optional_depth (Some a) = expr_depth a

pub value_yield_depth : (a : Option Expr) → value_depth (value.Yield a) ≡ optional_depth a
value_yield_depth None = search (rules, the_lemmas)
value_yield_depth (Some a) = search (rules, the_lemmas)

pub block_depth : (items : List Stmt) → stmt_depth (stmt.Block items) ≡ 1 + deepest (map stmt_depth items)
block_depth items = search (rules, the_lemmas)

pub expression_depth : (a : Expr) → stmt_depth (stmt.Expr a) ≡ 1 + expr_depth a
expression_depth a = search (rules, the_lemmas)

pub let_depth : (ds : List Decl) → stmt_depth (stmt.Let ds) ≡ 1 + deepest (map decl_depth ds)
let_depth ds = search (rules, the_lemmas)

pub const_depth : (ds : List Decl) → stmt_depth (stmt.Const ds) ≡ 1 + deepest (map decl_depth ds)
const_depth ds = search (rules, the_lemmas)

pub function_item_depth : (f : Function) → stmt_depth (stmt.Function f) ≡ 1 + function_depth f
function_item_depth f = search (rules, the_lemmas)

pub yield_depth : (x : Option (List ℕ)) (a : Option Expr) → stmt_depth (stmt.Yield x a) ≡ 1 + optional_depth a
yield_depth x None = search (rules, the_lemmas)
yield_depth x (Some a) = search (rules, the_lemmas)

pub change_depth : (x : List ℕ) (op : ChangeOp) (a : Option Expr) → stmt_depth (stmt.Change x op a) ≡ 1 + optional_depth a
change_depth x op None = search (rules, the_lemmas)
change_depth x op (Some a) = search (rules, the_lemmas)

pub if_alone_depth : (a : Expr) (s : Stmt) → stmt_depth (stmt.If a s None) ≡ 1 + max (expr_depth a) (max (stmt_depth s) 0)
if_alone_depth a s = search (rules, the_lemmas)

pub if_else_depth : (a : Expr) (s u : Stmt) → stmt_depth (stmt.If a s (Some u)) ≡ 1 + max (expr_depth a) (max (stmt_depth s) (stmt_depth u))
if_else_depth a s u = search (rules, the_lemmas)

pub while_depth : (a : Expr) (s : Stmt) → stmt_depth (stmt.While a s) ≡ 1 + max (expr_depth a) (stmt_depth s)
while_depth a s = search (rules, the_lemmas)

pub do_depth : (s : Stmt) (a : Expr) → stmt_depth (stmt.DoWhile s a) ≡ 1 + max (stmt_depth s) (expr_depth a)
do_depth s a = search (rules, the_lemmas)

pub for_depth : (h : ForHead) (a b : Option Expr) (s : Stmt)
    → stmt_depth (stmt.For h a b s) ≡ 1 + max (head_depth h) (max (optional_depth a) (max (optional_depth b) (stmt_depth s)))
for_depth h None None s = search (rules, the_lemmas)
for_depth h (Some a) None s = search (rules, the_lemmas)
for_depth h None (Some b) s = search (rules, the_lemmas)
for_depth h (Some a) (Some b) s = search (rules, the_lemmas)

pub for_of_depth : (constant : Bool) (x : List ℕ) (a : Expr) (s : Stmt)
    → stmt_depth (stmt.ForOf constant x a s) ≡ 1 + max (expr_depth a) (stmt_depth s)
for_of_depth constant x a s = search (rules, the_lemmas)

pub return_depth : (a : Option Expr) → stmt_depth (stmt.Return a) ≡ 1 + optional_depth a
return_depth None = search (rules, the_lemmas)
return_depth (Some a) = search (rules, the_lemmas)

pub throw_depth : (a : Expr) → stmt_depth (stmt.Throw a) ≡ 1 + expr_depth a
throw_depth a = search (rules, the_lemmas)

pub try_depth : (items : List Stmt) (p : CatchPart)
    → stmt_depth (stmt.Try items (Some p) None) ≡ 1 + max (deepest (map stmt_depth items)) (max (catch_depth p) 0)
try_depth items p = search (rules, the_lemmas)

pub catch_part_depth : (x : Option (List ℕ)) (items : List Stmt) → catch_depth (record { name = x; items = items }) ≡ deepest (map stmt_depth items)
catch_part_depth x items = search (rules, the_lemmas)

pub let_head_depth : (ds : List Decl) → head_depth (head.Let ds) ≡ deepest (map decl_depth ds)
let_head_depth ds = search (rules, the_lemmas)

pub const_head_depth : (ds : List Decl) → head_depth (head.Const ds) ≡ deepest (map decl_depth ds)
const_head_depth ds = search (rules, the_lemmas)

pub expr_head_depth : (a : Expr) → head_depth (head.Expr a) ≡ expr_depth a
expr_head_depth a = search (rules, the_lemmas)
