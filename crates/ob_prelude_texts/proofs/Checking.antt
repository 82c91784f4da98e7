-- The early errors of a tree, node by node.
use Rattle.std.proofs.Common.{◌≡◌, ℕ, ℤ, Bool, true, false, List, [], ◌++◌, map, Some, None, rules}
use Rattle.ob_base.specs.declared.operators.CompareOp.{CompareOp}
use Rattle.ob_base.specs.declared.operators.UnaryOp.{UnaryOp}
use Rattle.ob_base.specs.declared.operators.AssignOp.{AssignOp}
use Rattle.ob_base.specs.declared.operators.UpdateOp.{UpdateOp}
use Rattle.ob_tree_types.specs.declared.tree.Expr.{Expr, the_lemmas}
use Rattle.ob_tree_types.specs.declared.tree.Expr.TheVariants as node
use Rattle.ob_tree_types.specs.declared.tree.FnBody.TheVariants as body
use Rattle.ob_tree_types.specs.declared.tree.Decl.{Decl}
use Rattle.ob_tree_types.specs.declared.tree.DeclValue.TheVariants as value
use Rattle.ob_tree_types.specs.declared.tree.Stmt.{Stmt}
use Rattle.ob_tree_types.specs.declared.tree.Stmt.TheVariants as stmt
use Rattle.ob_tree_types.specs.declared.tree.ForHead.{ForHead}
use Rattle.ob_tree_types.specs.declared.tree.ForHead.TheVariants as head
use Rattle.ob_tree_types.specs.declared.cell.CellTree.TheVariants as cell
use Rattle.ob_grammar.specs.Cells.{of_value}
use Rattle.ob_grammar.specs.Early.{Value, Part, Declared, always, both, checks_of, may_assign, plain, only, declared_in, each, block, scope, declaring, anything, some_value, no_yield, in_turn, value_of, part_of, head_of, declared_of, is_free_of_errors}

pub v : Expr → Value
v a = value_of a

pub p : Stmt → Part
p s = part_of s

pub h : ForHead → Part
h a = head_of a

pub d : Decl → Declared
d a = declared_of a

pub v_undefined : v node.Undefined ≡ plain always
unfolding v
v_undefined = search (rules, the_lemmas)

pub v_bool : (b : Bool) → v (node.Bool b) ≡ plain always
unfolding v
v_bool b = search (rules, the_lemmas)

pub v_int : (n : ℤ) → v (node.Int n) ≡ plain always
unfolding v
v_int n = search (rules, the_lemmas)

pub v_text : (t : List ℕ) → v (node.Text t) ≡ plain always
unfolding v
v_text t = search (rules, the_lemmas)

pub v_name : (x : List ℕ) → v (node.Name x) ≡ record { name = Some x; check = always }
unfolding v
v_name x = search (rules, the_lemmas)

pub v_array : v (node.Array []) ≡ plain (checks_of [])
unfolding v
v_array = search (rules, the_lemmas)

pub v_unary : (op : UnaryOp) (a : Expr) → v (node.Unary op a) ≡ plain (v a).check
unfolding v
v_unary op a = search (rules, the_lemmas)

pub v_compare : (op : CompareOp) (a b : Expr) → v (node.Compare op a b) ≡ plain (both (v a).check (v b).check)
unfolding v
v_compare op a b = search (rules, the_lemmas)

pub v_cond : (a b c : Expr) → v (node.Cond a b c) ≡ plain (both (v a).check (both (v b).check (v c).check))
unfolding v
v_cond a b c = search (rules, the_lemmas)

pub v_assign : (op : AssignOp) (a b : Expr) → v (node.Assign op a b) ≡ plain (both (may_assign (v a).name) (both (v a).check (v b).check))
unfolding v
v_assign op a b = search (rules, the_lemmas)

pub v_update : (op : UpdateOp) (before : Bool) (a : Expr) → v (node.Update op before a) ≡ plain (both (may_assign (v a).name) (v a).check)
unfolding v
v_update op before a = search (rules, the_lemmas)

pub v_member : (a : Expr) (x : List ℕ) → v (node.Member a x) ≡ plain (v a).check
unfolding v
v_member a x = search (rules, the_lemmas)

pub v_index : (a b : Expr) → v (node.Index a b) ≡ plain (both (v a).check (v b).check)
unfolding v
v_index a b = search (rules, the_lemmas)

pub v_call : (a : Expr) (args : List Expr) → v (node.Call a args) ≡ plain (both (v a).check (checks_of (map v args)))
unfolding v
v_call a args = search (rules, the_lemmas)

pub v_new : (x : List ℕ) (args : List Expr) → v (node.New x args) ≡ plain (checks_of (map v args))
unfolding v
v_new x args = search (rules, the_lemmas)

pub d_value : (x : List ℕ) (a : Expr) → d (record { name = x; value = value.Value a }) ≡ record { name = x; given = record { there = true; yields = false; check = (v a).check } }
unfolding d v
d_value x a = search (rules, the_lemmas)

pub h_nothing : h head.Nothing ≡ only always
unfolding h
h_nothing = search (rules, the_lemmas)

pub h_let : (ds : List Decl) → h (head.Let ds) ≡ declaring no_yield (map d ds)
unfolding h d
h_let ds = search (rules, the_lemmas)

pub p_block : (items : List Stmt) → p (stmt.Block items) ≡ only (block (map p items))
unfolding p
p_block items = search (rules, the_lemmas)

pub p_expr : (a : Expr) → p (stmt.Expr a) ≡ only (v a).check
unfolding p v
p_expr a = search (rules, the_lemmas)

pub p_let : (ds : List Decl) → p (stmt.Let ds) ≡ declaring anything (map d ds)
unfolding p d
p_let ds = search (rules, the_lemmas)

pub p_const : (ds : List Decl) → p (stmt.Const ds) ≡ declaring some_value (map d ds)
unfolding p d
p_const ds = search (rules, the_lemmas)

pub p_if : (a : Expr) (s : Stmt) → p (stmt.If a s None) ≡ only (both (v a).check (both (p s).check always))
unfolding p v
p_if a s = search (rules, the_lemmas)

pub p_for : (head : ForHead) (a b : Expr) (turn : Stmt) → p (stmt.For head (Some a) (Some b) turn)
    ≡ only (scope (h head).declares (both (h head).check (both (v a).check (both (v b).check (λ s. (p turn).check (in_turn s))))))
unfolding p v h
p_for head a b turn = search (rules, the_lemmas)

pub p_return : (a : Expr) → p (stmt.Return (Some a)) ≡ only (v a).check
unfolding p v
p_return a = search (rules, the_lemmas)

pub p_throw : (a : Expr) → p (stmt.Throw a) ≡ only (v a).check
unfolding p v
p_throw a = search (rules, the_lemmas)

-- the cell of a function without a name
pub checks_function : (xs : List (List ℕ)) (items : List Stmt)
    → is_free_of_errors (cell.Bare (of_value (node.Function (record { name = None; params = xs; generator = false; body = body.Items items }))))
    ≡ scope (xs ++ declared_in (map p items)) (each (map p items)) (record { names = []; in_loop = false; in_generator = false })
unfolding is_free_of_errors p
checks_function xs items = search (rules, the_lemmas)
