-- The depth of what a turn makes, and whether it is kept.
use Rattle.std.proofs.Common.{◌≡◌, ℕ, ◌+◌, ◌<◌, ◌≤◌, true, false, List, map, max, min, rules, arith}
use Rattle.std.proofs.lemmas.Bool.Decides.{nat_tests}
use Rattle.std.specs.Prelude.{nat_le}
use Rattle.ob_tree_types.specs.declared.tree.Expr.{Expr, the_lemmas}
use Rattle.ob_tree_types.specs.declared.tree.Expr.TheVariants as node
use Rattle.ob_tree.specs.Depth.{deepest, expr_depth}
use Rattle.ob_grammar.specs.declared.form.Infix.{Infix}
use Rattle.ob_grammar.specs.declared.form.Infix.TheVariants.{Computes, Compares, Chooses}
use Rattle.ob_grammar.specs.Marks.{joined}

pub member_depth : (a : Expr) (x : List ℕ) → expr_depth (node.Member a x) ≡ 1 + expr_depth a
member_depth a x = search (rules, the_lemmas)

pub index_depth : (a b : Expr) → expr_depth (node.Index a b) ≡ 1 + max (expr_depth a) (expr_depth b)
index_depth a b = search (rules, the_lemmas)

pub call_depth : (a : Expr) (items : List Expr) → expr_depth (node.Call a items) ≡ 1 + max (expr_depth a) (deepest (map expr_depth items))
call_depth a items = search (rules, the_lemmas)

pub joined_depth : (op : Infix) (a b : Expr) → expr_depth (joined op a b) ≡ 1 + max (expr_depth a) (expr_depth b)
joined_depth (Computes op) a b = search (rules, the_lemmas)
joined_depth (Compares op) a b = search (rules, the_lemmas)
joined_depth (Chooses op) a b = search (rules, the_lemmas)

-- a depth that stands still at 2^32-1 tells whether a tree is deeper than 200
pub is_kept : (deep depth : ℕ) → depth ≡ min deep 4294967295 → depth ≤ 200 → nat_le deep 200 ≡ true
is_kept deep depth h le = grind (arith, nat_tests)

pub is_not_kept : (deep depth : ℕ) → depth ≡ min deep 4294967295 → 200 < depth → nat_le deep 200 ≡ false
is_not_kept deep depth h lt = grind (arith, nat_tests)

-- depths that stand still at 2^32-1: one above a part, and one above the deeper of two parts
pub above_one : (a d e t : ℕ) → t ≡ 1 + a → d ≡ min a 4294967295 → e ≡ min (d + 1) 4294967295 → e ≡ min t 4294967295
above_one a d e t whole part more = omega arith

pub above_two : (a b d f g e t : ℕ) → t ≡ 1 + max a b → d ≡ min a 4294967295 → f ≡ min b 4294967295 → g ≡ max d f → e ≡ min (g + 1) 4294967295 → e ≡ min t 4294967295
above_two a b d f g e t whole one other both more = omega arith
