-- The check of a statement, variant by variant, where `search` wants help.
use Rattle.std.proofs.Common.{◌≡◌, map, option_map, Option, Some, None, List, rules, ap, sym, ◌∙◌}
use Rattle.ob_tree_types.specs.declared.tree.ForHead.{ForHead}
use Rattle.ob_tree_types.specs.declared.tree.Expr.{Expr}
use Rattle.ob_tree_types.specs.declared.tree.CatchPart.{CatchPart}
use Rattle.ob_tree_types.specs.declared.tree.Stmt.{Stmt, the_lemmas}
use Rattle.ob_tree_types.specs.declared.tree.Stmt.TheVariants as stmt
use Rattle.ob_tree_types.specs.declared.tree.DeclValue.TheOpen as layer
use Rattle.ob_grammar.specs.Early.{Part, stmt_step, both, block, block_if_there, catch_check, head_of, if_there, in_turn, part_of, scope, value_if_there, value_of}

for_part : (h : ForHead) (a b : Option Expr) (c : Stmt) → part_of (stmt.For h a b c) ≡ stmt_step (layer.For (head_of h) (option_map value_of a) (option_map value_of b) (part_of c))
for_part h None None c = search (rules, the_lemmas)
for_part h (Some a) None c = search (rules, the_lemmas)
for_part h None (Some b) c = search (rules, the_lemmas)
for_part h (Some a) (Some b) c = search (rules, the_lemmas)

pub for_check : (h : ForHead) (a b : Option Expr) (c : Stmt)
    → (part_of (stmt.For h a b c)).check
    ≡ scope (head_of h).declares (both (head_of h).check (both (value_if_there (option_map value_of a)) (both (value_if_there (option_map value_of b)) (λ s. (part_of c).check (in_turn s)))))
for_check h a b c = ap (λ (p : Part). p.check) (for_part h a b c)

pub try_check : (items : List Stmt) (c : Option CatchPart) (f : Option (List Stmt))
    → (part_of (stmt.Try items c f)).check ≡ both (block (map part_of items)) (both (if_there (option_map catch_check c)) (block_if_there (option_map (map part_of) f)))
try_check items c f = search (rules, the_lemmas)

-- a `try` at what the walk has of it
pub try_alone : (s : Stmt) (items xs : List Stmt) (c : Option CatchPart) (f : Option (List Stmt)) → s ≡ stmt.Try items c f → xs ≡ items → f ≡ None
    → (part_of s).check ≡ both (block (map part_of xs)) (both (if_there (option_map catch_check c)) (block_if_there None))
try_alone s items xs c f e i n =
    ap (λ x. (part_of x).check) e ∙ try_check items c f
    ∙ ap (λ x. both (block (map part_of x)) (both (if_there (option_map catch_check c)) (block_if_there (option_map (map part_of) f)))) (sym i)
    ∙ ap (λ g. both (block (map part_of xs)) (both (if_there (option_map catch_check c)) (block_if_there (option_map (map part_of) g)))) n

pub try_and_block : (s : Stmt) (items xs last ys : List Stmt) (c : Option CatchPart) (f : Option (List Stmt)) → s ≡ stmt.Try items c f → xs ≡ items → f ≡ Some last → ys ≡ last
    → (part_of s).check ≡ both (block (map part_of xs)) (both (if_there (option_map catch_check c)) (block_if_there (Some (map part_of ys))))
try_and_block s items xs last ys c f e i n l =
    ap (λ x. (part_of x).check) e ∙ try_check items c f
    ∙ ap (λ x. both (block (map part_of x)) (both (if_there (option_map catch_check c)) (block_if_there (option_map (map part_of) f)))) (sym i)
    ∙ ap (λ g. both (block (map part_of xs)) (both (if_there (option_map catch_check c)) (block_if_there (option_map (map part_of) g)))) n
    ∙ ap (λ x. both (block (map part_of xs)) (both (if_there (option_map catch_check c)) (block_if_there (Some (map part_of x))))) (sym l)
