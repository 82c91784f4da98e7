-- Folds over trees, variant by variant, where `search` wants help.
use Rattle.std.proofs.Common.{◌≡◌, ℕ, ◌+◌, max, map, option_map, Option, List, [], ◌∷◌, ◌++◌, rules, refl, ap, ◌∙◌}
use Rattle.std.specs.Prelude.{codes}
use Rattle.ob_tree_types.specs.declared.tree.ForHead.{ForHead}
use Rattle.ob_tree_types.specs.declared.tree.Expr.{Expr}
use Rattle.ob_tree_types.specs.declared.tree.Expr.TheVariants as expr
use Rattle.ob_tree_types.specs.declared.tree.Stmt.{Stmt, the_lemmas}
use Rattle.ob_tree_types.specs.declared.tree.Stmt.TheVariants as stmt
use Rattle.ob_tree.specs.Depth.{if_there, expr_depth, stmt_depth, head_depth}
use Rattle.ob_tree.specs.Tokens.{Word}
use Rattle.ob_tree.specs.Print.{shown, expr_tokens, tokens_of, listed, in_brackets, in_parentheses, operand}

pub for_depth : (h : ForHead) (a b : Option Expr) (c : Stmt)
    → stmt_depth (stmt.For h a b c) ≡ 1 + max (head_depth h) (max (if_there (option_map expr_depth a)) (max (if_there (option_map expr_depth b)) (stmt_depth c)))
for_depth h a b c = search (rules, the_lemmas)

fused : (items : List Expr) → map tokens_of (map shown items) ≡ map expr_tokens items
fused [] = refl
fused (e ∷ items) = ap (λ l. expr_tokens e ∷ l) (fused items)

array_shown : (items : List Expr) → expr_tokens (expr.Array items) ≡ in_brackets (listed (map tokens_of (map shown items)))
array_shown items = search (rules, the_lemmas)

call_shown : (e : Expr) (items : List Expr)
    → expr_tokens (expr.Call e items) ≡ operand (shown e) ++ in_parentheses (listed (map tokens_of (map shown items)))
call_shown e items = search (rules, the_lemmas)

new_shown : (x : List ℕ) (items : List Expr)
    → expr_tokens (expr.New x items) ≡ Word (codes "new") ∷ Word x ∷ in_parentheses (listed (map tokens_of (map shown items)))
new_shown x items = search (rules, the_lemmas)

pub array_tokens : (items : List Expr) → expr_tokens (expr.Array items) ≡ in_brackets (listed (map expr_tokens items))
array_tokens items = array_shown items ∙ ap (λ l. in_brackets (listed l)) (fused items)

pub call_tokens : (e : Expr) (items : List Expr) → expr_tokens (expr.Call e items) ≡ operand (shown e) ++ in_parentheses (listed (map expr_tokens items))
call_tokens e items = call_shown e items ∙ ap (λ l. operand (shown e) ++ in_parentheses (listed l)) (fused items)

pub new_tokens : (x : List ℕ) (items : List Expr)
    → expr_tokens (expr.New x items) ≡ Word (codes "new") ∷ Word x ∷ in_parentheses (listed (map expr_tokens items))
new_tokens x items = new_shown x items ∙ ap (λ l. Word (codes "new") ∷ Word x ∷ in_parentheses (listed l)) (fused items)
