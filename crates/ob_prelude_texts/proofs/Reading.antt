-- The texts of the builtins are read as their trees.
use Rattle.std.proofs.Common.{◌≡◌, ℕ, true, List, [], ◌∷◌, Some, refl, sym, ap, ◌∙◌, rules, arith}
use Rattle.ob_lex.specs.declared.punctuator.Punctuator.TheVariants as mark
use Rattle.ob_base.specs.declared.reserved.ReservedWord.TheVariants as word
use Rattle.ob_lex.specs.declared.token.Token.{Token}
use Rattle.ob_lex.specs.declared.token.TokenKind.{TokenKind}
use Rattle.ob_lex.specs.declared.token.TokenKind.TheVariants as kind
use Rattle.ob_lex.proofs.Steps.{both_ways}
use Rattle.ob_tree.specs.Depth.{depth_of}
use Rattle.ob_tree_types.specs.declared.tree.Expr.{the_lemmas}
use Rattle.ob_tree_types.specs.declared.tree.Expr.TheVariants as node
use Rattle.ob_tree_types.specs.declared.tree.Function.{Function}
use Rattle.ob_tree_types.specs.declared.cell.CellTree.TheVariants as cell
use Rattle.ob_grammar.specs.declared.form.Form.TheVariants.{Other}
use Rattle.ob_grammar.specs.Marks.{IsMark}
use Rattle.ob_grammar.specs.Grammar.{ReadsFunction, function}
use Rattle.ob_grammar.specs.Lists.{signature, star, no_star, own_name, no_name}
use Rattle.ob_grammar.specs.Cells as cells
use Rattle.ob_grammar.specs.Cells.{IsFunctionText, Derives, of_value, plain_end}
use Rattle.ob_grammar.specs.Early.{is_free_of_errors}
use Rattle.ob_grammar.specs.Limits.{most_open, open_after}
use Rattle.ob_grammar.specs.Readable.{TextReads}
use Rattle.ob_grammar.proofs.FunctionTexts.{function_whole}
use Rattle.ob_prelude_texts.proofs.CopiedTrees.{map_tree, filter_tree, for_each_tree, some_tree, every_tree, reduce_tree, from_tree}
use Rattle.ob_prelude_texts.proofs.Tokens.{at, m, w, map_text, map_tokens, filter_text, filter_tokens, each_text, each_tokens, some_text, some_tokens, every_text, every_tokens, reduce_text, reduce_tokens, from_text, from_tokens}
use Rattle.ob_prelude_texts.proofs.Lexing.{map_lexed, filter_lexed, each_lexed, some_lexed, every_lexed, reduce_lexed, from_lexed}
use Rattle.ob_prelude_texts.proofs.Checking.{checks_function, v_undefined, v_bool, v_int, v_text, v_name, v_array, v_unary, v_compare, v_cond, v_assign, v_update, v_member, v_index, v_call, v_new, d_value, h_nothing, h_let, p_block, p_expr, p_let, p_const, p_if, p_for, p_return, p_throw}
use Rattle.ob_prelude_texts.proofs.Deriving.{alone, a_name, an_int, a_true, a_false, an_undefined, a_text, no_items, last, then_more, stop, element, name_then, a_new, counted, negated, less, same_short, same, either, set, a_const, a_let, an_expression, a_return, a_throw, an_if, ends, then_item, then_stmt, a_block, from_let, from_nothing, a_for, last_param, param, a_function, field, indexed, called, method}

-- ---- the derivations

map_reads : ReadsFunction map_tokens map_tree []
map_reads = a_function (param last_param)
    (then_item (a_const (alone field))
    (then_item (a_const (alone no_items))
    (then_stmt (a_for (from_let (alone an_int)) (less a_name a_name) counted
    (a_block (then_stmt (an_expression (alone (method (last (alone (called (then_more (alone indexed) (then_more (alone a_name) (last (alone a_name)))))))))) ends)))
    (then_stmt (a_return (alone a_name)) ends))))

filter_reads : ReadsFunction filter_tokens filter_tree []
filter_reads = a_function (param last_param)
    (then_item (a_const (alone field))
    (then_item (a_const (alone no_items))
    (then_stmt (a_for (from_let (alone an_int)) (less a_name a_name) counted
    (a_block (then_item (a_const (alone indexed))
    (then_stmt (an_if (alone (called (then_more (alone a_name) (then_more (alone a_name) (last (alone a_name))))))
    (a_block (then_stmt (an_expression (alone (method (last (alone a_name))))) ends)) (λ e. cc)) ends))))
    (then_stmt (a_return (alone a_name)) ends))))

each_reads : ReadsFunction each_tokens for_each_tree []
each_reads = a_function (param last_param)
    (then_item (a_const (alone field))
    (then_stmt (a_for (from_let (alone an_int)) (less a_name a_name) counted
    (a_block (then_stmt (an_expression (alone (called (then_more (alone indexed) (then_more (alone a_name) (last (alone a_name))))))) ends)))
    ends))

some_reads : ReadsFunction some_tokens some_tree []
some_reads = a_function (param last_param)
    (then_item (a_const (alone field))
    (then_stmt (a_for (from_let (alone an_int)) (less a_name a_name) counted
    (a_block (then_stmt (an_if (alone (called (then_more (alone indexed) (then_more (alone a_name) (last (alone a_name))))))
    (a_block (then_stmt (a_return (alone a_true)) ends)) (λ e. cc)) ends)))
    (then_stmt (a_return (alone a_false)) ends)))

every_reads : ReadsFunction every_tokens every_tree []
every_reads = a_function (param last_param)
    (then_item (a_const (alone field))
    (then_stmt (a_for (from_let (alone an_int)) (less a_name a_name) counted
    (a_block (then_stmt (an_if (negated (called (then_more (alone indexed) (then_more (alone a_name) (last (alone a_name))))))
    (a_block (then_stmt (a_return (alone a_false)) ends)) (λ e. cc)) ends)))
    (then_stmt (a_return (alone a_true)) ends)))

reduce_reads : ReadsFunction reduce_tokens reduce_tree []
reduce_reads = a_function (param (param (param last_param)))
    (then_item (a_let (alone a_name))
    (then_item (a_let (alone an_int))
    (then_stmt (an_if (negated a_name)
    (a_block (then_stmt (an_if (same field an_int) (a_block (then_stmt (a_throw (alone (a_new (last (alone a_text))))) ends)) (λ e. cc))
    (then_stmt (an_expression (set (alone (name_then (element (alone an_int) stop)))))
    (then_stmt (an_expression (set (alone an_int))) ends)))) (λ e. cc))
    (then_item (a_const (alone field))
    (then_stmt (a_for from_nothing (less a_name a_name) counted
    (a_block (then_stmt (an_expression (set (alone (called (then_more (alone a_name) (then_more (alone indexed) (then_more (alone a_name) (last (alone a_name))))))))) ends)))
    (then_stmt (a_return (alone a_name)) ends))))))

from_reads : ReadsFunction from_tokens from_tree []
from_reads = a_function (param last_param)
    (then_item (a_const (alone field))
    (then_item (a_const (alone no_items))
    (then_stmt (a_for (from_let (alone an_int)) (less a_name a_name) counted
    (a_block (then_stmt (an_expression (alone (method (last (either (same_short a_name an_undefined) (alone indexed)
    (alone (called (then_more (alone indexed) (last (alone a_name)))))))))) ends)))
    (then_stmt (a_return (alone a_name)) ends))))

-- ---- a function without a name is no function cell

head_kind : TokenKind → List Token → TokenKind
head_kind k [] = k
head_kind k (t ∷ ts) = t.kind

after_first : List Token → List Token
after_first [] = []
after_first (t ∷ ts) = ts

same_kind : {t u : Token} {ts us : List Token} → t ∷ ts ≡ u ∷ us → t.kind ≡ u.kind
unfolding head_kind
same_kind {t} e = ap (head_kind t.kind) e

same_rest : {t u : Token} {ts us : List Token} → t ∷ ts ≡ u ∷ us → ts ≡ us
unfolding after_first
same_rest e = ap after_first e

star_no_open : kind.Punctuator mark.Star ≡ kind.Punctuator mark.OpenParenthesis → ⊥
star_no_open e = cc

name_no_open : (x : List ℕ) → kind.Name x ≡ kind.Punctuator mark.OpenParenthesis → ⊥
name_no_open x e = cc

no_own_name : {all : List Token} {f : Function} {rest : List Token} → ReadsFunction all f rest → (t o : Token) (ts : List Token) → all ≡ t ∷ o ∷ ts → IsMark mark.OpenParenthesis o
    → (x : List ℕ) → f.name ≡ Some x → ⊥
no_own_name (function _ _ mid rest s items h1 (signature _ named list _ g y xs (star u us h2) d e) d3) t o ts al ho x n = star_no_open (sym h2 ∙ same_kind (same_rest al) ∙ ho)
no_own_name (function _ _ mid rest s items h1 (signature _ named list _ g y xs (no_star _) (own_name u us z h2) e) d3) t o ts al ho x n =
    name_no_open z (sym h2 ∙ same_kind (same_rest al) ∙ ho)
no_own_name (function _ _ mid rest s items h1 (signature _ named list _ g y xs (no_star _) (no_name _) e) d3) t o ts al ho x n = cc

function_no_brace : kind.Reserved word.Function ≡ kind.Punctuator mark.OpenBrace → ⊥
function_no_brace e = cc

-- the cell of a function without a name
derives : {p q r s : ℕ} {ts : List Token} {f : Function} → ReadsFunction (at p q (w word.Function) ∷ at r s (m mark.OpenParenthesis) ∷ ts) f []
    → Derives (at p q (w word.Function) ∷ at r s (m mark.OpenParenthesis) ∷ ts) (cell.Bare (of_value (node.Function f)))
derives {p} {q} {r} {s} {ts} {f} d = let all = at p q (w word.Function) ∷ at r s (m mark.OpenParenthesis) ∷ ts in
    cells.bare all [] (of_value (node.Function f)) (cells.value all [] (node.Function f) Other function_no_brace (function_whole d)) plain_end
    (λ u text. no_own_name text.reads (at p q (w word.Function)) (at r s (m mark.OpenParenthesis)) ts refl refl text.name text.named)

map_sound : is_free_of_errors (cell.Bare (of_value (node.Function map_tree))) ≡ true
map_sound = simp (checks_function, v_int, v_name, v_array, v_compare, v_update, v_member, v_index, v_call, d_value, h_let, p_block, p_expr, p_const, p_for, p_return)

map_deep : depth_of (cell.Bare (of_value (node.Function map_tree))) ≡ 9
map_deep = search (rules, the_lemmas)

map_open : most_open 0 map_tokens ≡ 5
unfolding most_open open_after
map_open = refl

pub map_text_reads : TextReads map_text (cell.Bare (of_value (node.Function map_tree)))
map_text_reads = record {
  tokens = map_tokens;
  division = (both_ways map_text map_tokens).0 map_lexed;
  reads = record { derives = derives map_reads; errors = map_sound; depth = omega (arith, map_deep); brackets = omega (arith, map_open) };
}

filter_sound : is_free_of_errors (cell.Bare (of_value (node.Function filter_tree))) ≡ true
filter_sound = simp (checks_function, v_int, v_name, v_array, v_compare, v_update, v_member, v_index, v_call, d_value, h_let, p_block, p_expr, p_const, p_if, p_for, p_return)

filter_deep : depth_of (cell.Bare (of_value (node.Function filter_tree))) ≡ 10
filter_deep = search (rules, the_lemmas)

filter_open : most_open 0 filter_tokens ≡ 4
unfolding most_open open_after
filter_open = refl

pub filter_text_reads : TextReads filter_text (cell.Bare (of_value (node.Function filter_tree)))
filter_text_reads = record {
  tokens = filter_tokens;
  division = (both_ways filter_text filter_tokens).0 filter_lexed;
  reads = record { derives = derives filter_reads; errors = filter_sound; depth = omega (arith, filter_deep); brackets = omega (arith, filter_open) };
}

each_sound : is_free_of_errors (cell.Bare (of_value (node.Function for_each_tree))) ≡ true
each_sound = simp (checks_function, v_int, v_name, v_compare, v_update, v_member, v_index, v_call, d_value, h_let, p_block, p_expr, p_const, p_for)

each_deep : depth_of (cell.Bare (of_value (node.Function for_each_tree))) ≡ 8
each_deep = search (rules, the_lemmas)

each_open : most_open 0 each_tokens ≡ 4
unfolding most_open open_after
each_open = refl

pub each_text_reads : TextReads each_text (cell.Bare (of_value (node.Function for_each_tree)))
each_text_reads = record {
  tokens = each_tokens;
  division = (both_ways each_text each_tokens).0 each_lexed;
  reads = record { derives = derives each_reads; errors = each_sound; depth = omega (arith, each_deep); brackets = omega (arith, each_open) };
}

some_sound : is_free_of_errors (cell.Bare (of_value (node.Function some_tree))) ≡ true
some_sound = simp (checks_function, v_bool, v_int, v_name, v_compare, v_update, v_member, v_index, v_call, d_value, h_let, p_block, p_const, p_if, p_for, p_return)

some_deep : depth_of (cell.Bare (of_value (node.Function some_tree))) ≡ 8
some_deep = search (rules, the_lemmas)

some_open : most_open 0 some_tokens ≡ 5
unfolding most_open open_after
some_open = refl

pub some_text_reads : TextReads some_text (cell.Bare (of_value (node.Function some_tree)))
some_text_reads = record {
  tokens = some_tokens;
  division = (both_ways some_text some_tokens).0 some_lexed;
  reads = record { derives = derives some_reads; errors = some_sound; depth = omega (arith, some_deep); brackets = omega (arith, some_open) };
}

every_sound : is_free_of_errors (cell.Bare (of_value (node.Function every_tree))) ≡ true
every_sound = simp (checks_function, v_bool, v_int, v_name, v_unary, v_compare, v_update, v_member, v_index, v_call, d_value, h_let, p_block, p_const, p_if, p_for, p_return)

every_deep : depth_of (cell.Bare (of_value (node.Function every_tree))) ≡ 9
every_deep = search (rules, the_lemmas)

every_open : most_open 0 every_tokens ≡ 5
unfolding most_open open_after
every_open = refl

pub every_text_reads : TextReads every_text (cell.Bare (of_value (node.Function every_tree)))
every_text_reads = record {
  tokens = every_tokens;
  division = (both_ways every_text every_tokens).0 every_lexed;
  reads = record { derives = derives every_reads; errors = every_sound; depth = omega (arith, every_deep); brackets = omega (arith, every_open) };
}

reduce_sound : is_free_of_errors (cell.Bare (of_value (node.Function reduce_tree))) ≡ true
reduce_sound = simp (checks_function, v_int, v_text, v_name, v_unary, v_compare, v_assign, v_update, v_member, v_index, v_call, v_new, d_value, h_nothing, p_block, p_expr, p_let, p_const, p_if, p_for, p_return, p_throw)

reduce_deep : depth_of (cell.Bare (of_value (node.Function reduce_tree))) ≡ 9
reduce_deep = search (rules, the_lemmas)

reduce_open : most_open 0 reduce_tokens ≡ 4
unfolding most_open open_after
reduce_open = refl

pub reduce_text_reads : TextReads reduce_text (cell.Bare (of_value (node.Function reduce_tree)))
reduce_text_reads = record {
  tokens = reduce_tokens;
  division = (both_ways reduce_text reduce_tokens).0 reduce_lexed;
  reads = record { derives = derives reduce_reads; errors = reduce_sound; depth = omega (arith, reduce_deep); brackets = omega (arith, reduce_open) };
}

from_sound : is_free_of_errors (cell.Bare (of_value (node.Function from_tree))) ≡ true
from_sound = simp (checks_function, v_undefined, v_int, v_name, v_array, v_compare, v_cond, v_update, v_member, v_index, v_call, d_value, h_let, p_block, p_expr, p_const, p_for, p_return)

from_deep : depth_of (cell.Bare (of_value (node.Function from_tree))) ≡ 10
from_deep = search (rules, the_lemmas)

from_open : most_open 0 from_tokens ≡ 5
unfolding most_open open_after
from_open = refl

pub from_text_reads : TextReads from_text (cell.Bare (of_value (node.Function from_tree)))
from_text_reads = record {
  tokens = from_tokens;
  division = (both_ways from_text from_tokens).0 from_lexed;
  reads = record { derives = derives from_reads; errors = from_sound; depth = omega (arith, from_deep); brackets = omega (arith, from_open) };
}
