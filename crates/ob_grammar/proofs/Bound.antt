-- No derivation nests deeper than its tree and the brackets that are open at once.
use Rattle.std.proofs.Common.{◌≡◌, ℕ, ◌+◌, ◌≤◌, max, Bool, true, false, List, [], ◌∷◌, codes, Option, Some, None, map, refl, ap, ◌∙◌, arith}
use Rattle.ob_base.specs.declared.operators.BinaryOp.TheVariants as binary
use Rattle.ob_base.specs.declared.operators.UnaryOp.{UnaryOp}
use Rattle.ob_lex.specs.declared.punctuator.Punctuator.{Punctuator}
use Rattle.ob_lex.specs.declared.punctuator.Punctuator.TheVariants as mark
use Rattle.ob_base.specs.declared.reserved.ReservedWord.{ReservedWord}
use Rattle.ob_base.specs.declared.reserved.ReservedWord.TheVariants as word
use Rattle.ob_lex.specs.declared.token.Token.{Token}
use Rattle.ob_lex.specs.declared.token.TokenKind.{TokenKind}
use Rattle.ob_lex.specs.declared.token.TokenKind.TheVariants as kind
use Rattle.ob_base.specs.declared.operators.AssignOp.{AssignOp}
use Rattle.ob_base.specs.declared.operators.ChangeOp.{ChangeOp}
use Rattle.ob_base.specs.declared.operators.UpdateOp.{UpdateOp}
use Rattle.ob_tree_types.specs.declared.tree.Expr.{Expr}
use Rattle.ob_tree_types.specs.declared.tree.PropNode.{PropNode}
use Rattle.ob_tree_types.specs.declared.tree.Function.{Function}
use Rattle.ob_tree_types.specs.declared.tree.FnBody.{FnBody}
use Rattle.ob_tree_types.specs.declared.tree.FnBody.TheVariants as body
use Rattle.ob_tree_types.specs.declared.tree.Decl.{Decl}
use Rattle.ob_tree_types.specs.declared.tree.DeclValue.TheVariants as value
use Rattle.ob_tree_types.specs.declared.tree.Stmt.{Stmt}
use Rattle.ob_tree_types.specs.declared.tree.ForHead.{ForHead}
use Rattle.ob_tree_types.specs.declared.tree.CatchPart.{CatchPart}
use Rattle.ob_tree.specs.Depth.{deepest, expr_depth, prop_depth, stmt_depth, body_depth, head_depth, catch_depth, decl_depth, function_depth}
use Rattle.ob_grammar.specs.declared.form.Form.{Form}
use Rattle.ob_grammar.specs.declared.form.Infix.{Infix}
use Rattle.ob_grammar.specs.declared.piece.Signature.{Signature}
use Rattle.ob_grammar.specs.Marks.{IsMark, IsWord, IsName, word_of, key_of, literal_of, infix_of, unary_of, update_of, assign_of, change_of, step_of, declares_constant}
use Rattle.ob_grammar.specs.Forms.{Ends, written, before_brace, at_end, at_line}
use Rattle.ob_grammar.specs.Lists.{ReadsNames, no_names, last_name, more_names, ReadsParams, params, ReadsArrowHead, one_param, all_params, ReadsStar, star, no_star, ReadsOwnName, own_name, no_name, ReadsSignature, signature}
use Rattle.ob_grammar.specs.Grammar.{Rule, arrow_function, Reads, Continues, Steps, ReadsList, ReadsProps, ReadsProp, ReadsArrowBody, ReadsFunction, ReadsBlock, ReadsItems, ReadsItem, ReadsDecls, ReadsDecl, ReadsYield, ReadsStmt, ReadsTest, ReadsHead, ReadsOptional, ReadsCatch}
use Rattle.ob_grammar.specs.Grammar.{arrow, assigned, unassigned, chosen, unchosen, disjoined, coalesced, operands, unraised, raised, signed, unsigned, counted_before, counted_behind, uncounted, steps, literal, name, viewof_name, made, parentheses, array, object, function_expression, no_more, goes_on, no_step, member, index, call, no_item, last_item, more_list, no_prop, last_prop, more_props, short_prop, fixed_prop, computed_prop, block_body, value_body, function, block, no_items, more_items, statement, let_item, const_item, function_item, last_decl, more_decls, decl_name, decl_value, decl_yield, yield_alone, yield_value, block_statement, empty, expression, yielded, yield_assigned, changed, stepped, if_alone, if_else, while_loop, do_loop, do_loop_ended, for_loop, for_of, break, continue, return_alone, return_value, throw, try_catch, test, no_head, let_head, const_head, expr_head, absent, present, catch_all, catch_name}
use Rattle.ob_grammar.specs.Cells.{Derives, ReadsBody, of_block, of_value}
use Rattle.ob_grammar.specs.Cells as cells
use Rattle.ob_grammar.specs.Limits.{open_after, most_open}
use Rattle.ob_grammar.proofs.Depths.{array_depth, object_depth, made_depth, function_expression_depth, arrow_depth, unary_depth, binary_depth, joined_depth, cond_depth, assign_depth, update_depth, member_depth, index_depth, call_depth, fixed_depth, computed_depth, function_of_depth, items_depth, body_value_depth, decl_value_depth, value_value_depth, optional_depth, value_yield_depth, block_depth, expression_depth, let_depth, const_depth, function_item_depth, yield_depth, change_depth, if_alone_depth, if_else_depth, while_depth, do_depth, for_depth, for_of_depth, return_depth, throw_depth, try_depth, catch_part_depth, let_head_depth, const_head_depth, expr_head_depth}
use Rattle.ob_grammar.proofs.Need.{need, need_continues, need_steps, need_list, need_props, need_prop, need_arrow_body, need_function, need_block, need_items, need_item, need_decls, need_decl, need_yield, need_stmt, need_test, need_head, need_optional, need_catch}
use Rattle.ob_grammar.proofs.Statements.{ExpressionsNestWithin, CellsNestWithin, need_body}

-- a piece that nests so deep and gives a tree of that depth, with z brackets open before it and behind it
record Within (z need tree : ℕ) (ts rest : List Token) : Type 0 where
  fits : need + z ≤ tree + most_open z ts
  back : most_open z rest ≤ most_open z ts

-- what goes on with a tree of the old depth
record Grows (z need old new : ℕ) (ts rest : List Token) : Type 0 where
  fits : need + z ≤ new + most_open z ts
  back : most_open z rest ≤ most_open z ts
  tree : old ≤ new

-- parts up to a closing mark, with z brackets open before them and y behind that mark
record Until (z y need tree : ℕ) (ts rest : List Token) : Type 0 where
  fits : need + z ≤ 1 + tree + most_open z ts
  back : most_open y rest ≤ most_open z ts

at_least : (n : ℕ) (ts : List Token) → n ≤ most_open n ts
unfolding most_open
at_least n [] = omega arith
at_least n (t ∷ ts) = omega arith

step : (n m : ℕ) (t : Token) (ts : List Token) → open_after t.kind n ≡ m → most_open n (t ∷ ts) ≡ max n (most_open m ts)
unfolding most_open
step n m t ts h = ap (λ k. max n (most_open k ts)) h

of_mark : (p : Punctuator) (t : Token) → IsMark p t → (n m : ℕ) → open_after (kind.Punctuator p) n ≡ m → open_after t.kind n ≡ m
of_mark p t h n m e = ap (λ k. open_after k n) h ∙ e

closing_parenthesis : (n : ℕ) → open_after (kind.Punctuator mark.CloseParenthesis) (n + 1) ≡ n
unfolding open_after
closing_parenthesis n = omega arith

closing_bracket : (n : ℕ) → open_after (kind.Punctuator mark.CloseBracket) (n + 1) ≡ n
unfolding open_after
closing_bracket n = omega arith

closing_brace : (n : ℕ) → open_after (kind.Punctuator mark.CloseBrace) (n + 1) ≡ n
unfolding open_after
closing_brace n = omega arith

staying_semicolon : (n : ℕ) → open_after (kind.Punctuator mark.Semicolon) n ≡ n
unfolding open_after
staying_semicolon n = refl

open_parenthesis : (n : ℕ) (t : Token) (ts : List Token) → IsMark mark.OpenParenthesis t → most_open n (t ∷ ts) ≡ max n (most_open (n + 1) ts)
unfolding open_after
open_parenthesis n t ts h = step n (n + 1) t ts (of_mark mark.OpenParenthesis t h n (n + 1) refl)

open_bracket : (n : ℕ) (t : Token) (ts : List Token) → IsMark mark.OpenBracket t → most_open n (t ∷ ts) ≡ max n (most_open (n + 1) ts)
unfolding open_after
open_bracket n t ts h = step n (n + 1) t ts (of_mark mark.OpenBracket t h n (n + 1) refl)

open_brace : (n : ℕ) (t : Token) (ts : List Token) → IsMark mark.OpenBrace t → most_open n (t ∷ ts) ≡ max n (most_open (n + 1) ts)
unfolding open_after
open_brace n t ts h = step n (n + 1) t ts (of_mark mark.OpenBrace t h n (n + 1) refl)

close_parenthesis : (n : ℕ) (t : Token) (ts : List Token) → IsMark mark.CloseParenthesis t → most_open (n + 1) (t ∷ ts) ≡ max (n + 1) (most_open n ts)
close_parenthesis n t ts h = step (n + 1) n t ts (of_mark mark.CloseParenthesis t h (n + 1) n (closing_parenthesis n))

close_bracket : (n : ℕ) (t : Token) (ts : List Token) → IsMark mark.CloseBracket t → most_open (n + 1) (t ∷ ts) ≡ max (n + 1) (most_open n ts)
close_bracket n t ts h = step (n + 1) n t ts (of_mark mark.CloseBracket t h (n + 1) n (closing_bracket n))

close_brace : (n : ℕ) (t : Token) (ts : List Token) → IsMark mark.CloseBrace t → most_open (n + 1) (t ∷ ts) ≡ max (n + 1) (most_open n ts)
close_brace n t ts h = step (n + 1) n t ts (of_mark mark.CloseBrace t h (n + 1) n (closing_brace n))

-- ---- tokens that open and close nothing

abbrev Flat : TokenKind → Type 0
Flat k = (n : ℕ) → open_after k n ≡ n

flat_step : (n : ℕ) (t : Token) (ts : List Token) → Flat t.kind → most_open n (t ∷ ts) ≡ max n (most_open n ts)
flat_step n t ts h = step n n t ts (h n)

flat_kind : (t : Token) (k : TokenKind) → t.kind ≡ k → Flat k → Flat t.kind
flat_kind t k h e n = ap (λ j. open_after j n) h ∙ e n

flat_word : (w : ReservedWord) (t : Token) → IsWord w t → Flat t.kind
unfolding open_after
flat_word w t h = flat_kind t (kind.Reserved w) h (λ n. refl)

flat_name : (x : List ℕ) (t : Token) → IsName x t → Flat t.kind
unfolding open_after
flat_name x t h = flat_kind t (kind.Name x) h (λ n. refl)

flat_arrow : (t : Token) → IsMark mark.Arrow t → Flat t.kind
unfolding open_after
flat_arrow t h = flat_kind t (kind.Punctuator mark.Arrow) h (λ n. refl)

flat_question : (t : Token) → IsMark mark.Question t → Flat t.kind
unfolding open_after
flat_question t h = flat_kind t (kind.Punctuator mark.Question) h (λ n. refl)

flat_colon : (t : Token) → IsMark mark.Colon t → Flat t.kind
unfolding open_after
flat_colon t h = flat_kind t (kind.Punctuator mark.Colon) h (λ n. refl)

flat_star_star : (t : Token) → IsMark mark.StarStar t → Flat t.kind
unfolding open_after
flat_star_star t h = flat_kind t (kind.Punctuator mark.StarStar) h (λ n. refl)

flat_dot : (t : Token) → IsMark mark.Dot t → Flat t.kind
unfolding open_after
flat_dot t h = flat_kind t (kind.Punctuator mark.Dot) h (λ n. refl)

flat_comma : (t : Token) → IsMark mark.Comma t → Flat t.kind
unfolding open_after
flat_comma t h = flat_kind t (kind.Punctuator mark.Comma) h (λ n. refl)

flat_assign : (t : Token) → IsMark mark.Assign t → Flat t.kind
unfolding open_after
flat_assign t h = flat_kind t (kind.Punctuator mark.Assign) h (λ n. refl)

flat_semicolon : (t : Token) → IsMark mark.Semicolon t → Flat t.kind
unfolding open_after
flat_semicolon t h = flat_kind t (kind.Punctuator mark.Semicolon) h (λ n. refl)

flat_star : (t : Token) → IsMark mark.Star t → Flat t.kind
unfolding open_after
flat_star t h = flat_kind t (kind.Punctuator mark.Star) h (λ n. refl)

flat_by_infix : (k : TokenKind) (a : Infix) → infix_of k ≡ Some a → Flat k
unfolding infix_of open_after
flat_by_infix (kind.Punctuator mark.OpenParenthesis) a h n = cc
flat_by_infix (kind.Punctuator mark.OpenBracket) a h n = cc
flat_by_infix (kind.Punctuator mark.OpenBrace) a h n = cc
flat_by_infix (kind.Punctuator mark.CloseParenthesis) a h n = cc
flat_by_infix (kind.Punctuator mark.CloseBracket) a h n = cc
flat_by_infix (kind.Punctuator mark.CloseBrace) a h n = cc
flat_by_infix _ a h n = refl

flat_by_word : (k : TokenKind) (a : List ℕ) → word_of k ≡ Some a → Flat k
unfolding word_of open_after
flat_by_word (kind.Punctuator mark.OpenParenthesis) a h n = cc
flat_by_word (kind.Punctuator mark.OpenBracket) a h n = cc
flat_by_word (kind.Punctuator mark.OpenBrace) a h n = cc
flat_by_word (kind.Punctuator mark.CloseParenthesis) a h n = cc
flat_by_word (kind.Punctuator mark.CloseBracket) a h n = cc
flat_by_word (kind.Punctuator mark.CloseBrace) a h n = cc
flat_by_word _ a h n = refl

flat_by_key : (k : TokenKind) (a : List ℕ) → key_of k ≡ Some a → Flat k
unfolding key_of open_after
flat_by_key (kind.Punctuator mark.OpenParenthesis) a h n = cc
flat_by_key (kind.Punctuator mark.OpenBracket) a h n = cc
flat_by_key (kind.Punctuator mark.OpenBrace) a h n = cc
flat_by_key (kind.Punctuator mark.CloseParenthesis) a h n = cc
flat_by_key (kind.Punctuator mark.CloseBracket) a h n = cc
flat_by_key (kind.Punctuator mark.CloseBrace) a h n = cc
flat_by_key _ a h n = refl

flat_by_literal : (k : TokenKind) (a : Expr) → literal_of k ≡ Some a → Flat k
unfolding literal_of open_after
flat_by_literal (kind.Punctuator mark.OpenParenthesis) a h n = cc
flat_by_literal (kind.Punctuator mark.OpenBracket) a h n = cc
flat_by_literal (kind.Punctuator mark.OpenBrace) a h n = cc
flat_by_literal (kind.Punctuator mark.CloseParenthesis) a h n = cc
flat_by_literal (kind.Punctuator mark.CloseBracket) a h n = cc
flat_by_literal (kind.Punctuator mark.CloseBrace) a h n = cc
flat_by_literal _ a h n = refl

flat_by_unary : (k : TokenKind) (a : UnaryOp) → unary_of k ≡ Some a → Flat k
unfolding unary_of open_after
flat_by_unary (kind.Punctuator mark.OpenParenthesis) a h n = cc
flat_by_unary (kind.Punctuator mark.OpenBracket) a h n = cc
flat_by_unary (kind.Punctuator mark.OpenBrace) a h n = cc
flat_by_unary (kind.Punctuator mark.CloseParenthesis) a h n = cc
flat_by_unary (kind.Punctuator mark.CloseBracket) a h n = cc
flat_by_unary (kind.Punctuator mark.CloseBrace) a h n = cc
flat_by_unary _ a h n = refl

flat_by_update : (k : TokenKind) (a : UpdateOp) → update_of k ≡ Some a → Flat k
unfolding update_of open_after
flat_by_update (kind.Punctuator mark.OpenParenthesis) a h n = cc
flat_by_update (kind.Punctuator mark.OpenBracket) a h n = cc
flat_by_update (kind.Punctuator mark.OpenBrace) a h n = cc
flat_by_update (kind.Punctuator mark.CloseParenthesis) a h n = cc
flat_by_update (kind.Punctuator mark.CloseBracket) a h n = cc
flat_by_update (kind.Punctuator mark.CloseBrace) a h n = cc
flat_by_update _ a h n = refl

flat_by_assign : (k : TokenKind) (a : AssignOp) → assign_of k ≡ Some a → Flat k
unfolding assign_of open_after
flat_by_assign (kind.Punctuator mark.OpenParenthesis) a h n = cc
flat_by_assign (kind.Punctuator mark.OpenBracket) a h n = cc
flat_by_assign (kind.Punctuator mark.OpenBrace) a h n = cc
flat_by_assign (kind.Punctuator mark.CloseParenthesis) a h n = cc
flat_by_assign (kind.Punctuator mark.CloseBracket) a h n = cc
flat_by_assign (kind.Punctuator mark.CloseBrace) a h n = cc
flat_by_assign _ a h n = refl

flat_by_change : (k : TokenKind) (a : ChangeOp) → change_of k ≡ Some a → Flat k
unfolding change_of open_after
flat_by_change (kind.Punctuator mark.OpenParenthesis) a h n = cc
flat_by_change (kind.Punctuator mark.OpenBracket) a h n = cc
flat_by_change (kind.Punctuator mark.OpenBrace) a h n = cc
flat_by_change (kind.Punctuator mark.CloseParenthesis) a h n = cc
flat_by_change (kind.Punctuator mark.CloseBracket) a h n = cc
flat_by_change (kind.Punctuator mark.CloseBrace) a h n = cc
flat_by_change _ a h n = refl

flat_by_step : (k : TokenKind) (a : ChangeOp) → step_of k ≡ Some a → Flat k
unfolding step_of open_after
flat_by_step (kind.Punctuator mark.OpenParenthesis) a h n = cc
flat_by_step (kind.Punctuator mark.OpenBracket) a h n = cc
flat_by_step (kind.Punctuator mark.OpenBrace) a h n = cc
flat_by_step (kind.Punctuator mark.CloseParenthesis) a h n = cc
flat_by_step (kind.Punctuator mark.CloseBracket) a h n = cc
flat_by_step (kind.Punctuator mark.CloseBrace) a h n = cc
flat_by_step _ a h n = refl

flat_by_declares : (k : TokenKind) (a : Bool) → declares_constant k ≡ Some a → Flat k
unfolding declares_constant open_after
flat_by_declares (kind.Punctuator mark.OpenParenthesis) a h n = cc
flat_by_declares (kind.Punctuator mark.OpenBracket) a h n = cc
flat_by_declares (kind.Punctuator mark.OpenBrace) a h n = cc
flat_by_declares (kind.Punctuator mark.CloseParenthesis) a h n = cc
flat_by_declares (kind.Punctuator mark.CloseBracket) a h n = cc
flat_by_declares (kind.Punctuator mark.CloseBrace) a h n = cc
flat_by_declares _ a h n = refl

-- ---- the head of a function, and the end of a statement

names_back : {ts : List Token} {xs : List (List ℕ)} {rest : List Token} → ReadsNames ts xs rest → (n : ℕ) → most_open n rest ≤ most_open (n + 1) ts
names_back (no_names t ts h) n = omega (arith, close_parenthesis n t ts h)
names_back (last_name t c ts x h hc) n = omega (arith, flat_step (n + 1) t (c ∷ ts) (flat_name x t h), close_parenthesis n c ts hc)
names_back (more_names t c ts rest x xs h hc d) n =
    omega (arith, flat_step (n + 1) t (c ∷ ts) (flat_name x t h), flat_step (n + 1) c ts (flat_comma c hc), names_back d n)

params_back : {ts : List Token} {xs : List (List ℕ)} {rest : List Token} → ReadsParams ts xs rest → (n : ℕ) → most_open n rest ≤ most_open n ts
params_back (params t ts rest xs h d) n = omega (arith, open_parenthesis n t ts h, names_back d n)

arrow_head_back : {ts : List Token} {xs : List (List ℕ)} {rest : List Token} → ReadsArrowHead ts xs rest → (n : ℕ) → most_open n rest ≤ most_open n ts
arrow_head_back (one_param t ts x h) n = omega (arith, flat_step n t ts (flat_name x t h))
arrow_head_back (all_params ts rest xs d) n = params_back d n

star_back : {ts : List Token} {g : Bool} {rest : List Token} → ReadsStar ts g rest → (n : ℕ) → most_open n rest ≤ most_open n ts
star_back (star t ts h) n = omega (arith, flat_step n t ts (flat_star t h))
star_back (no_star ts) n = omega arith

own_name_back : {ts : List Token} {x : Option (List ℕ)} {rest : List Token} → ReadsOwnName ts x rest → (n : ℕ) → most_open n rest ≤ most_open n ts
own_name_back (own_name t ts x h) n = omega (arith, flat_step n t ts (flat_name x t h))
own_name_back (no_name ts) n = omega arith

signature_back : {ts : List Token} {s : Signature} {rest : List Token} → ReadsSignature ts s rest → (n : ℕ) → most_open n rest ≤ most_open n ts
signature_back (signature ts named list rest g x xs a b c) n = omega (arith, star_back a n, own_name_back b n, params_back c n)

end_back : {f : Form} {ts rest : List Token} → Ends f ts rest → (n : ℕ) → most_open n rest ≤ most_open n ts
end_back (written t ts h) n = omega (arith, flat_step n t ts (flat_semicolon t h))
end_back (before_brace t ts h) n = omega arith
end_back at_end n = omega arith
end_back (at_line t ts hb s) n = omega arith

-- ---- constructor by constructor

mutual
  within : {r : Rule} {ts : List Token} {a : Expr} {f : Form} {rest : List Token} (read : Reads r ts a f rest) → (z : ℕ)
      → Within z (need read) (expr_depth a) ts rest
  within (arrow ts mid rest t xs b f h1 h2 h3 d1) z =
      let i1 = arrow_head_back h1 z in
      let p1 = flat_step z t mid (flat_arrow t h2) in
      let i2 = within_arrow_body d1 z in
      record {
        fits = omega (arith, arrow_depth (arrow_function xs b), function_of_depth None xs false b, i1, p1, i2.fits, i2.back);
        back = omega (arith, i1, p1, i2.back);
      }
  within (assigned ts mid rest t op a b f d1 h1 d2) z =
      let i1 = within d1 z in
      let p1 = flat_step z t mid (flat_by_assign t.kind op h1) in
      let i2 = within d2 z in
      record { fits = omega (arith, assign_depth op a b, i1.fits, i1.back, p1, i2.fits, i2.back); back = omega (arith, i1.back, p1, i2.back) }
  within (unassigned ts rest a f d1) z = within d1 z
  within (chosen ts first second rest q c a b d f g h d1 h1 d2 h2 d3) z =
      let i1 = within d1 z in
      let p1 = flat_step z q first (flat_question q h1) in
      let i2 = within d2 z in
      let p2 = flat_step z c second (flat_colon c h2) in
      let i3 = within d3 z in
      record {
        fits = omega (arith, cond_depth a b d, i1.fits, i1.back, p1, i2.fits, i2.back, p2, i3.fits, i3.back);
        back = omega (arith, i1.back, p1, i2.back, p2, i3.back);
      }
  within (unchosen ts rest a f d1) z = within d1 z
  within (disjoined ts rest a f d1) z = within d1 z
  within (coalesced ts mid rest first a f g d1 d2) z =
      let i1 = within d1 z in
      let i2 = within_continues d2 z in
      record { fits = omega (arith, i1.fits, i1.back, i2.fits, i2.back, i2.tree); back = omega (arith, i1.back, i2.back) }
  within (operands k ts mid rest first a f g d1 d2) z =
      let i1 = within d1 z in
      let i2 = within_continues d2 z in
      record { fits = omega (arith, i1.fits, i1.back, i2.fits, i2.back, i2.tree); back = omega (arith, i1.back, i2.back) }
  within (unraised ts rest a f d1) z = within d1 z
  within (raised ts mid rest t a b f g d1 h1 d2) z =
      let i1 = within d1 z in
      let p1 = flat_step z t mid (flat_star_star t h1) in
      let i2 = within d2 z in
      record { fits = omega (arith, binary_depth binary.Pow a b, i1.fits, i1.back, p1, i2.fits, i2.back); back = omega (arith, i1.back, p1, i2.back) }
  within (signed t ts rest op a f h1 d1) z =
      let p1 = flat_step z t ts (flat_by_unary t.kind op h1) in
      let i1 = within d1 z in
      record { fits = omega (arith, unary_depth op a, p1, i1.fits, i1.back); back = omega (arith, p1, i1.back) }
  within (unsigned ts rest a f d1) z = within d1 z
  within (counted_before t ts rest op a h1 d1) z =
      let p1 = flat_step z t ts (flat_by_update t.kind op h1) in
      let i1 = within d1 z in
      record { fits = omega (arith, update_depth op true a, p1, i1.fits, i1.back); back = omega (arith, p1, i1.back) }
  within (counted_behind ts rest t op a d1 h1 h2) z =
      let i1 = within d1 z in
      let p1 = flat_step z t rest (flat_by_update t.kind op h1) in
      record { fits = omega (arith, update_depth op false a, i1.fits, i1.back, p1); back = omega (arith, i1.back, p1) }
  within (uncounted ts rest a f d1) z = within d1 z
  within (steps ts mid rest first a f g d1 d2) z =
      let i1 = within d1 z in
      let i2 = within_steps d2 z in
      record { fits = omega (arith, i1.fits, i1.back, i2.fits, i2.back, i2.tree); back = omega (arith, i1.back, i2.back) }
  within (literal t ts a h1) z =
      let p1 = flat_step z t ts (flat_by_literal t.kind a h1) in
      record { fits = omega (arith, at_least z (t ∷ ts), p1); back = omega (arith, p1) }
  within (name t ts x h1) z =
      let p1 = flat_step z t ts (flat_name x t h1) in
      record { fits = omega (arith, at_least z (t ∷ ts), p1); back = omega (arith, p1) }
  within (viewof_name t n ts x h1 h2) z =
      let p1 = flat_step z t (n ∷ ts) (flat_word word.Viewof t h1) in
      let p2 = flat_step z n ts (flat_name x n h2) in
      record { fits = omega (arith, at_least z (t ∷ n ∷ ts), p1, p2); back = omega (arith, p1, p2) }
  within (made t n p ts rest x args h1 h2 h3 d1) z =
      let p1 = flat_step z t (n ∷ p ∷ ts) (flat_word word.New t h1) in
      let p2 = flat_step z n (p ∷ ts) (flat_name x n h2) in
      let p3 = open_parenthesis z p ts h3 in
      let i1 = within_list d1 (z + 1) z (closing_parenthesis z) in
      record { fits = omega (arith, made_depth x args, p1, p2, p3, i1.fits, i1.back); back = omega (arith, p1, p2, p3, i1.back) }
  within (parentheses t c ts rest a f h1 d1 h2) z =
      let p1 = open_parenthesis z t ts h1 in
      let i1 = within d1 (z + 1) in
      let p2 = close_parenthesis z c rest h2 in
      record { fits = omega (arith, p1, i1.fits, i1.back, p2); back = omega (arith, p1, i1.back, p2) }
  within (array t ts rest items h1 d1) z =
      let p1 = open_bracket z t ts h1 in
      let i1 = within_list d1 (z + 1) z (closing_bracket z) in
      record { fits = omega (arith, array_depth items, p1, i1.fits, i1.back); back = omega (arith, p1, i1.back) }
  within (object t ts rest props h1 d1) z =
      let p1 = open_brace z t ts h1 in
      let i1 = within_props d1 z in
      record { fits = omega (arith, object_depth props, p1, i1.fits, i1.back); back = omega (arith, p1, i1.back) }
  within (function_expression ts rest g d1) z =
      let i1 = within_function d1 z in
      record { fits = omega (arith, function_expression_depth g, i1.fits, i1.back); back = omega (arith, i1.back) }

  within_continues : {r : Rule} {n : ℕ} {a : Expr} {f : Form} {ts : List Token} {b : Expr} {g : Form} {rest : List Token} (read : Continues r n a f ts b g rest) → (z : ℕ) → Grows z (need_continues read) (expr_depth a) (expr_depth b) ts rest
  within_continues (no_more r n a f ts) z =
      record { fits = omega (arith, at_least z ts); back = omega (arith); tree = omega (arith) }
  within_continues (goes_on r n a b c f g h t ts mid rest op h1 h2 d1 d2) z =
      let p1 = flat_step z t ts (flat_by_infix t.kind op h2) in
      let i1 = within d1 z in
      let i2 = within_continues d2 z in
      record {
        fits = omega (arith, at_least z (t ∷ ts), joined_depth op a b, p1, i1.fits, i1.back, i2.fits, i2.back, i2.tree);
        back = omega (arith, p1, i1.back, i2.back);
        tree = omega (arith, joined_depth op a b, i2.tree);
      }

  within_steps : {a : Expr} {f : Form} {ts : List Token} {b : Expr} {g : Form} {rest : List Token} (read : Steps a f ts b g rest) → (z : ℕ)
      → Grows z (need_steps read) (expr_depth a) (expr_depth b) ts rest
  within_steps (no_step a f ts) z =
      record { fits = omega (arith, at_least z ts); back = omega (arith); tree = omega (arith) }
  within_steps (member a b f g t n x ts rest h1 h2 d1) z =
      let p1 = flat_step z t (n ∷ ts) (flat_dot t h1) in
      let p2 = flat_step z n ts (flat_by_word n.kind x h2) in
      let i1 = within_steps d1 z in
      record {
        fits = omega (arith, at_least z (t ∷ n ∷ ts), member_depth a x, p1, p2, i1.fits, i1.back, i1.tree);
        back = omega (arith, p1, p2, i1.back);
        tree = omega (arith, member_depth a x, i1.tree);
      }
  within_steps (index a b k f g h t c ts mid rest h1 d1 h2 d2) z =
      let p1 = open_bracket z t ts h1 in
      let i1 = within d1 (z + 1) in
      let p2 = close_bracket z c mid h2 in
      let i2 = within_steps d2 z in
      record {
        fits = omega (arith, at_least z (t ∷ ts), index_depth a k, p1, i1.fits, i1.back, p2, i2.fits, i2.back, i2.tree);
        back = omega (arith, p1, i1.back, p2, i2.back);
        tree = omega (arith, index_depth a k, i2.tree);
      }
  within_steps (call a b f g t args ts mid rest h1 d1 d2) z =
      let p1 = open_parenthesis z t ts h1 in
      let i1 = within_list d1 (z + 1) z (closing_parenthesis z) in
      let i2 = within_steps d2 z in
      record {
        fits = omega (arith, at_least z (t ∷ ts), call_depth a args, p1, i1.fits, i1.back, i2.fits, i2.back, i2.tree);
        back = omega (arith, p1, i1.back, i2.back);
        tree = omega (arith, call_depth a args, i2.tree);
      }

  within_list : {close : Punctuator} {ts : List Token} {items : List Expr} {rest : List Token} (read : ReadsList close ts items rest) → (z y : ℕ)
      → open_after (kind.Punctuator close) z ≡ y → Until z y (need_list read) (deepest (map expr_depth items)) ts rest
  within_list (no_item close t ts h1) z y e =
      let p1 = step z y t ts (of_mark close t h1 z y e) in
      record { fits = omega (arith, at_least z (t ∷ ts), p1); back = omega (arith, p1) }
  within_list (last_item close c ts rest a f d1 h1) z y e =
      let i1 = within d1 z in
      let p1 = step z y c rest (of_mark close c h1 z y e) in
      record { fits = omega (arith, i1.fits, i1.back, p1); back = omega (arith, i1.back, p1) }
  within_list (more_list close c ts mid rest a f items d1 h1 d2) z y e =
      let i1 = within d1 z in
      let p1 = flat_step z c mid (flat_comma c h1) in
      let i2 = within_list d2 z y e in
      record { fits = omega (arith, i1.fits, i1.back, p1, i2.fits, i2.back); back = omega (arith, i1.back, p1, i2.back) }

  within_props : {ts : List Token} {props : List PropNode} {rest : List Token} (read : ReadsProps ts props rest) → (z : ℕ)
      → Until (z + 1) z (need_props read) (deepest (map prop_depth props)) ts rest
  within_props (no_prop t ts h1) z =
      let p1 = close_brace z t ts h1 in
      record { fits = omega (arith, at_least (z + 1) (t ∷ ts), p1); back = omega (arith, p1) }
  within_props (last_prop c ts rest p d1 h1) z =
      let i1 = within_prop d1 (z + 1) in
      let p1 = close_brace z c rest h1 in
      record { fits = omega (arith, i1.fits, i1.back, p1); back = omega (arith, i1.back, p1) }
  within_props (more_props c ts mid rest p ps d1 h1 d2) z =
      let i1 = within_prop d1 (z + 1) in
      let p1 = flat_step (z + 1) c mid (flat_comma c h1) in
      let i2 = within_props d2 z in
      record { fits = omega (arith, i1.fits, i1.back, p1, i2.fits, i2.back); back = omega (arith, i1.back, p1, i2.back) }

  within_prop : {ts : List Token} {p : PropNode} {rest : List Token} (read : ReadsProp ts p rest) → (z : ℕ)
      → Within z (need_prop read) (prop_depth p) ts rest
  within_prop (short_prop t ts x h1) z =
      let p1 = flat_step z t ts (flat_name x t h1) in
      record { fits = omega (arith, at_least z (t ∷ ts), p1); back = omega (arith, p1) }
  within_prop (fixed_prop t c ts rest key a f h1 h2 d1) z =
      let p1 = flat_step z t (c ∷ ts) (flat_by_key t.kind key h1) in
      let p2 = flat_step z c ts (flat_colon c h2) in
      let i1 = within d1 z in
      record { fits = omega (arith, fixed_depth key a, p1, p2, i1.fits, i1.back); back = omega (arith, p1, p2, i1.back) }
  within_prop (computed_prop t e c ts mid rest k a f g h1 d1 h2 h3 d2) z =
      let p1 = open_bracket z t ts h1 in
      let i1 = within d1 (z + 1) in
      let p2 = close_bracket z e (c ∷ mid) h2 in
      let p3 = flat_step z c mid (flat_colon c h3) in
      let i2 = within d2 z in
      record {
        fits = omega (arith, computed_depth k a, p1, i1.fits, i1.back, p2, p3, i2.fits, i2.back);
        back = omega (arith, p1, i1.back, p2, p3, i2.back);
      }

  within_arrow_body : {ts : List Token} {b : FnBody} {f : Form} {rest : List Token} (read : ReadsArrowBody ts b f rest) → (z : ℕ)
      → Within z (need_arrow_body read) (1 + body_depth b) ts rest
  within_arrow_body (block_body ts rest items d1) z =
      let i1 = within_block d1 z in
      record { fits = omega (arith, items_depth items, i1.fits, i1.back); back = omega (arith, i1.back) }
  within_arrow_body (value_body ts rest a f h1 d1) z =
      let i1 = within d1 z in
      record { fits = omega (arith, body_value_depth a, i1.fits, i1.back); back = omega (arith, i1.back) }

  within_function : {ts : List Token} {g : Function} {rest : List Token} (read : ReadsFunction ts g rest) → (z : ℕ)
      → Within z (need_function read) (function_depth g) ts rest
  within_function (function t ts mid rest s items h1 h2 d1) z =
      let p1 = flat_step z t ts (flat_word word.Function t h1) in
      let i1 = signature_back h2 z in
      let i2 = within_block d1 z in
      record {
        fits = omega (arith, function_of_depth s.name s.params s.generator (body.Items items), items_depth items, p1, i1, i2.fits, i2.back);
        back = omega (arith, p1, i1, i2.back);
      }

  within_block : {ts : List Token} {items : List Stmt} {rest : List Token} (read : ReadsBlock ts items rest) → (z : ℕ)
      → Within z (need_block read) (deepest (map stmt_depth items)) ts rest
  within_block (block t ts rest items h1 d1) z =
      let p1 = open_brace z t ts h1 in
      let i1 = within_items d1 z in
      record { fits = omega (arith, p1, i1.fits, i1.back); back = omega (arith, p1, i1.back) }

  within_items : {ts : List Token} {items : List Stmt} {rest : List Token} (read : ReadsItems ts items rest) → (z : ℕ)
      → Until (z + 1) z (need_items read) (deepest (map stmt_depth items)) ts rest
  within_items (no_items t ts h1) z =
      let p1 = close_brace z t ts h1 in
      record { fits = omega (arith, at_least (z + 1) (t ∷ ts), p1); back = omega (arith, p1) }
  within_items (more_items ts mid rest s items d1 d2) z =
      let i1 = within_item d1 (z + 1) in
      let i2 = within_items d2 z in
      record { fits = omega (arith, i1.fits, i1.back, i2.fits, i2.back); back = omega (arith, i1.back, i2.back) }

  within_item : {ts : List Token} {s : Stmt} {rest : List Token} (read : ReadsItem ts s rest) → (z : ℕ)
      → Within z (need_item read) (stmt_depth s) ts rest
  within_item (statement ts rest s d1) z = within_stmt d1 z
  within_item (let_item t ts mid rest ds f h1 d1 h2) z =
      let p1 = flat_step z t ts (flat_word word.Let t h1) in
      let i1 = within_decls d1 z in
      let i2 = end_back h2 z in
      record { fits = omega (arith, let_depth ds, p1, i1.fits, i1.back, i2); back = omega (arith, p1, i1.back, i2) }
  within_item (const_item t ts mid rest ds f h1 d1 h2) z =
      let p1 = flat_step z t ts (flat_word word.Const t h1) in
      let i1 = within_decls d1 z in
      let i2 = end_back h2 z in
      record { fits = omega (arith, const_depth ds, p1, i1.fits, i1.back, i2); back = omega (arith, p1, i1.back, i2) }
  within_item (function_item ts rest g x d1 h1) z =
      let i1 = within_function d1 z in
      record { fits = omega (arith, function_item_depth g, i1.fits, i1.back); back = omega (arith, i1.back) }

  within_decls : {ts : List Token} {ds : List Decl} {f : Form} {rest : List Token} (read : ReadsDecls ts ds f rest) → (z : ℕ)
      → Within z (need_decls read) (1 + deepest (map decl_depth ds)) ts rest
  within_decls (last_decl ts rest d f d1) z =
      let i1 = within_decl d1 z in
      record { fits = omega (arith, i1.fits, i1.back); back = omega (arith, i1.back) }
  within_decls (more_decls c ts mid rest d ds f g d1 h1 d2) z =
      let i1 = within_decl d1 z in
      let p1 = flat_step z c mid (flat_comma c h1) in
      let i2 = within_decls d2 z in
      record { fits = omega (arith, i1.fits, i1.back, p1, i2.fits, i2.back); back = omega (arith, i1.back, p1, i2.back) }

  within_decl : {ts : List Token} {d : Decl} {f : Form} {rest : List Token} (read : ReadsDecl ts d f rest) → (z : ℕ)
      → Within z (need_decl read) (1 + decl_depth d) ts rest
  within_decl (decl_name t ts x h1) z =
      let p1 = flat_step z t ts (flat_name x t h1) in
      record { fits = omega (arith, at_least z (t ∷ ts), p1); back = omega (arith, p1) }
  within_decl (decl_value t q ts rest x a f h1 h2 d1) z =
      let p1 = flat_step z t (q ∷ ts) (flat_name x t h1) in
      let p2 = flat_step z q ts (flat_assign q h2) in
      let i1 = within d1 z in
      record {
        fits = omega (arith, decl_value_depth x (value.Value a), value_value_depth a, p1, p2, i1.fits, i1.back);
        back = omega (arith, p1, p2, i1.back);
      }
  within_decl (decl_yield t q ts rest x a f h1 h2 d1) z =
      let p1 = flat_step z t (q ∷ ts) (flat_name x t h1) in
      let p2 = flat_step z q ts (flat_assign q h2) in
      let i1 = within_yield d1 z in
      record {
        fits = omega (arith, decl_value_depth x (value.Yield a), value_yield_depth a, p1, p2, i1.fits, i1.back);
        back = omega (arith, p1, p2, i1.back);
      }

  within_yield : {ts : List Token} {a : Option Expr} {f : Form} {rest : List Token} (read : ReadsYield ts a f rest) → (z : ℕ)
      → Within z (need_yield read) (1 + optional_depth a) ts rest
  within_yield (yield_alone t ts h1) z =
      let p1 = flat_step z t ts (flat_word word.Yield t h1) in
      record { fits = omega (arith, at_least z (t ∷ ts), p1); back = omega (arith, p1) }
  within_yield (yield_value t ts rest a f h1 h2 d1) z =
      let p1 = flat_step z t ts (flat_word word.Yield t h1) in
      let i1 = within d1 z in
      record { fits = omega (arith, p1, i1.fits, i1.back); back = omega (arith, p1, i1.back) }

  within_stmt : {ts : List Token} {s : Stmt} {rest : List Token} (read : ReadsStmt ts s rest) → (z : ℕ)
      → Within z (need_stmt read) (stmt_depth s) ts rest
  within_stmt (block_statement ts rest items d1) z =
      let i1 = within_block d1 z in
      record { fits = omega (arith, block_depth items, i1.fits, i1.back); back = omega (arith, i1.back) }
  within_stmt (empty t ts h1) z =
      let p1 = flat_step z t ts (flat_semicolon t h1) in
      record { fits = omega (arith, at_least z (t ∷ ts), p1); back = omega (arith, p1) }
  within_stmt (expression ts mid rest a f h1 h2 d1 h3) z =
      let i1 = within d1 z in
      let i2 = end_back h3 z in
      record { fits = omega (arith, expression_depth a, i1.fits, i1.back, i2); back = omega (arith, i1.back, i2) }
  within_stmt (yielded ts mid rest a f d1 h1) z =
      let i1 = within_yield d1 z in
      let i2 = end_back h1 z in
      record { fits = omega (arith, yield_depth None a, i1.fits, i1.back, i2); back = omega (arith, i1.back, i2) }
  within_stmt (yield_assigned t q ts mid rest x a f h1 h2 d1 h3) z =
      let p1 = flat_step z t (q ∷ ts) (flat_name x t h1) in
      let p2 = flat_step z q ts (flat_assign q h2) in
      let i1 = within_yield d1 z in
      let i2 = end_back h3 z in
      record { fits = omega (arith, yield_depth (Some x) a, p1, p2, i1.fits, i1.back, i2); back = omega (arith, p1, p2, i1.back, i2) }
  within_stmt (changed t n q ts mid rest x op a f h1 h2 h3 d1 h4) z =
      let p1 = flat_step z t (n ∷ q ∷ ts) (flat_word word.Mutable t h1) in
      let p2 = flat_step z n (q ∷ ts) (flat_name x n h2) in
      let p3 = flat_step z q ts (flat_by_change q.kind op h3) in
      let i1 = within d1 z in
      let i2 = end_back h4 z in
      record { fits = omega (arith, change_depth x op (Some a), p1, p2, p3, i1.fits, i1.back, i2); back = omega (arith, p1, p2, p3, i1.back, i2) }
  within_stmt (stepped t n q ts rest x op h1 h2 h3 h4 h5) z =
      let p1 = flat_step z t (n ∷ q ∷ ts) (flat_word word.Mutable t h1) in
      let p2 = flat_step z n (q ∷ ts) (flat_name x n h2) in
      let p3 = flat_step z q ts (flat_by_step q.kind op h3) in
      let i1 = end_back h5 z in
      record { fits = omega (arith, at_least z (t ∷ n ∷ q ∷ ts), p1, p2, p3, i1); back = omega (arith, p1, p2, p3, i1) }
  within_stmt (if_alone t ts mid rest a s h1 d1 d2 h2) z =
      let p1 = flat_step z t ts (flat_word word.If t h1) in
      let i1 = within_test d1 z in
      let i2 = within_stmt d2 z in
      record { fits = omega (arith, if_alone_depth a s, p1, i1.fits, i1.back, i2.fits, i2.back); back = omega (arith, p1, i1.back, i2.back) }
  within_stmt (if_else t e ts mid next rest a s u h1 d1 d2 h2 d3) z =
      let p1 = flat_step z t ts (flat_word word.If t h1) in
      let i1 = within_test d1 z in
      let i2 = within_stmt d2 z in
      let p2 = flat_step z e next (flat_word word.Else e h2) in
      let i3 = within_stmt d3 z in
      record {
        fits = omega (arith, if_else_depth a s u, p1, i1.fits, i1.back, i2.fits, i2.back, p2, i3.fits, i3.back);
        back = omega (arith, p1, i1.back, i2.back, p2, i3.back);
      }
  within_stmt (while_loop t ts mid rest a s h1 d1 d2) z =
      let p1 = flat_step z t ts (flat_word word.While t h1) in
      let i1 = within_test d1 z in
      let i2 = within_stmt d2 z in
      record { fits = omega (arith, while_depth a s, p1, i1.fits, i1.back, i2.fits, i2.back); back = omega (arith, p1, i1.back, i2.back) }
  within_stmt (do_loop t w ts mid rest s a h1 d1 h2 d2 h3) z =
      let p1 = flat_step z t ts (flat_word word.Do t h1) in
      let i1 = within_stmt d1 z in
      let p2 = flat_step z w mid (flat_word word.While w h2) in
      let i2 = within_test d2 z in
      record { fits = omega (arith, do_depth s a, p1, i1.fits, i1.back, p2, i2.fits, i2.back); back = omega (arith, p1, i1.back, p2, i2.back) }
  within_stmt (do_loop_ended t w e ts mid rest s a h1 d1 h2 d2 h3) z =
      let p1 = flat_step z t ts (flat_word word.Do t h1) in
      let i1 = within_stmt d1 z in
      let p2 = flat_step z w mid (flat_word word.While w h2) in
      let i2 = within_test d2 z in
      let p3 = flat_step z e rest (flat_semicolon e h3) in
      record {
        fits = omega (arith, do_depth s a, p1, i1.fits, i1.back, p2, i2.fits, i2.back, p3);
        back = omega (arith, p1, i1.back, p2, i2.back, p3);
      }
  within_stmt (for_loop t p ts tested counted turn rest h a b s h1 h2 d1 d2 d3 d4) z =
      let p1 = flat_step z t (p ∷ ts) (flat_word word.For t h1) in
      let p2 = open_parenthesis z p ts h2 in
      let i1 = within_head d1 (z + 1) in
      let i2 = within_optional d2 (z + 1) (z + 1) (staying_semicolon (z + 1)) in
      let i3 = within_optional d3 (z + 1) z (closing_parenthesis z) in
      let i4 = within_stmt d4 z in
      record {
        fits = omega (arith, for_depth h a b s, p1, p2, i1.fits, i1.back, i2.fits, i2.back, i3.fits, i3.back, i4.fits, i4.back);
        back = omega (arith, p1, p2, i1.back, i2.back, i3.back, i4.back);
      }
  within_stmt (for_of t p d n o c ts mid rest constant x a f s h1 h2 h3 h4 h5 d1 h6 d2) z =
      let p1 = flat_step z t (p ∷ d ∷ n ∷ o ∷ ts) (flat_word word.For t h1) in
      let p2 = open_parenthesis z p (d ∷ n ∷ o ∷ ts) h2 in
      let p3 = flat_step (z + 1) d (n ∷ o ∷ ts) (flat_by_declares d.kind constant h3) in
      let p4 = flat_step (z + 1) n (o ∷ ts) (flat_name x n h4) in
      let p5 = flat_step (z + 1) o ts (flat_name (codes "of") o h5) in
      let i1 = within d1 (z + 1) in
      let p6 = close_parenthesis z c mid h6 in
      let i2 = within_stmt d2 z in
      record {
        fits = omega (arith, for_of_depth constant x a s, p1, p2, p3, p4, p5, i1.fits, i1.back, p6, i2.fits, i2.back);
        back = omega (arith, p1, p2, p3, p4, p5, i1.back, p6, i2.back);
      }
  within_stmt (break t ts rest h1 h2) z =
      let p1 = flat_step z t ts (flat_word word.Break t h1) in
      let i1 = end_back h2 z in
      record { fits = omega (arith, at_least z (t ∷ ts), p1, i1); back = omega (arith, p1, i1) }
  within_stmt (continue t ts rest h1 h2) z =
      let p1 = flat_step z t ts (flat_word word.Continue t h1) in
      let i1 = end_back h2 z in
      record { fits = omega (arith, at_least z (t ∷ ts), p1, i1); back = omega (arith, p1, i1) }
  within_stmt (return_alone t ts rest h1 h2) z =
      let p1 = flat_step z t ts (flat_word word.Return t h1) in
      let i1 = end_back h2 z in
      record { fits = omega (arith, at_least z (t ∷ ts), p1, i1); back = omega (arith, p1, i1) }
  within_stmt (return_value t ts mid rest a f h1 h2 d1 h3) z =
      let p1 = flat_step z t ts (flat_word word.Return t h1) in
      let i1 = within d1 z in
      let i2 = end_back h3 z in
      record { fits = omega (arith, return_depth (Some a), p1, i1.fits, i1.back, i2); back = omega (arith, p1, i1.back, i2) }
  within_stmt (throw t ts mid rest a f h1 h2 d1 h3) z =
      let p1 = flat_step z t ts (flat_word word.Throw t h1) in
      let i1 = within d1 z in
      let i2 = end_back h3 z in
      record { fits = omega (arith, throw_depth a, p1, i1.fits, i1.back, i2); back = omega (arith, p1, i1.back, i2) }
  within_stmt (try_catch t c ts mid rest items p h1 d1 h2 d2) z =
      let p1 = flat_step z t ts (flat_word word.Try t h1) in
      let i1 = within_block d1 z in
      let p2 = flat_step z c mid (flat_word word.Catch c h2) in
      let i2 = within_catch d2 z in
      record { fits = omega (arith, try_depth items p, p1, i1.fits, i1.back, p2, i2.fits, i2.back); back = omega (arith, p1, i1.back, p2, i2.back) }

  within_test : {ts : List Token} {a : Expr} {rest : List Token} (read : ReadsTest ts a rest) → (z : ℕ)
      → Within z (need_test read) (expr_depth a) ts rest
  within_test (test t c ts rest a f h1 d1 h2) z =
      let p1 = open_parenthesis z t ts h1 in
      let i1 = within d1 (z + 1) in
      let p2 = close_parenthesis z c rest h2 in
      record { fits = omega (arith, p1, i1.fits, i1.back, p2); back = omega (arith, p1, i1.back, p2) }

  within_head : {ts : List Token} {h : ForHead} {rest : List Token} (read : ReadsHead ts h rest) → (z : ℕ)
      → Within z (need_head read) (1 + head_depth h) ts rest
  within_head (no_head t ts h1) z =
      let p1 = flat_step z t ts (flat_semicolon t h1) in
      record { fits = omega (arith, at_least z (t ∷ ts), p1); back = omega (arith, p1) }
  within_head (let_head t e ts rest ds f h1 d1 h2) z =
      let p1 = flat_step z t ts (flat_word word.Let t h1) in
      let i1 = within_decls d1 z in
      let p2 = flat_step z e rest (flat_semicolon e h2) in
      record { fits = omega (arith, let_head_depth ds, p1, i1.fits, i1.back, p2); back = omega (arith, p1, i1.back, p2) }
  within_head (const_head t e ts rest ds f h1 d1 h2) z =
      let p1 = flat_step z t ts (flat_word word.Const t h1) in
      let i1 = within_decls d1 z in
      let p2 = flat_step z e rest (flat_semicolon e h2) in
      record { fits = omega (arith, const_head_depth ds, p1, i1.fits, i1.back, p2); back = omega (arith, p1, i1.back, p2) }
  within_head (expr_head e ts rest a f d1 h1) z =
      let i1 = within d1 z in
      let p1 = flat_step z e rest (flat_semicolon e h1) in
      record { fits = omega (arith, expr_head_depth a, i1.fits, i1.back, p1); back = omega (arith, i1.back, p1) }

  within_optional : {close : Punctuator} {ts : List Token} {a : Option Expr} {rest : List Token} (read : ReadsOptional close ts a rest) → (z y : ℕ)
      → open_after (kind.Punctuator close) z ≡ y → Until z y (need_optional read) (optional_depth a) ts rest
  within_optional (absent close t ts h1) z y e =
      let p1 = step z y t ts (of_mark close t h1 z y e) in
      record { fits = omega (arith, at_least z (t ∷ ts), p1); back = omega (arith, p1) }
  within_optional (present close c ts rest a f d1 h1) z y e =
      let i1 = within d1 z in
      let p1 = step z y c rest (of_mark close c h1 z y e) in
      record { fits = omega (arith, i1.fits, i1.back, p1); back = omega (arith, i1.back, p1) }

  within_catch : {ts : List Token} {p : CatchPart} {rest : List Token} (read : ReadsCatch ts p rest) → (z : ℕ)
      → Within z (need_catch read) (catch_depth p) ts rest
  within_catch (catch_all ts rest items d1) z =
      let i1 = within_block d1 z in
      record { fits = omega (arith, catch_part_depth None items, i1.fits, i1.back); back = omega (arith, i1.back) }
  within_catch (catch_name t n c ts rest x items h1 h2 h3 d1) z =
      let p1 = open_parenthesis z t (n ∷ c ∷ ts) h1 in
      let p2 = flat_step (z + 1) n (c ∷ ts) (flat_name x n h2) in
      let p3 = close_parenthesis z c ts h3 in
      let i1 = within_block d1 z in
      record { fits = omega (arith, catch_part_depth (Some x) items, p1, p2, p3, i1.fits, i1.back); back = omega (arith, p1, p2, p3, i1.back) }

-- ---- the limits

pub expressions_nest_within : ExpressionsNestWithin
expressions_nest_within ts a f d = let i = within d 0 in omega (arith, i.fits)

body_within : {ts : List Token} {g : Function} {rest : List Token} (d : ReadsBody ts g rest) → Within 0 (need_body d) (1 + function_depth g) ts rest
body_within (cells.block ts rest items d) =
    let i = within_block d 0 in let p = function_of_depth None [] (of_block items).generator (body.Items items) in
    record { fits = omega (arith, p, items_depth items, i.fits); back = i.back }
body_within (cells.value ts rest a f h d) =
    let i = within d 0 in let p = function_of_depth None [] false (body.Value a) in
    record { fits = omega (arith, p, body_value_depth a, i.fits); back = i.back }

after_name_within : (n q : Token) (ts : List Token) (x : List ℕ) → IsName x n → IsMark mark.Assign q → most_open 0 ts ≤ most_open 0 (n ∷ q ∷ ts)
after_name_within n q ts x hn hq = omega (arith, flat_step 0 n (q ∷ ts) (flat_name x n hn), flat_step 0 q ts (flat_assign q hq))

pub cells_nest_within : CellsNestWithin
cells_nest_within ts tree cells.nothing = omega arith
cells_nest_within ts tree (cells.imported _ rest i d e) = omega arith
cells_nest_within ts tree (cells.function_cell _ g d) = let i = within_function d.reads 0 in omega (arith, i.fits)
cells_nest_within ts tree (cells.bare _ rest g d e other) = let i = body_within d in omega (arith, i.fits)
cells_nest_within ts tree (cells.named n q after rest x g hn hq d e) = let i = body_within d in omega (arith, i.fits, after_name_within n q after x hn hq)
cells_nest_within ts tree (cells.view t n q after rest x g ht hn hq d e) =
    let i = body_within d in omega (arith, i.fits, flat_step 0 t (n ∷ q ∷ after) (flat_word word.Viewof t ht), after_name_within n q after x hn hq)
cells_nest_within ts tree (cells.mutable_cell t n q after rest x g ht hn hq d e) =
    let i = body_within d in omega (arith, i.fits, flat_step 0 t (n ∷ q ∷ after) (flat_word word.Mutable t ht), after_name_within n q after x hn hq)
