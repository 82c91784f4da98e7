-- What begins an arrow function is no operand: where an expression is not one, no head of an arrow function stands.
use Rattle.std.proofs.Common.{◌≡◌, ℕ, zero, suc, ◌+◌, ◌≤◌, List, [], ◌∷◌, Bool, true, false, Option, Some, None, option_map, refl, sym, subst, ap, ◌∙◌, cond, ◌&&◌, not, arith}
use Rattle.ob_base.specs.declared.operators.UnaryOp.{UnaryOp}
use Rattle.ob_lex.specs.declared.punctuator.Punctuator.{Punctuator}
use Rattle.ob_lex.specs.declared.punctuator.Punctuator.TheVariants as mark
use Rattle.ob_base.specs.declared.reserved.ReservedWord.{ReservedWord}
use Rattle.ob_base.specs.declared.reserved.ReservedWord.TheVariants as word
use Rattle.ob_lex.specs.declared.token.Token.{Token}
use Rattle.ob_lex.specs.declared.token.TokenKind.{TokenKind}
use Rattle.ob_lex.specs.declared.token.TokenKind.TheVariants as kind
use Rattle.ob_base.specs.declared.operators.UpdateOp.{UpdateOp}
use Rattle.ob_tree_types.specs.declared.tree.Expr.{Expr}
use Rattle.ob_grammar.specs.Marks.{IsMark, IsWord, IsName, SameLine, rank, literal_of, unary_of, update_of}
use Rattle.ob_grammar.specs.declared.form.Form.{Form}
use Rattle.ob_grammar.specs.Forms.{Stops}
use Rattle.ob_grammar.specs.Lists.{ReadsArrowHead, one_param, all_params, params}
use Rattle.ob_grammar.specs.Grammar.{Rule, whole, conditional, tighter, Reads, Continues, Steps, ReadsFunction}
use Rattle.ob_grammar.specs.Grammar.{arrow, assigned, unassigned, chosen, unchosen, disjoined, coalesced, operands, unraised, raised, signed, unsigned, counted_before, counted_behind, uncounted, steps, literal, name, viewof_name, made, parentheses, array, object, function_expression, no_more, goes_on, no_step, member, index, call, function}
use Rattle.ob_grammar.specs.Taking.{Read, ◌>>=◌, mapped, opens_parenthesis, closes_parenthesis, is_comma, is_arrow, name_of, first_name, names, names_after, arrow_sign, with_arrow, head_by, arrow_head}
use Rattle.ob_grammar.proofs.Firsts.{First, begins, first, begins_not_closes_parenthesis}
use Rattle.ob_grammar.proofs.Statements.{reach}
use Rattle.ob_grammar.proofs.Stopping.{IsValue, operand_value, fits, value_rank, rank_close, rank_comma, rank_arrow, rank_assign, rank_question, rank_star_star, rank_update, rank_dot, rank_open, rank_open_bracket}

-- ---- tokens

abbrev pub Ranked : ℕ → List Token → Type 0
Ranked n [] = Unit {0}
Ranked n (t ∷ ts) = n ≤ rank t

pub ranked_less : (n m : ℕ) (ts : List Token) → m ≤ n → Ranked n ts → Ranked m ts
ranked_less n m [] le s = tt
ranked_less n m (t ∷ ts) le s = omega arith

pub reach_tighter : (k : ℕ) → reach (tighter k) ≡ k + 3
reach_tighter zero = refl
reach_tighter (suc k) = omega arith

pub same_token : {t u : Token} {ts us : List Token} → t ∷ ts ≡ u ∷ us → t ≡ u
same_token e = cc

pub same_rest : {t u : Token} {ts us : List Token} → t ∷ ts ≡ u ∷ us → ts ≡ us
same_rest e = cc

-- two kinds of one token
pub kinds_meet : {t u : Token} {ts us : List Token} (x y : TokenKind) → t ∷ ts ≡ u ∷ us → t.kind ≡ x → u.kind ≡ y → x ≡ y
kinds_meet x y e ht hu = sym ht ∙ ap (λ (v : Token). v.kind) (same_token e) ∙ hu

ranks_meet : {t u : Token} {ts us : List Token} → t ∷ ts ≡ u ∷ us → rank t ≡ rank u
ranks_meet e = ap rank (same_token e)

mark_not_name : (m : Punctuator) (x : List ℕ) → kind.Punctuator m ≡ kind.Name x → ⊥
mark_not_name m x e = cc

word_not_name : (w : ReservedWord) (x : List ℕ) → kind.Reserved w ≡ kind.Name x → ⊥
word_not_name w x e = cc

literal_not_name : (k : TokenKind) (a : Expr) (x : List ℕ) → literal_of k ≡ Some a → k ≡ kind.Name x → ⊥
unfolding literal_of
literal_not_name k a x h e = let w = ap literal_of e in cc

sign_not_name : (k : TokenKind) (op : UnaryOp) (x : List ℕ) → unary_of k ≡ Some op → k ≡ kind.Name x → ⊥
unfolding unary_of
sign_not_name k op x h e = let w = ap unary_of e in cc

count_not_name : (k : TokenKind) (op : UpdateOp) (x : List ℕ) → update_of k ≡ Some op → k ≡ kind.Name x → ⊥
unfolding update_of
count_not_name k op x h e = let w = ap update_of e in cc

pub name_from : (k : TokenKind) (x : List ℕ) → name_of k ≡ Some x → k ≡ kind.Name x
unfolding name_of
name_from (kind.Name y) x h = cc
name_from _ x h = cc

comma_not_close : kind.Punctuator mark.Comma ≡ kind.Punctuator mark.CloseParenthesis → ⊥
comma_not_close e = cc

close_from : (k : TokenKind) → closes_parenthesis k ≡ true → k ≡ kind.Punctuator mark.CloseParenthesis
unfolding closes_parenthesis
close_from (kind.Punctuator mark.CloseParenthesis) h = refl
close_from _ h = cc

comma_from : (k : TokenKind) → is_comma k ≡ true → k ≡ kind.Punctuator mark.Comma
unfolding is_comma
comma_from (kind.Punctuator mark.Comma) h = refl
comma_from _ h = cc

arrow_from : (k : TokenKind) → is_arrow k ≡ true → k ≡ kind.Punctuator mark.Arrow
unfolding is_arrow
arrow_from (kind.Punctuator mark.Arrow) h = refl
arrow_from _ h = cc

-- ---- a name, and what doesn't go on with it

none_continues : {r : Rule} {n : ℕ} {a : Expr} {f : Form} {ts : List Token} {b : Expr} {g : Form} {rest : List Token} → Continues r n a f ts b g rest → Ranked (n + 1) ts → rest ≡ ts
none_continues (no_more r n a f ts) s = refl
none_continues (goes_on r n a b c f g h t ts mid rest op h1 h2 d1 d2) s = absurd (omega (arith, h1))

no_steps : {a : Expr} {f : Form} {ts : List Token} {b : Expr} {g : Form} {rest : List Token} → Steps a f ts b g rest → Ranked 1 ts → rest ≡ ts
no_steps (no_step a f ts) s = refl
no_steps (member a b f g t n x ts rest h1 h2 d1) s = absurd (omega (arith, rank_dot t h1))
no_steps (index a b k f g h t c ts mid rest h1 d1 h2 d2) s = absurd (omega (arith, rank_open_bracket t h1))
no_steps (call a b f g t args ts mid rest h1 d1 d2) s = absurd (omega (arith, rank_open t h1))

function_no_name : {all : List Token} {g : _} {rest : List Token} → ReadsFunction all g rest → (t : Token) (ts : List Token) (x : List ℕ) → all ≡ t ∷ ts → IsName x t → ⊥
function_no_name (function u us mid rest s items h1 h2 d1) t ts x e hx = word_not_name word.Function x (kinds_meet _ _ e h1 hx)

pub head_no_name : {all : List Token} {xs : List (List ℕ)} (c : Token) (mid : List Token) → ReadsArrowHead all xs (c ∷ mid) → (t : Token) (ts : List Token) (x : List ℕ)
    → all ≡ t ∷ ts → IsName x t → c ∷ mid ≡ ts
head_no_name c mid (one_param u us y h) t ts x e hx = same_rest e
head_no_name c mid (all_params us rest xs (params u vs r ys h d)) t ts x e hx = absurd (mark_not_name mark.OpenParenthesis x (kinds_meet _ _ e h hx))

pub after_name_is : {r : Rule} {all : List Token} {a : Expr} {f : Form} {rest : List Token} → Reads r all a f rest → (t : Token) (ts : List Token) (x : List ℕ) → all ≡ t ∷ ts
    → IsName x t → Ranked (reach r) ts → rest ≡ ts
after_name_is (arrow all mid rest u xs b f h1 h2 h3 d1) t ts x e hx s =
    let m : u ∷ mid ≡ ts = head_no_name u mid h1 t ts x e hx in let w : Ranked 17 (u ∷ mid) = subst (Ranked 17) (sym m) s in
    absurd (omega (arith, rank_arrow u h2 h3))
after_name_is (assigned all mid rest u op a b f d1 h1 d2) t ts x e hx s =
    let m : u ∷ mid ≡ ts = after_name_is d1 t ts x e hx (ranked_less 17 1 ts (omega arith) s) in let w : Ranked 17 (u ∷ mid) = subst (Ranked 17) (sym m) s in
    absurd (omega (arith, rank_assign u op h1))
after_name_is (unassigned all rest a f d1) t ts x e hx s = after_name_is d1 t ts x e hx s
after_name_is (chosen all next second rest q c a b d f g h d1 h1 d2 h2 d3) t ts x e hx s =
    let m : q ∷ next ≡ ts = after_name_is d1 t ts x e hx (ranked_less 17 14 ts (omega arith) s) in let w : Ranked 17 (q ∷ next) = subst (Ranked 17) (sym m) s in
    absurd (omega (arith, rank_question q h1))
after_name_is (unchosen all rest a f d1) t ts x e hx s = after_name_is d1 t ts x e hx (ranked_less 17 14 ts (omega arith) s)
after_name_is (disjoined all rest a f d1) t ts x e hx s = after_name_is d1 t ts x e hx (ranked_less 14 13 ts (omega arith) s)
after_name_is (coalesced all mid rest one a f g d1 d2) t ts x e hx s =
    let m : mid ≡ ts = after_name_is d1 t ts x e hx (ranked_less 14 11 ts (omega arith) s) in none_continues d2 (subst (Ranked 14) (sym m) s) ∙ m
after_name_is (operands k all mid rest one a f g d1 d2) t ts x e hx s =
    let m : mid ≡ ts = after_name_is d1 t ts x e hx (ranked_less (k + 4) (reach (tighter k)) ts (omega (arith, reach_tighter k)) s) in
    none_continues d2 (subst (Ranked ((k + 3) + 1)) (sym m) (ranked_less (k + 4) ((k + 3) + 1) ts (omega arith) s)) ∙ m
after_name_is (unraised all rest a f d1) t ts x e hx s = after_name_is d1 t ts x e hx (ranked_less 3 2 ts (omega arith) s)
after_name_is (raised all mid rest u a b f g d1 h1 d2) t ts x e hx s =
    let m : u ∷ mid ≡ ts = after_name_is d1 t ts x e hx (ranked_less 3 2 ts (omega arith) s) in let w : Ranked 3 (u ∷ mid) = subst (Ranked 3) (sym m) s in
    absurd (omega (arith, rank_star_star u h1))
after_name_is (signed u us rest op a f h1 d1) t ts x e hx s = absurd (sign_not_name u.kind op x h1 (kinds_meet u.kind _ e refl hx))
after_name_is (unsigned all rest a f d1) t ts x e hx s = after_name_is d1 t ts x e hx s
after_name_is (counted_before u us rest op a h1 d1) t ts x e hx s = absurd (count_not_name u.kind op x h1 (kinds_meet u.kind _ e refl hx))
after_name_is (counted_behind all rest u op a d1 h1 h2) t ts x e hx s =
    let m : u ∷ rest ≡ ts = after_name_is d1 t ts x e hx (ranked_less 2 1 ts (omega arith) s) in let w : Ranked 2 (u ∷ rest) = subst (Ranked 2) (sym m) s in
    absurd (omega (arith, rank_update u op h1 h2))
after_name_is (uncounted all rest a f d1) t ts x e hx s = after_name_is d1 t ts x e hx (ranked_less 2 1 ts (omega arith) s)
after_name_is (steps all mid rest one a f g d1 d2) t ts x e hx s =
    let m : mid ≡ ts = after_name_is d1 t ts x e hx (ranked_less 1 0 ts (omega arith) s) in no_steps d2 (subst (Ranked 1) (sym m) s) ∙ m
after_name_is (literal u us a h1) t ts x e hx s = absurd (literal_not_name u.kind a x h1 (kinds_meet u.kind _ e refl hx))
after_name_is (name u us y h1) t ts x e hx s = same_rest e
after_name_is (viewof_name u n us y h1 h2) t ts x e hx s = absurd (word_not_name word.Viewof x (kinds_meet _ _ e h1 hx))
after_name_is (made u n p us rest y args h1 h2 h3 d1) t ts x e hx s = absurd (word_not_name word.New x (kinds_meet _ _ e h1 hx))
after_name_is (parentheses u c us rest a f h1 d1 h2) t ts x e hx s = absurd (mark_not_name mark.OpenParenthesis x (kinds_meet _ _ e h1 hx))
after_name_is (array u us rest items h1 d1) t ts x e hx s = absurd (mark_not_name mark.OpenBracket x (kinds_meet _ _ e h1 hx))
after_name_is (object u us rest props h1 d1) t ts x e hx s = absurd (mark_not_name mark.OpenBrace x (kinds_meet _ _ e h1 hx))
after_name_is (function_expression all rest g d1) t ts x e hx s = absurd (function_no_name d1 t ts x e hx)

-- ---- what stands in parentheses and reads as names is one name

abbrev rest_of : Read (List (List ℕ)) → List Token
rest_of None = []
rest_of (Some p) = p.1

begins_no_close : (t : Token) (ts : List Token) → First begins (t ∷ ts) → closes_parenthesis t.kind ≡ true → ⊥
begins_no_close t ts p h =
    let n = begins_not_closes_parenthesis p.token.kind p.passes in let q = ap (λ (v : Token). closes_parenthesis v.kind) (same_token p.is) in cc

by_close : (t : Token) (ts : List Token) → First begins (t ∷ ts) → (b : Bool) → closes_parenthesis t.kind ≡ b → (v : List (List ℕ) × List Token)
    → cond b (Some ([], ts)) None ≡ Some v → ⊥
by_close t ts p true h v e = begins_no_close t ts p h
by_close t ts p false h v e = cc

by_comma : (t u : Token) (us rest : List Token) (a : Expr) (f : Form) (c : Token) (x : List ℕ) → Reads whole (t ∷ u ∷ us) a f (c ∷ rest) → IsMark mark.CloseParenthesis c
    → IsName x t → (b : Bool) → is_comma u.kind ≡ b → (more : Read (List (List ℕ))) (v : List (List ℕ) × List Token) → cond b more None ≡ Some v → ⊥
by_comma t u us rest a f c x d hc ht true hu more v e =
    let m = comma_from u.kind hu in
    let q : c ∷ rest ≡ u ∷ us = after_name_is d t (u ∷ us) x refl ht (omega (arith, rank_comma u m)) in
    comma_not_close (sym (kinds_meet _ _ q hc m))
by_comma t u us rest a f c x d hc ht false hu more v e = cc

by_end : (t u : Token) (us rest : List Token) (a : Expr) (f : Form) (c : Token) (x : List ℕ) → Reads whole (t ∷ u ∷ us) a f (c ∷ rest) → IsMark mark.CloseParenthesis c
    → IsName x t → (b : Bool) → closes_parenthesis u.kind ≡ b → (more : Read (List (List ℕ))) (v : List (List ℕ) × List Token)
    → cond b (Some (x ∷ [], us)) (cond (is_comma u.kind) more None) ≡ Some v → rest ≡ v.1
by_end t u us rest a f c x d hc ht true hu more v e =
    let q : c ∷ rest ≡ u ∷ us = after_name_is d t (u ∷ us) x refl ht (omega (arith, rank_close u (close_from u.kind hu))) in
    same_rest q ∙ ap rest_of e
by_end t u us rest a f c x d hc ht false hu more v e = absurd (by_comma t u us rest a f c x d hc ht (is_comma u.kind) refl more v e)

after_is : (t : Token) (ts rest : List Token) (a : Expr) (f : Form) (c : Token) (x : List ℕ) → Reads whole (t ∷ ts) a f (c ∷ rest) → IsMark mark.CloseParenthesis c
    → IsName x t → (v : List (List ℕ) × List Token) → names_after x ts ≡ Some v → rest ≡ v.1
unfolding names_after
after_is t [] rest a f c x d hc ht v e = cc
after_is t (u ∷ us) rest a f c x d hc ht v e = by_end t u us rest a f c x d hc ht (closes_parenthesis u.kind) refl (mapped (λ xs. x ∷ xs) (names us)) v e

by_name : (t : Token) (ts rest : List Token) (a : Expr) (f : Form) (c : Token) → Reads whole (t ∷ ts) a f (c ∷ rest) → IsMark mark.CloseParenthesis c
    → (o : Option (List ℕ)) → name_of t.kind ≡ o → (v : List (List ℕ) × List Token) → first_name o t.kind ts (λ x. names_after x ts) ≡ Some v → rest ≡ v.1
by_name t ts rest a f c d hc (Some x) h v e = after_is t ts rest a f c x d hc (name_from t.kind x h) v e
by_name t ts rest a f c d hc None h v e = absurd (by_close t ts (first d) (closes_parenthesis t.kind) refl v e)

in_parentheses : (ts rest : List Token) (a : Expr) (f : Form) (c : Token) → Reads whole ts a f (c ∷ rest) → IsMark mark.CloseParenthesis c
    → (v : List (List ℕ) × List Token) → names ts ≡ Some v → rest ≡ v.1
unfolding names
in_parentheses [] rest a f c d hc v e = cc
in_parentheses (t ∷ ts) rest a f c d hc v e = by_name t ts rest a f c d hc (name_of t.kind) refl v e

-- ---- what begins an arrow function is no operand

record Follows (rest body : List Token) : Type 0 where
  token : Token
  is : rest ≡ token ∷ body
  kind : IsMark mark.Arrow token
  line : SameLine token

follows_rank : {rest body : List Token} (p : Follows rest body) → rank p.token ≡ 16
follows_rank p = rank_arrow p.token p.kind p.line

-- a token of another rank does not
not_follows : (t : Token) (ts body : List Token) → Follows (t ∷ ts) body → (rank t ≡ 16 → ⊥) → ⊥
not_follows t ts body p h = h (ranks_meet p.is ∙ follows_rank p)

and_parts : (x y : Bool) → (x && not y) ≡ true → (x ≡ true) × (y ≡ false)
and_parts true true h = cc
and_parts true false h = (refl, refl)
and_parts false y h = cc

arrow_by : (xs : List (List ℕ)) (t : Token) (ts : List Token) (p : List (List ℕ) × List Token) (b : Bool) → (is_arrow t.kind && not t.break_before) ≡ b
    → option_map (λ rest. (xs, rest)) (cond b (Some ts) None) ≡ Some p → Follows (t ∷ ts) p.1
arrow_by xs t ts p true h e = let q = and_parts (is_arrow t.kind) t.break_before h in
    record { token = t; is = ap (λ us. t ∷ us) (ap rest_of e); kind = arrow_from t.kind q.0; line = q.1 }
arrow_by xs t ts p false h e = cc

arrow_follows : (xs : List (List ℕ)) (ts : List Token) (p : List (List ℕ) × List Token) → with_arrow xs ts ≡ Some p → Follows ts p.1
unfolding arrow_sign
arrow_follows xs [] p h = cc
arrow_follows xs (t ∷ ts) p h = arrow_by xs t ts p (is_arrow t.kind && not t.break_before) refl h

-- each first token on its own
head_off : (t : Token) (ts : List Token) → name_of t.kind ≡ None → opens_parenthesis t.kind ≡ false → arrow_head (t ∷ ts) ≡ None
unfolding arrow_head
head_off t ts n o = ap (λ x. head_by x t.kind ts) n ∙ ap (λ b. cond b (names ts >>= with_arrow) None) o

head_at_mark : (t : Token) (ts : List Token) (m : Punctuator) → IsMark m t → opens_parenthesis (kind.Punctuator m) ≡ false → arrow_head (t ∷ ts) ≡ None
unfolding name_of
head_at_mark t ts m h o = head_off t ts (ap name_of h) (ap opens_parenthesis h ∙ o)

head_at_word : (t : Token) (ts : List Token) (w : ReservedWord) → IsWord w t → arrow_head (t ∷ ts) ≡ None
unfolding name_of opens_parenthesis
head_at_word t ts w h = head_off t ts (ap name_of h) (ap opens_parenthesis h)

head_at_bracket : (t : Token) (ts : List Token) → IsMark mark.OpenBracket t → arrow_head (t ∷ ts) ≡ None
unfolding opens_parenthesis
head_at_bracket t ts h = head_at_mark t ts mark.OpenBracket h refl

head_at_brace : (t : Token) (ts : List Token) → IsMark mark.OpenBrace t → arrow_head (t ∷ ts) ≡ None
unfolding opens_parenthesis
head_at_brace t ts h = head_at_mark t ts mark.OpenBrace h refl

head_at_name : (t : Token) (ts : List Token) (x : List ℕ) → IsName x t → arrow_head (t ∷ ts) ≡ with_arrow (x ∷ []) ts
unfolding arrow_head name_of
head_at_name t ts x h = ap (λ k. head_by (name_of k) k ts) h

head_at_open : (t : Token) (ts : List Token) → IsMark mark.OpenParenthesis t → arrow_head (t ∷ ts) ≡ (names ts >>= with_arrow)
unfolding arrow_head name_of opens_parenthesis
head_at_open t ts h = ap (λ k. head_by (name_of k) k ts) h

literal_no_name : (k : TokenKind) (a : Expr) → literal_of k ≡ Some a → name_of k ≡ None
unfolding literal_of name_of
literal_no_name (kind.Name x) a h = cc
literal_no_name _ a h = refl

literal_no_open : (k : TokenKind) (a : Expr) → literal_of k ≡ Some a → opens_parenthesis k ≡ false
unfolding literal_of opens_parenthesis
literal_no_open (kind.Punctuator mark.OpenParenthesis) a h = cc
literal_no_open _ a h = refl

sign_no_name : (k : TokenKind) (op : UnaryOp) → unary_of k ≡ Some op → name_of k ≡ None
unfolding unary_of name_of
sign_no_name (kind.Name x) op h = cc
sign_no_name _ op h = refl

sign_no_open : (k : TokenKind) (op : UnaryOp) → unary_of k ≡ Some op → opens_parenthesis k ≡ false
unfolding unary_of opens_parenthesis
sign_no_open (kind.Punctuator mark.OpenParenthesis) op h = cc
sign_no_open _ op h = refl

count_no_name : (k : TokenKind) (op : UpdateOp) → update_of k ≡ Some op → name_of k ≡ None
unfolding update_of name_of
count_no_name (kind.Name x) op h = cc
count_no_name _ op h = refl

count_no_open : (k : TokenKind) (op : UpdateOp) → update_of k ≡ Some op → opens_parenthesis k ≡ false
unfolding update_of opens_parenthesis
count_no_open (kind.Punctuator mark.OpenParenthesis) op h = cc
count_no_open _ op h = refl

none_some : {A : Type 0} (r : Option A) (p : A) → r ≡ None → r ≡ Some p → ⊥
none_some r p h e = cc

head_in_parentheses : (ts rest : List Token) (a : Expr) (f : Form) (c : Token) (p : List (List ℕ) × List Token) → Reads whole ts a f (c ∷ rest) → IsMark mark.CloseParenthesis c
    → (r : Read (List (List ℕ))) → names ts ≡ r → (r >>= with_arrow) ≡ Some p → Follows rest p.1
head_in_parentheses ts rest a f c p d hc None e h = cc
head_in_parentheses ts rest a f c p d hc (Some q) e h = subst (λ (us : List Token). Follows us p.1) (sym (in_parentheses ts rest a f c d hc q e)) (arrow_follows q.0 q.1 p h)

follows_chain : {r : Rule} {n : ℕ} {a : Expr} {f : Form} {ts : List Token} {b : Expr} {g : Form} {rest : List Token} → Continues r n a f ts b g rest → n ≤ 15
    → (body : List Token) → Follows ts body → Follows rest body
follows_chain (no_more r n a f ts) le body p = p
follows_chain (goes_on r n a b c f g h t ts mid rest op h1 h2 d1 d2) le body p = absurd (not_follows t ts body p (λ e. omega (arith, h1)))

follows_steps : {a : Expr} {f : Form} {ts : List Token} {b : Expr} {g : Form} {rest : List Token} → Steps a f ts b g rest
    → (body : List Token) → Follows ts body → Follows rest body
follows_steps (no_step a f ts) body p = p
follows_steps (member a b f g t n x ts rest h1 h2 d1) body p = absurd (not_follows t (n ∷ ts) body p (λ e. omega (arith, rank_dot t h1)))
follows_steps (index a b k f g h t c ts mid rest h1 d1 h2 d2) body p = absurd (not_follows t ts body p (λ e. omega (arith, rank_open_bracket t h1)))
follows_steps (call a b f g t args ts mid rest h1 d1 d2) body p = absurd (not_follows t ts body p (λ e. omega (arith, rank_open t h1)))

head_at_function : {ts : List Token} {g : _} {rest : List Token} → ReadsFunction ts g rest → arrow_head ts ≡ None
head_at_function (function t ts mid rest s items h1 h2 d1) = head_at_word t ts word.Function h1

after_head : {r : Rule} {ts : List Token} {a : Expr} {f : Form} {rest : List Token} → Reads r ts a f rest → reach r ≤ 14 → (p : List (List ℕ) × List Token)
    → arrow_head ts ≡ Some p → Follows rest p.1
after_head (arrow ts mid rest t xs b f h1 h2 h3 d1) le p e = absurd (omega arith)
after_head (assigned ts mid rest t op a b f d1 h1 d2) le p e = absurd (omega arith)
after_head (unassigned ts rest a f d1) le p e = absurd (omega arith)
after_head (chosen ts next second rest q c a b d f g h d1 h1 d2 h2 d3) le p e = absurd (omega arith)
after_head (unchosen ts rest a f d1) le p e = absurd (omega arith)
after_head (disjoined ts rest a f d1) le p e = after_head d1 (omega arith) p e
after_head (coalesced ts mid rest one a f g d1 d2) le p e = follows_chain d2 (omega arith) p.1 (after_head d1 (omega arith) p e)
after_head (operands k ts mid rest one a f g d1 d2) le p e = follows_chain d2 (omega arith) p.1 (after_head d1 (omega (arith, reach_tighter k)) p e)
after_head (unraised ts rest a f d1) le p e = after_head d1 (omega arith) p e
after_head (raised ts mid rest t a b f g d1 h1 d2) le p e = absurd (not_follows t mid p.1 (after_head d1 (omega arith) p e) (λ w. omega (arith, rank_star_star t h1)))
after_head (signed t ts rest op a f h1 d1) le p e = absurd (none_some _ p (head_off t ts (sign_no_name t.kind op h1) (sign_no_open t.kind op h1)) e)
after_head (unsigned ts rest a f d1) le p e = after_head d1 (omega arith) p e
after_head (counted_before t ts rest op a h1 d1) le p e = absurd (none_some _ p (head_off t ts (count_no_name t.kind op h1) (count_no_open t.kind op h1)) e)
after_head (counted_behind ts rest t op a d1 h1 h2) le p e = absurd (not_follows t rest p.1 (after_head d1 (omega arith) p e) (λ w. omega (arith, rank_update t op h1 h2)))
after_head (uncounted ts rest a f d1) le p e = after_head d1 (omega arith) p e
after_head (steps ts mid rest one a f g d1 d2) le p e = follows_steps d2 p.1 (after_head d1 (omega arith) p e)
after_head (literal t ts a h1) le p e = absurd (none_some _ p (head_off t ts (literal_no_name t.kind a h1) (literal_no_open t.kind a h1)) e)
after_head (name t ts x h1) le p e = arrow_follows (x ∷ []) ts p (sym (head_at_name t ts x h1) ∙ e)
after_head (viewof_name t n ts x h1 h2) le p e = absurd (none_some _ p (head_at_word t (n ∷ ts) word.Viewof h1) e)
after_head (made t n q ts rest x args h1 h2 h3 d1) le p e = absurd (none_some _ p (head_at_word t (n ∷ q ∷ ts) word.New h1) e)
after_head (parentheses t c ts rest a f h1 d1 h2) le p e = head_in_parentheses ts rest a f c p d1 h2 (names ts) refl (sym (head_at_open t ts h1) ∙ e)
after_head (array t ts rest items h1 d1) le p e = absurd (none_some _ p (head_at_bracket t ts h1) e)
after_head (object t ts rest props h1 d1) le p e = absurd (none_some _ p (head_at_brace t ts h1) e)
after_head (function_expression ts rest g d1) le p e = absurd (none_some _ p (head_at_function d1) e)

pub none_unless : {A : Type 0} (r : Option A) → ((p : A) → r ≡ Some p → ⊥) → r ≡ None
none_unless None h = refl
none_unless (Some p) h = absurd (h p refl)

-- no head stands before an operand that another token follows
pub no_head_before : {r : Rule} {ts : List Token} {a : Expr} {f : Form} {mid : List Token} (t : Token) → Reads r ts a f (t ∷ mid) → reach r ≤ 14 → (rank t ≡ 16 → ⊥)
    → arrow_head ts ≡ None
no_head_before {ts = ts} {mid = mid} t d le n = none_unless (arrow_head ts) (λ p e. not_follows t mid p.1 (after_head d le p e) n)

no_arrow_after : (f : Form) (rest body : List Token) → IsValue f → Stops f 17 rest → Follows rest body → ⊥
no_arrow_after f [] body v s p = let q = p.is in cc
no_arrow_after f (t ∷ ts) body v s p = not_follows t ts body p (λ e. value_rank f 17 16 t v s (omega arith) (omega arith) e)

pub no_head : {ts : List Token} {a : Expr} {f : Form} {rest : List Token} → Reads conditional ts a f rest → Stops f 17 rest → arrow_head ts ≡ None
no_head (chosen ts next second rest q c a b d f g h d1 h1 d2 h2 d3) s = no_head_before q d1 (omega arith) (λ e. omega (arith, rank_question q h1))
no_head (unchosen ts rest a f d1) s = none_unless (arrow_head ts) (λ p e. no_arrow_after f rest p.1 (operand_value f (fits d1)) s (after_head d1 (omega arith) p e))
