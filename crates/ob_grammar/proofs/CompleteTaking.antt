-- What single tokens and the heads of functions give, taken by the descent.
use Rattle.std.proofs.Common.{◌≡◌, ℕ, List, [], ◌∷◌, Bool, true, false, Option, Some, None, option_and_then, option_map, ap, ◌∙◌, cond, ◌&&◌, not}
use Rattle.ob_lex.specs.declared.punctuator.Punctuator.{Punctuator}
use Rattle.ob_lex.specs.declared.punctuator.Punctuator.TheVariants as mark
use Rattle.ob_lex.specs.declared.token.Token.{Token}
use Rattle.ob_lex.specs.declared.token.TokenKind.{TokenKind}
use Rattle.ob_lex.specs.declared.token.TokenKind.TheVariants as kind
use Rattle.ob_grammar.specs.Marks.{IsMark, IsName, SameLine}
use Rattle.ob_grammar.specs.declared.piece.Signature.{Signature}
use Rattle.ob_grammar.specs.Lists.{ReadsNames, no_names, last_name, more_names, ReadsParams, params, ReadsArrowHead, one_param, all_params, star, no_star, ReadsOwnName, own_name, no_name, ReadsSignature, signature}
use Rattle.ob_grammar.specs.Taking.{Read, Parser, ◌>>=◌, mapped, opens_parenthesis, closes_parenthesis, is_comma, is_star, is_arrow, name_of, take, next_is, before, one, after_name, first_name, names, names_after, if_taken, parameters, arrow_sign, with_arrow, head_by, arrow_head, signature_by, after_star, signature_of}
use Rattle.ob_grammar.proofs.Tests.{opens_parenthesis_on, is_star_on}

-- ---- readings in a row

pub then_is : {A B : Type 0} (r : Read A) (x : A) (ts : List Token) (g : A × List Token → Read B) → r ≡ Some (x, ts) → option_and_then g r ≡ g (x, ts)
then_is r x ts g h = ap (option_and_then g) h

-- ---- single tokens

pub take_on : (test : TokenKind → Bool) (t : Token) (ts : List Token) → test t.kind ≡ true → take test (t ∷ ts) ≡ Some ts
unfolding take
take_on test t ts h = ap (λ b. cond b (Some ts) None) h

pub take_off : (test : TokenKind → Bool) (t : Token) (ts : List Token) → test t.kind ≡ false → take test (t ∷ ts) ≡ None
unfolding take
take_off test t ts h = ap (λ b. cond b (Some ts) None) h

pub next_on : (test : TokenKind → Bool) (t : Token) (ts : List Token) (b : Bool) → test t.kind ≡ b → next_is test (t ∷ ts) ≡ b
unfolding next_is
next_on test t ts b h = h

pub before_on : {A : Type 0} (test : TokenKind → Bool) (a : A) (t : Token) (ts : List Token) → test t.kind ≡ true → before test a (t ∷ ts) ≡ Some (a, ts)
before_on test a t ts h = ap (option_map (λ rest. (a, rest))) (take_on test t ts h)

pub one_on : {A : Type 0} (value : TokenKind → Option A) (a : A) (t : Token) (ts : List Token) → value t.kind ≡ Some a → one value (t ∷ ts) ≡ Some (a, ts)
unfolding one
one_on value a t ts h = ap (option_map (λ a. (a, ts))) h

pub one_off : {A : Type 0} (value : TokenKind → Option A) (t : Token) (ts : List Token) → value t.kind ≡ None → one value (t ∷ ts) ≡ None
unfolding one
one_off value t ts h = ap (option_map (λ a. (a, ts))) h

pub taken : {A : Type 0} (test : TokenKind → Bool) (t : Token) (ts : List Token) (f : Parser A) → test t.kind ≡ true → if_taken (take test (t ∷ ts)) f ≡ f ts
taken test t ts f h = ap (λ o. if_taken o f) (take_on test t ts h)

pub name_on : (t : Token) (x : List ℕ) → IsName x t → name_of t.kind ≡ Some x
unfolding name_of
name_on t x h = ap name_of h

pub mark_no_name : (t : Token) (m : Punctuator) → IsMark m t → name_of t.kind ≡ None
unfolding name_of
mark_no_name t m h = ap name_of h

-- ---- names and parameters

pub names_complete : {ts : List Token} {xs : List (List ℕ)} {rest : List Token} → ReadsNames ts xs rest → names ts ≡ Some (xs, rest)
unfolding names names_after name_of closes_parenthesis is_comma
names_complete (no_names t ts h) = ap (λ k. first_name (name_of k) k ts (λ x. names_after x ts)) h
names_complete (last_name t c ts x h hc) = ap (λ k. first_name (name_of k) k (c ∷ ts) (λ x. names_after x (c ∷ ts))) h ∙ ap (λ k. after_name x k ts (names ts)) hc
names_complete (more_names t c ts rest x xs h hc d) = ap (λ k. first_name (name_of k) k (c ∷ ts) (λ x. names_after x (c ∷ ts))) h
    ∙ ap (λ k. after_name x k ts (names ts)) hc ∙ ap (mapped (λ xs. x ∷ xs)) (names_complete d)

pub parameters_complete : {ts : List Token} {xs : List (List ℕ)} {rest : List Token} → ReadsParams ts xs rest → parameters ts ≡ Some (xs, rest)
unfolding parameters
parameters_complete (params t ts rest xs h d) = taken opens_parenthesis t ts names (opens_parenthesis_on t.kind h) ∙ names_complete d

pub arrow_sign_on : (t : Token) (ts : List Token) → IsMark mark.Arrow t → SameLine t → arrow_sign (t ∷ ts) ≡ Some ts
unfolding arrow_sign is_arrow
arrow_sign_on t ts h s = ap (λ k. cond (is_arrow k && not t.break_before) (Some ts) None) h ∙ ap (λ b. cond (not b) (Some ts) None) s

pub head_complete : {ts : List Token} {xs : List (List ℕ)} (t : Token) (mid : List Token) → ReadsArrowHead ts xs (t ∷ mid) → IsMark mark.Arrow t → SameLine t
    → arrow_head ts ≡ Some (xs, mid)
unfolding arrow_head name_of opens_parenthesis
head_complete t mid (one_param n ts x h) ha hs = ap (λ k. head_by (name_of k) k (t ∷ mid)) h ∙ ap (option_map (λ rest. (x ∷ [], rest))) (arrow_sign_on t mid ha hs)
head_complete t mid (all_params ts rest xs (params p us r ys hp d)) ha hs = ap (λ k. head_by (name_of k) k us) hp
    ∙ ap (λ r. r >>= with_arrow) (names_complete d) ∙ ap (option_map (λ rest. (ys, rest))) (arrow_sign_on t mid ha hs)

-- ---- what stands between `function` and the block

params_no_name : {ts : List Token} {xs : List (List ℕ)} {rest : List Token} → ReadsParams ts xs rest → one name_of ts ≡ None
params_no_name (params t ts rest xs h d) = one_off name_of t ts (mark_no_name t mark.OpenParenthesis h)

open_no_star : (k : TokenKind) → k ≡ kind.Punctuator mark.OpenParenthesis → is_star k ≡ false
unfolding is_star
open_no_star k h = ap is_star h

name_no_star : (k : TokenKind) (x : List ℕ) → k ≡ kind.Name x → is_star k ≡ false
unfolding is_star
name_no_star k x h = ap is_star h

params_no_star : {ts : List Token} {xs : List (List ℕ)} {rest : List Token} → ReadsParams ts xs rest → take is_star ts ≡ None
params_no_star (params t ts rest xs h d) = take_off is_star t ts (open_no_star t.kind h)

no_star_after : {named : List Token} {x : Option (List ℕ)} {list rest : List Token} {xs : List (List ℕ)} → ReadsOwnName named x list → ReadsParams list xs rest
    → take is_star named ≡ None
no_star_after (own_name t ts x h) d = take_off is_star t ts (name_no_star t.kind x h)
no_star_after (no_name ts) d = params_no_star d

abbrev signed_as : Bool → Option (List ℕ) → List (List ℕ) → Signature
signed_as g x xs = record { generator = g; name = x; params = xs }

after_own : (g : Bool) {named : List Token} {x : Option (List ℕ)} {list rest : List Token} {xs : List (List ℕ)} → ReadsOwnName named x list → ReadsParams list xs rest
    → signature_by g (one name_of named) named ≡ Some (signed_as g x xs, rest)
after_own g {xs = xs} (own_name t ts x h) d = ap (λ o. signature_by g o (t ∷ ts)) (one_on name_of x t ts (name_on t x h))
    ∙ ap (mapped (signed_as g (Some x))) (parameters_complete d)
after_own g {xs = xs} (no_name ts) d = ap (λ o. signature_by g o ts) (params_no_name d) ∙ ap (mapped (signed_as g None)) (parameters_complete d)

pub signature_complete : {ts : List Token} {s : Signature} {rest : List Token} → ReadsSignature ts s rest → signature_of ts ≡ Some (s, rest)
unfolding signature_of
signature_complete (signature ts named list rest g x xs (star t us h) b c) = ap (λ o. after_star o (t ∷ us)) (take_on is_star t us (is_star_on t.kind h)) ∙ after_own true b c
signature_complete (signature ts named list rest g x xs (no_star us) b c) = ap (λ o. after_star o us) (no_star_after b c) ∙ after_own false b c
