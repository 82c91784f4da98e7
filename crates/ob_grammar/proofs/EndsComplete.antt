-- The end of a statement is read exactly where one stands.
use Rattle.std.proofs.Common.{◌≡◌, ℕ, ◌≤◌, ◌⊎◌, inl, inr, List, [], ◌∷◌, Bool, true, false, Option, Some, None, refl, subst, ap, ◌∙◌, cond, ◌&&◌, ◌||◌, nat_le, arith}
use Rattle.std.proofs.lemmas.Bool.{le-leb, leb-true, or_left, or_right, and_from}
use Rattle.ob_lex.specs.declared.punctuator.Punctuator.TheVariants as mark
use Rattle.ob_lex.specs.declared.token.Token.{Token}
use Rattle.ob_lex.specs.declared.token.TokenKind.{TokenKind}
use Rattle.ob_lex.specs.declared.token.TokenKind.TheVariants as kind
use Rattle.ob_grammar.specs.Marks.{IsMark, rank}
use Rattle.ob_grammar.specs.declared.form.Form.{Form}
use Rattle.ob_grammar.specs.declared.form.Form.TheVariants.{Target, Other, Updated, Closed, Bare}
use Rattle.ob_grammar.specs.Forms.{ends_value, NoValue, Quiet, Stops, Ends, written, before_brace, at_end, at_line}
use Rattle.ob_grammar.specs.Taking.{is_semicolon, closes_brace, is_quiet, line_end, end_of}
use Rattle.ob_grammar.proofs.Statements.{EndsAreComplete}
use Rattle.ob_grammar.proofs.Stopping.{any_rank, less, rank_semicolon, rank_close_brace}
use Rattle.ob_grammar.proofs.Tests.{is_semicolon_on, is_semicolon_off, closes_brace_on}

or_of : (x y : Bool) → (x ≡ true) ⊎ (y ≡ true) → (x || y) ≡ true
or_of x y (inl h) = or_left x y h
or_of x y (inr h) = or_right x y h

of_or : (x y : Bool) → (x || y) ≡ true → (x ≡ true) ⊎ (y ≡ true)
of_or true y h = inl refl
of_or false y h = inr h

of_and : (x y : Bool) → (x && y) ≡ true → (x ≡ true) × (y ≡ true)
of_and true y h = (refl, h)
of_and false y h = cc

le_test : (n r : ℕ) → nat_le n r ≡ true → n ≤ r
le_test n r h = leb-true n r h

pub no_value_test : (t : Token) → NoValue t → (t.break_before || ends_value t.kind) ≡ true
no_value_test t v = or_of t.break_before (ends_value t.kind) v

either_test : (n r m : ℕ) → (n ≤ r) ⊎ (r ≤ m) → (nat_le n r || nat_le r m) ≡ true
either_test n r m (inl h) = or_left (nat_le n r) (nat_le r m) (le-leb n r h)
either_test n r m (inr h) = or_right (nat_le n r) (nat_le r m) (le-leb r m h)

of_either : (n r m : ℕ) → (nat_le n r || nat_le r m) ≡ true → (n ≤ r) ⊎ (r ≤ m)
of_either n r m h = go (of_or (nat_le n r) (nat_le r m) h)
  where
    go : (nat_le n r ≡ true) ⊎ (nat_le r m ≡ true) → (n ≤ r) ⊎ (r ≤ m)
    go (inl e) = inl (le_test n r e)
    go (inr e) = inr (le_test r m e)

quiet_test : (f : Form) (n : ℕ) (t : Token) → Quiet f n t → is_quiet f n t ≡ true
unfolding is_quiet
quiet_test Target n t s = le-leb n (rank t) s
quiet_test Other n t s = le-leb n (rank t) s
quiet_test Updated n t s = either_test n (rank t) 1 s
quiet_test Closed n t s = either_test n (rank t) 14 s
quiet_test Bare n t (v, s) = and_from (t.break_before || ends_value t.kind) (nat_le n (rank t) || nat_le (rank t) 16) (no_value_test t v) (either_test n (rank t) 16 s)

test_quiet : (f : Form) (n : ℕ) (t : Token) → is_quiet f n t ≡ true → Quiet f n t
unfolding is_quiet
test_quiet Target n t h = le_test n (rank t) h
test_quiet Other n t h = le_test n (rank t) h
test_quiet Updated n t h = of_either n (rank t) 1 h
test_quiet Closed n t h = of_either n (rank t) 14 h
test_quiet Bare n t h =
    let p = of_and (t.break_before || ends_value t.kind) (nat_le n (rank t) || nat_le (rank t) 16) h in
    (of_or t.break_before (ends_value t.kind) p.0, of_either n (rank t) 16 p.1)

semicolon_on : (f : Form) (t : Token) (ts : List Token) → IsMark mark.Semicolon t → end_of f (t ∷ ts) ≡ Some ts
unfolding end_of
semicolon_on f t ts h = ap (λ b. cond b (Some ts) (cond (closes_brace t.kind) (Some (t ∷ ts)) (line_end f t ts))) (is_semicolon_on t.kind h)

brace_no_semicolon : (k : TokenKind) → k ≡ kind.Punctuator mark.CloseBrace → is_semicolon k ≡ false
unfolding is_semicolon
brace_no_semicolon k h = ap is_semicolon h

brace_on : (f : Form) (t : Token) (ts : List Token) → IsMark mark.CloseBrace t → end_of f (t ∷ ts) ≡ Some (t ∷ ts)
unfolding end_of
brace_on f t ts h = ap (λ b. cond b (Some ts) (cond (closes_brace t.kind) (Some (t ∷ ts)) (line_end f t ts))) (brace_no_semicolon t.kind h)
    ∙ ap (λ b. cond b (Some (t ∷ ts)) (line_end f t ts)) (closes_brace_on t.kind h)

line_on : (f : Form) (t : Token) (ts : List Token) → t.break_before ≡ true → Quiet f 19 t → line_end f t ts ≡ Some (t ∷ ts)
line_on f t ts h s = ap (λ b. cond b (Some (t ∷ ts)) None) (and_from t.break_before (is_quiet f 19 t) h (quiet_test f 19 t s))

either_brace : (b : Bool) (f : Form) (t : Token) (ts : List Token) → t.break_before ≡ true → Quiet f 19 t → cond b (Some (t ∷ ts)) (line_end f t ts) ≡ Some (t ∷ ts)
either_brace true f t ts h s = refl
either_brace false f t ts h s = line_on f t ts h s

line_is : (f : Form) (t : Token) (ts : List Token) → t.break_before ≡ true → Quiet f 19 t → end_of f (t ∷ ts) ≡ Some (t ∷ ts)
unfolding end_of
line_is f t ts h s = ap (λ b. cond b (Some ts) (cond (closes_brace t.kind) (Some (t ∷ ts)) (line_end f t ts)))
    (is_semicolon_off t.kind (λ e. any_rank f 19 18 t s (omega arith) (omega arith) (rank_semicolon t e)))
    ∙ either_brace (closes_brace t.kind) f t ts h s

pub end_is : {f : Form} {ts rest : List Token} → Ends f ts rest → end_of f ts ≡ Some rest
unfolding end_of
end_is {f} (written t ts h) = semicolon_on f t ts h
end_is {f} (before_brace t ts h) = brace_on f t ts h
end_is at_end = refl
end_is {f} (at_line t ts h s) = line_is f t ts h s

-- ---- and back

semicolon_of : (k : TokenKind) → is_semicolon k ≡ true → k ≡ kind.Punctuator mark.Semicolon
unfolding is_semicolon
semicolon_of (kind.Punctuator mark.Semicolon) h = refl
semicolon_of _ h = cc

brace_of : (k : TokenKind) → closes_brace k ≡ true → k ≡ kind.Punctuator mark.CloseBrace
unfolding closes_brace
brace_of (kind.Punctuator mark.CloseBrace) h = refl
brace_of _ h = cc

some_list : (a b : List Token) (o : Option (List Token)) → o ≡ Some a → o ≡ Some b → a ≡ b
some_list a b o e h = cc

by_line : (f : Form) (t : Token) (ts rest : List Token) (b : Bool) → (t.break_before && is_quiet f 19 t) ≡ b → cond b (Some (t ∷ ts)) None ≡ Some rest → Ends f (t ∷ ts) rest
by_line f t ts rest true e h = let p = of_and t.break_before (is_quiet f 19 t) e in
    subst (Ends f (t ∷ ts)) (some_list (t ∷ ts) rest _ refl h) (at_line t ts p.0 (test_quiet f 19 t p.1))
by_line f t ts rest false e h = cc

by_brace : (f : Form) (t : Token) (ts rest : List Token) (b : Bool) → closes_brace t.kind ≡ b → cond b (Some (t ∷ ts)) (line_end f t ts) ≡ Some rest → Ends f (t ∷ ts) rest
by_brace f t ts rest true e h = subst (Ends f (t ∷ ts)) (some_list (t ∷ ts) rest _ refl h) (before_brace t ts (brace_of t.kind e))
by_brace f t ts rest false e h = by_line f t ts rest (t.break_before && is_quiet f 19 t) refl h

by_semicolon : (f : Form) (t : Token) (ts rest : List Token) (b : Bool) → is_semicolon t.kind ≡ b
    → cond b (Some ts) (cond (closes_brace t.kind) (Some (t ∷ ts)) (line_end f t ts)) ≡ Some rest → Ends f (t ∷ ts) rest
by_semicolon f t ts rest true e h = subst (Ends f (t ∷ ts)) (some_list ts rest _ refl h) (written t ts (semicolon_of t.kind e))
by_semicolon f t ts rest false e h = by_brace f t ts rest (closes_brace t.kind) refl h

is_end : (f : Form) (ts rest : List Token) → end_of f ts ≡ Some rest → Ends f ts rest
unfolding end_of
is_end f [] rest h = subst (Ends f []) (some_list [] rest _ refl h) at_end
is_end f (t ∷ ts) rest h = by_semicolon f t ts rest (is_semicolon t.kind) refl h

pub ends_are_complete : EndsAreComplete
ends_are_complete f ts rest = (λ d. end_is d, λ h. is_end f ts rest h)

-- ---- what stands at an end goes on with nothing

-- behind a word with no value, too
pub quiet_end : (f : Form) (n : ℕ) (t : Token) → n ≤ rank t → ends_value t.kind ≡ true → Quiet f n t
quiet_end Target n t le h = le
quiet_end Other n t le h = le
quiet_end Updated n t le h = inl le
quiet_end Closed n t le h = inl le
quiet_end Bare n t le h = (inr h, inl le)

pub ends_semicolon : (t : Token) → IsMark mark.Semicolon t → ends_value t.kind ≡ true
unfolding ends_value
ends_semicolon t h = ap ends_value h

pub ends_comma : (t : Token) → IsMark mark.Comma t → ends_value t.kind ≡ true
unfolding ends_value
ends_comma t h = ap ends_value h

pub ends_brace : (t : Token) → IsMark mark.CloseBrace t → ends_value t.kind ≡ true
unfolding ends_value
ends_brace t h = ap ends_value h

pub end_stops : {f : Form} {ts rest : List Token} → Ends f ts rest → Stops f 18 ts
end_stops {f} (written t ts h) = quiet_end f 18 t (omega (arith, rank_semicolon t h)) (ends_semicolon t h)
end_stops {f} (before_brace t ts h) = quiet_end f 18 t (omega (arith, rank_close_brace t h)) (ends_brace t h)
end_stops at_end = tt
end_stops {f} (at_line t ts h s) = less f 19 18 (t ∷ ts) (omega arith) s
