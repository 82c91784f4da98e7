-- What the tests of single tokens tell, and what holds of a reading that begins with one.
use Rattle.std.proofs.Common.{nat_le, leb-true, subst, sym, ap, ◌∙◌, ⊎_elim, ◌≡◌, ◌≤◌, ◌⊎◌, ℕ, Bool, true, false, not, ◌&&◌, ◌||◌, List, [], ◌∷◌, Option, Some, None, refl, if◌then◌else◌, option_map, inl, inr}
use Rattle.std.proofs.lemmas.Bool.{both_ways, and_parts, or_cases}
use Rattle.std.proofs.lemmas.Slice.Eq.{bytes_eq-Decides}
use Rattle.std.specs.Prelude.{codes}
use Rattle.ob_lex.specs.declared.punctuator.Punctuator.{Punctuator}
use Rattle.ob_lex.specs.declared.punctuator.Punctuator.TheVariants as mark
use Rattle.ob_base.specs.declared.reserved.ReservedWord.{ReservedWord}
use Rattle.ob_base.specs.declared.reserved.ReservedWord.TheVariants as word
use Rattle.ob_lex.specs.declared.token.Token.{Token}
use Rattle.ob_lex.specs.declared.token.TokenKind.{TokenKind}
use Rattle.ob_lex.specs.declared.token.TokenKind.TheVariants as kind
use Rattle.ob_grammar.specs.declared.form.Form.{Form}
use Rattle.ob_grammar.specs.declared.form.Form.TheVariants.{Target, Other, Updated, Closed, Bare}
use Rattle.ob_grammar.specs.Marks.{NotMark, NotWord, StartsOnLine, rank}
use Rattle.ob_grammar.specs.Forms.{ends_value, Quiet, Ends, written, before_brace, at_end, at_line}
use Rattle.ob_grammar.specs.Taking.{Read, Parser, ◌>>=◌, mapped, take, next_is, before, one, if_taken, starts_on_line, no_value, is_quiet, line_end, end_of, ended, name_of, text_of, name_is, is_of, is_as, is_from, opens_parenthesis, closes_parenthesis, opens_bracket, closes_bracket, opens_brace, closes_brace, is_comma, is_semicolon, is_colon, is_question, is_star, is_star_star, is_assign, is_arrow, is_else, is_while, is_catch, is_yield, is_function, is_with}
use Rattle.ob_grammar.proofs.Statements.{OnRead}

-- ---- what holds of a reading, where there is one

pub after : {A B : Type 0} (P : A → List Token → Type 0) (Q : B → List Token → Type 0) (r : Read A) (f : A → Parser B)
    → OnRead r P → ((x : A) (ts : List Token) → P x ts → OnRead (f x ts) Q) → OnRead (r >>= f) Q
after P Q None f h g = tt
after P Q (Some p) f h g = g p.0 p.1 h

pub on_mapped : {A B : Type 0} (P : A → List Token → Type 0) (Q : B → List Token → Type 0) (f : A → B) (r : Read A)
    → OnRead r P → ((x : A) (ts : List Token) → P x ts → Q (f x) ts) → OnRead (mapped f r) Q
on_mapped P Q f None h g = tt
on_mapped P Q f (Some p) h g = g p.0 p.1 h

pub on_weaker : {A : Type 0} (P Q : A → List Token → Type 0) (r : Read A) → OnRead r P → ((x : A) (ts : List Token) → P x ts → Q x ts) → OnRead r Q
on_weaker P Q None h g = tt
on_weaker P Q (Some p) h g = g p.0 p.1 h

-- ---- tests of one token

-- only that kind passes
abbrev pub Only : (TokenKind → Bool) → TokenKind → Type 0
Only test k = (x : TokenKind) → test x ≡ true → x ≡ k

pub only_opens_parenthesis : Only opens_parenthesis (kind.Punctuator mark.OpenParenthesis)
unfolding opens_parenthesis
only_opens_parenthesis (kind.Punctuator mark.OpenParenthesis) h = refl
only_opens_parenthesis _ h = cc

pub only_closes_parenthesis : Only closes_parenthesis (kind.Punctuator mark.CloseParenthesis)
unfolding closes_parenthesis
only_closes_parenthesis (kind.Punctuator mark.CloseParenthesis) h = refl
only_closes_parenthesis _ h = cc

pub only_opens_bracket : Only opens_bracket (kind.Punctuator mark.OpenBracket)
unfolding opens_bracket
only_opens_bracket (kind.Punctuator mark.OpenBracket) h = refl
only_opens_bracket _ h = cc

pub only_closes_bracket : Only closes_bracket (kind.Punctuator mark.CloseBracket)
unfolding closes_bracket
only_closes_bracket (kind.Punctuator mark.CloseBracket) h = refl
only_closes_bracket _ h = cc

pub only_opens_brace : Only opens_brace (kind.Punctuator mark.OpenBrace)
unfolding opens_brace
only_opens_brace (kind.Punctuator mark.OpenBrace) h = refl
only_opens_brace _ h = cc

pub only_closes_brace : Only closes_brace (kind.Punctuator mark.CloseBrace)
unfolding closes_brace
only_closes_brace (kind.Punctuator mark.CloseBrace) h = refl
only_closes_brace _ h = cc

pub only_is_comma : Only is_comma (kind.Punctuator mark.Comma)
unfolding is_comma
only_is_comma (kind.Punctuator mark.Comma) h = refl
only_is_comma _ h = cc

pub only_is_semicolon : Only is_semicolon (kind.Punctuator mark.Semicolon)
unfolding is_semicolon
only_is_semicolon (kind.Punctuator mark.Semicolon) h = refl
only_is_semicolon _ h = cc

pub only_is_colon : Only is_colon (kind.Punctuator mark.Colon)
unfolding is_colon
only_is_colon (kind.Punctuator mark.Colon) h = refl
only_is_colon _ h = cc

pub only_is_question : Only is_question (kind.Punctuator mark.Question)
unfolding is_question
only_is_question (kind.Punctuator mark.Question) h = refl
only_is_question _ h = cc

pub only_is_star : Only is_star (kind.Punctuator mark.Star)
unfolding is_star
only_is_star (kind.Punctuator mark.Star) h = refl
only_is_star _ h = cc

pub only_is_star_star : Only is_star_star (kind.Punctuator mark.StarStar)
unfolding is_star_star
only_is_star_star (kind.Punctuator mark.StarStar) h = refl
only_is_star_star _ h = cc

pub only_is_assign : Only is_assign (kind.Punctuator mark.Assign)
unfolding is_assign
only_is_assign (kind.Punctuator mark.Assign) h = refl
only_is_assign _ h = cc

pub only_is_arrow : Only is_arrow (kind.Punctuator mark.Arrow)
unfolding is_arrow
only_is_arrow (kind.Punctuator mark.Arrow) h = refl
only_is_arrow _ h = cc

pub only_is_else : Only is_else (kind.Reserved word.Else)
unfolding is_else
only_is_else (kind.Reserved word.Else) h = refl
only_is_else _ h = cc

pub only_is_while : Only is_while (kind.Reserved word.While)
unfolding is_while
only_is_while (kind.Reserved word.While) h = refl
only_is_while _ h = cc

pub only_is_catch : Only is_catch (kind.Reserved word.Catch)
unfolding is_catch
only_is_catch (kind.Reserved word.Catch) h = refl
only_is_catch _ h = cc

pub only_is_yield : Only is_yield (kind.Reserved word.Yield)
unfolding is_yield
only_is_yield (kind.Reserved word.Yield) h = refl
only_is_yield _ h = cc

pub only_is_function : Only is_function (kind.Reserved word.Function)
unfolding is_function
only_is_function (kind.Reserved word.Function) h = refl
only_is_function _ h = cc

pub only_is_with : Only is_with (kind.Reserved word.With)
unfolding is_with
only_is_with (kind.Reserved word.With) h = refl
only_is_with _ h = cc

pub only_name : (x : TokenKind) (bs : List ℕ) → name_of x ≡ Some bs → x ≡ kind.Name bs
unfolding name_of
only_name (kind.Name bs) cs h = cc
only_name _ cs h = cc

pub only_text : (x : TokenKind) (us : List ℕ) → text_of x ≡ Some us → x ≡ kind.Text us
unfolding text_of
only_text (kind.Text us) vs h = cc
only_text _ vs h = cc

only_named : (bs : List ℕ) (x : TokenKind) (o : Option (List ℕ)) → name_of x ≡ o → name_is bs o ≡ true → x ≡ kind.Name bs
only_named bs x None e h = cc
only_named bs x (Some cs) e h = let q : bs ≡ cs = (bytes_eq-Decides bs cs).0 h in only_name x bs (e ∙ ap (λ s. Some s) (sym q))

pub only_is_of : Only is_of (kind.Name (codes "of"))
unfolding is_of
only_is_of x h = only_named (codes "of") x (name_of x) refl h

pub only_is_as : Only is_as (kind.Name (codes "as"))
unfolding is_as
only_is_as x h = only_named (codes "as") x (name_of x) refl h

pub only_is_from : Only is_from (kind.Name (codes "from"))
unfolding is_from
only_is_from x h = only_named (codes "from") x (name_of x) refl h

-- ---- readings that begin with a token

pub by_take : (test : TokenKind → Bool) (k : TokenKind) → Only test k → (C : List Token → Option (List Token) → Type 0)
    → ((t : Token) (rest : List Token) → t.kind ≡ k → C (t ∷ rest) (Some rest)) → ((ts : List Token) → next_is test ts ≡ false → C ts None)
    → (ts : List Token) → C ts (take test ts)
unfolding take next_is
by_take test k only C found missing [] = missing [] refl
by_take test k only C found missing (t ∷ ts) = go (test t.kind) refl
  where
    go : (b : Bool) → test t.kind ≡ b → C (t ∷ ts) (if b then Some ts else None)
    go true h = found t ts (only t.kind h)
    go false h = missing (t ∷ ts) h

pub on_taken : {A : Type 0} (test : TokenKind → Bool) (k : TokenKind) → Only test k → (R : List Token → A → List Token → Type 0) (f : Parser A)
    → ((t : Token) (rest : List Token) → t.kind ≡ k → OnRead (f rest) (R (t ∷ rest))) → (ts : List Token) → OnRead (if_taken (take test ts) f) (R ts)
on_taken test k only R f g ts = by_take test k only (λ ts o. OnRead (if_taken o f) (R ts)) g (λ ts h. tt) ts

pub on_before : {A : Type 0} (test : TokenKind → Bool) (k : TokenKind) → Only test k → (R : List Token → A → List Token → Type 0) (a : A)
    → ((t : Token) (rest : List Token) → t.kind ≡ k → R (t ∷ rest) a rest) → (ts : List Token) → OnRead (before test a ts) (R ts)
on_before test k only R a g ts = by_take test k only (λ ts o. OnRead (option_map (λ rest. (a, rest)) o) (R ts)) g (λ ts h. tt) ts

-- the same behind a piece that ends where the token stands
pub after_taken : {A : Type 0} (test : TokenKind → Bool) (k : TokenKind) → Only test k → (P : List Token → Type 0) (Q : A → List Token → Type 0) (f : Parser A)
    → ((t : Token) (rest : List Token) → t.kind ≡ k → P (t ∷ rest) → OnRead (f rest) Q) → (ts : List Token) → P ts → OnRead (if_taken (take test ts) f) Q
after_taken test k only P Q f g ts d = by_take test k only (λ ts o. P ts → OnRead (if_taken o f) Q) g (λ ts h p. tt) ts d

pub closed_by : {A : Type 0} (test : TokenKind → Bool) (k : TokenKind) → Only test k → (P : List Token → Type 0) (Q : A → List Token → Type 0) (a : A)
    → ((t : Token) (rest : List Token) → t.kind ≡ k → P (t ∷ rest) → Q a rest) → (ts : List Token) → P ts → OnRead (before test a ts) Q
closed_by test k only P Q a g ts d = by_take test k only (λ ts o. P ts → OnRead (option_map (λ rest. (a, rest)) o) Q) g (λ ts h p. tt) ts d

pub after_one : {A B : Type 0} (value : TokenKind → Option A) (R : List Token → B → List Token → Type 0) (f : A → Parser B)
    → ((t : Token) (rest : List Token) (a : A) → value t.kind ≡ Some a → OnRead (f a rest) (R (t ∷ rest))) → (ts : List Token) → OnRead (one value ts >>= f) (R ts)
unfolding one
after_one value R f g [] = tt
after_one {A = A} {B = B} value R f g (t ∷ ts) = go (value t.kind) refl
  where
    go : (o : Option A) → value t.kind ≡ o → OnRead (option_map (λ a. (a, ts)) o >>= f) (R (t ∷ ts))
    go (Some a) h = g t ts a h
    go None h = tt

-- the same behind a piece that ends where the token stands
pub behind_one : {A B : Type 0} (value : TokenKind → Option A) (P : List Token → Type 0) (Q : B → List Token → Type 0) (f : A → Parser B)
    → ((t : Token) (rest : List Token) (a : A) → value t.kind ≡ Some a → P (t ∷ rest) → OnRead (f a rest) Q) → (ts : List Token) → P ts → OnRead (one value ts >>= f) Q
behind_one {A = A} {B = B} value P Q f g ts d = on_weaker (λ b rest. P ts → Q b rest) Q _ (after_one value (λ us b rest. P us → Q b rest) f (λ t rest a h. under t rest a h (f a rest) (g t rest a h)) ts) (λ b rest q. q d)
  where
    under : (t : Token) (rest : List Token) (a : A) → value t.kind ≡ Some a → (r : Read B) → (P (t ∷ rest) → OnRead r Q) → OnRead r (λ b end. P (t ∷ rest) → Q b end)
    under t rest a h None q = tt
    under t rest a h (Some p) q = q

pub not_next : (test : TokenKind → Bool) (k : TokenKind) → test k ≡ true → (t : Token) (ts : List Token) → next_is test (t ∷ ts) ≡ false → ¬ (t.kind ≡ k)
unfolding next_is
not_next test k found t ts missing h = both_ways _ (sym (ap test h) ∙ missing) found

pub no_mark : (test : TokenKind → Bool) (m : Punctuator) → test (kind.Punctuator m) ≡ true → (ts : List Token) → next_is test ts ≡ false → NotMark m ts
no_mark test m found [] missing = tt
no_mark test m found (t ∷ ts) missing = not_next test (kind.Punctuator m) found t ts missing

pub no_word : (test : TokenKind → Bool) (w : ReservedWord) → test (kind.Reserved w) ≡ true → (ts : List Token) → next_is test ts ≡ false → NotWord w ts
no_word test w found [] missing = tt
no_word test w found (t ∷ ts) missing = not_next test (kind.Reserved w) found t ts missing

pub no_brace : (ts : List Token) → next_is opens_brace ts ≡ false → NotMark mark.OpenBrace ts
unfolding opens_brace
no_brace ts h = no_mark opens_brace mark.OpenBrace refl ts h

pub no_semicolon : (ts : List Token) → next_is is_semicolon ts ≡ false → NotMark mark.Semicolon ts
unfolding is_semicolon
no_semicolon ts h = no_mark is_semicolon mark.Semicolon refl ts h

pub no_else : (ts : List Token) → next_is is_else ts ≡ false → NotWord word.Else ts
unfolding is_else
no_else ts h = no_word is_else word.Else refl ts h

pub is_false : (b : Bool) → not b ≡ true → b ≡ false
is_false true h = cc
is_false false h = refl

pub on_line : (ts : List Token) → starts_on_line ts ≡ true → StartsOnLine ts
unfolding starts_on_line
on_line [] h = cc
on_line (t ∷ ts) h = is_false t.break_before h

pub held_on_line : (ts : List Token) → no_value ts ≡ false → StartsOnLine ts
unfolding no_value
held_on_line [] h = cc
held_on_line (t ∷ ts) h = go t.break_before refl h
  where
    go : (b : Bool) → t.break_before ≡ b → (b || ends_value t.kind) ≡ false → t.break_before ≡ false
    go true e h = cc
    go false e h = e

-- ---- the end of a statement

inside_some : {A : Type 0} (a b : A) → Some a ≡ Some b → a ≡ b
inside_some a b h = cc

abbrev either : (n m r : ℕ) → (nat_le n r || nat_le r m) ≡ true → (n ≤ r) ⊎ (r ≤ m)
either n m r h = ⊎_elim (λ e. inl (leb-true n r e)) (λ e. inr (leb-true r m e)) (or_cases _ _ h)

pub quiet_is : (f : Form) (n : ℕ) (t : Token) → is_quiet f n t ≡ true → Quiet f n t
unfolding is_quiet
quiet_is Target n t h = leb-true n (rank t) h
quiet_is Other n t h = leb-true n (rank t) h
quiet_is Updated n t h = either n 1 (rank t) h
quiet_is Closed n t h = either n 14 (rank t) h
quiet_is Bare n t h = let p = and_parts _ _ h in (or_cases _ _ p.0, either n 16 (rank t) p.1)

pub line_is : (f : Form) (t : Token) (ts rest : List Token) → line_end f t ts ≡ Some rest → Ends f (t ∷ ts) rest
line_is f t ts rest h = go (t.break_before && is_quiet f 19 t) refl h
  where
    go : (b : Bool) → (t.break_before && is_quiet f 19 t) ≡ b → (if b then Some (t ∷ ts) else None) ≡ Some rest → Ends f (t ∷ ts) rest
    go true e q = let p = and_parts _ _ e in subst (Ends f (t ∷ ts)) (inside_some _ _ q) (at_line t ts p.0 (quiet_is f 19 t p.1))
    go false e q = cc

-- what `end_of` gives is an end
pub end_is : (f : Form) (ts rest : List Token) → end_of f ts ≡ Some rest → Ends f ts rest
unfolding end_of
end_is f [] rest h = subst (Ends f []) (inside_some _ _ h) at_end
end_is f (t ∷ ts) rest h = semi (is_semicolon t.kind) refl h
  where
    brace : (b : Bool) → closes_brace t.kind ≡ b → (if b then Some (t ∷ ts) else line_end f t ts) ≡ Some rest → Ends f (t ∷ ts) rest
    brace true e q = subst (Ends f (t ∷ ts)) (inside_some _ _ q) (before_brace t ts (only_closes_brace t.kind e))
    brace false e q = line_is f t ts rest q

    semi : (b : Bool) → is_semicolon t.kind ≡ b → (if b then Some ts else if closes_brace t.kind then Some (t ∷ ts) else line_end f t ts) ≡ Some rest → Ends f (t ∷ ts) rest
    semi true e q = subst (Ends f (t ∷ ts)) (inside_some _ _ q) (written t ts (only_is_semicolon t.kind e))
    semi false e q = brace (closes_brace t.kind) refl q

pub on_ended : {A : Type 0} (R : A → List Token → Type 0) (a : A) (f : Form) (ts : List Token) → ((rest : List Token) → Ends f ts rest → R a rest) → OnRead (ended a f ts) R
on_ended {A = A} R a f ts g = go (end_of f ts) refl
  where
    go : (o : Option (List Token)) → end_of f ts ≡ o → OnRead (option_map (λ rest. (a, rest)) o) R
    go None e = tt
    go (Some rest) e = g rest (end_is f ts rest e)
