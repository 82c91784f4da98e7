-- A character begins pieces of one class.
use Rattle.std.proofs.Common.{◌≡◌, ℕ, ◌<◌, ◌≤◌, Bool, true, false, not, ◌||◌, ◌&&◌, ◌==◌, leb, cond, refl, ap, sym, ◌∙◌, subst, arith, ◌⊎◌, inl, inr}
use Rattle.std.proofs.lemmas.Bool.{eqb-true, leb-true}
use Rattle.std.proofs.lemmas.Bool.Decides.{nat_tests}
use Rattle.std.proofs.Math.Nat.{eq-or-lt_of_le}
use Rattle.std.specs.Char.{is_ascii_alphabetic, is_ascii_alphanumeric, digit_value}
use Rattle.unicode_ident.specs.Ident.{is_xid_continue}
use Rattle.unicode_ident.proofs.IdentLemmas.{is_xid_start-ascii, is_xid_continue-ascii}
use Rattle.unicode_ident.proofs.Computing.{unicode_ident}
use Rattle.ob_lex.specs.Characters.{is_white_space, is_line_end, starts_name, continues_name, is_digit, is_quote}

pub data Class : Type 0 where
  white : Class
  line : Class
  word : Class
  number : Class
  quoted : Class
  mark : Class

abbrev pub class_by : (b l n d q : Bool) → Class
class_by b l n d q = cond b white (cond l line (cond n word (cond d number (cond q quoted mark))))

abbrev pub class_of : ℕ → Class
class_of c = class_by (is_white_space c) (is_line_end c) (starts_name c) (is_digit 10 c) (is_quote c)

pub either : (a b : Bool) → (a || b) ≡ true → (a ≡ true) ⊎ (b ≡ true)
either true b h = inl refl
either false b h = inr h

pub both : (a b : Bool) → (a && b) ≡ true → (a ≡ true) × (b ≡ true)
both true b h = (refl, h)
both false b h = cc

pub not_true : (a : Bool) → not a ≡ true → a ≡ false
not_true true h = cc
not_true false h = refl

-- ---- characters that begin no name

not_start : (d : ℕ) → d < 128 → (d == 36 || d == 95 || is_ascii_alphabetic d) ≡ false → starts_name d ≡ false
unfolding starts_name
not_start d lt h = ap (λ b. d == 36 || d == 95 || b) (is_xid_start-ascii d lt) ∙ h

same_start : (c d : ℕ) → (c == d) ≡ true → starts_name d ≡ false → starts_name c ≡ false
same_start c d e h = ap starts_name (eqb-true c d e) ∙ h

space_range : (c : ℕ) → 0x2000 ≤ c → c ≤ 0x200A → starts_name c ≡ false
unfolding starts_name unicode_ident
space_range c low high =
    from 0x2000 low refl (λ l1. from 0x2001 l1 refl (λ l2. from 0x2002 l2 refl (λ l3. from 0x2003 l3 refl (λ l4. from 0x2004 l4 refl (λ l5.
    from 0x2005 l5 refl (λ l6. from 0x2006 l6 refl (λ l7. from 0x2007 l7 refl (λ l8. from 0x2008 l8 refl (λ l9. from 0x2009 l9 refl (λ l10.
    from 0x200A l10 refl (λ l11. absurd (omega arith))))))))))))
  where
    from : (d : ℕ) → d ≤ c → starts_name d ≡ false → (d < c → starts_name c ≡ false) → starts_name c ≡ false
    from d le h more = elim (eq-or-lt_of_le le) [ inl e ↦ ap starts_name (sym e) ∙ h | inr lt ↦ more lt ]

white_no_start : (c : ℕ) → is_white_space c ≡ true → starts_name c ≡ false
unfolding is_white_space starts_name unicode_ident
white_no_start c h0 =
    split _ _ h0 (λ h1. split _ _ h1 (λ h2. split _ _ h2 (λ h3. split _ _ h3 (λ h4. split _ _ h4 (λ h5. split _ _ h5 (λ h6. split _ _ h6 (λ h7. split _ _ h7 (λ h8. split _ _ h8 (λ h9.
    split _ _ h9 (λ e. same_start c 9 e (not_start 9 (omega arith) refl)) (λ e. same_start c 11 e (not_start 11 (omega arith) refl)))
    (λ e. same_start c 12 e (not_start 12 (omega arith) refl))) (λ e. same_start c 32 e (not_start 32 (omega arith) refl))) (λ e. same_start c 0xA0 e refl)) (λ e. same_start c 0x1680 e refl))
    (λ e. let p = both (leb 0x2000 c) (leb c 0x200A) e in space_range c (leb-true 0x2000 c p.0) (leb-true c 0x200A p.1)))
    (λ e. same_start c 0x202F e refl)) (λ e. same_start c 0x205F e refl)) (λ e. same_start c 0x3000 e refl)) (λ e. same_start c 0xFEFF e refl)
  where
    split : (a b : Bool) → (a || b) ≡ true → (a ≡ true → starts_name c ≡ false) → (b ≡ true → starts_name c ≡ false) → starts_name c ≡ false
    split a b h f g = elim (either a b h) [ inl x ↦ f x | inr y ↦ g y ]

line_is : (c : ℕ) → is_line_end c ≡ true → (P : ℕ → Type 0) → P 10 → P 13 → P 0x2028 → P 0x2029 → P c
unfolding is_line_end
line_is c h P a b d e =
    elim (either ((c == 10) || (c == 13) || (c == 0x2028)) (c == 0x2029) h) [
      | inl g ↦ elim (either ((c == 10) || (c == 13)) (c == 0x2028) g) [
        | inl k ↦ elim (either (c == 10) (c == 13) k) [ inl x ↦ subst P (sym (eqb-true c 10 x)) a | inr x ↦ subst P (sym (eqb-true c 13 x)) b ]
        | inr x ↦ subst P (sym (eqb-true c 0x2028 x)) d
      ]
      | inr x ↦ subst P (sym (eqb-true c 0x2029 x)) e
    ]

line_no_start : (c : ℕ) → is_line_end c ≡ true → starts_name c ≡ false
unfolding starts_name unicode_ident
line_no_start c h = line_is c h (λ c. starts_name c ≡ false) (not_start 10 (omega arith) refl) (not_start 13 (omega arith) refl) refl refl

line_no_white : (c : ℕ) → is_line_end c ≡ true → is_white_space c ≡ false
unfolding is_white_space
line_no_white c h = line_is c h (λ c. is_white_space c ≡ false) refl refl refl refl

no_by : (b : Bool) → (b ≡ true → ⊥) → b ≡ false
no_by true f = absurd (f refl)
no_by false f = refl

-- ---- the class of a character

pub white_first : (c : ℕ) → is_white_space c ≡ true → class_of c ≡ white
white_first c h = ap (λ b. class_by b (is_line_end c) (starts_name c) (is_digit 10 c) (is_quote c)) h

pub line_first : (c : ℕ) → is_line_end c ≡ true → class_of c ≡ line
line_first c h = let w = line_no_white c h in rw (w, h) refl

pub word_first : (c : ℕ) → starts_name c ≡ true → class_of c ≡ word
word_first c h =
    let w : is_white_space c ≡ false = no_by (is_white_space c) (λ e. let f = white_no_start c e in let z : true ≡ false = sym h ∙ f in cc) in
    let l : is_line_end c ≡ false = no_by (is_line_end c) (λ e. let f = line_no_start c e in let z : true ≡ false = sym h ∙ f in cc) in
    rw (w, l, h) refl

pub digit_range : (c : ℕ) → is_digit 10 c ≡ true → (48 ≤ c) × (c ≤ 57)
unfolding is_digit
digit_range c h = (grind (arith, nat_tests), grind (arith, nat_tests))

digit_no_start : (c : ℕ) → 48 ≤ c → c ≤ 57 → (c == 36 || c == 95 || is_ascii_alphabetic c) ≡ false
digit_no_start c low high = grind (arith, nat_tests)

digit_no_white : (c : ℕ) → 48 ≤ c → c ≤ 57 → is_white_space c ≡ false
unfolding is_white_space
digit_no_white c low high = grind (arith, nat_tests)

digit_no_line : (c : ℕ) → 48 ≤ c → c ≤ 57 → is_line_end c ≡ false
unfolding is_line_end
digit_no_line c low high = grind (arith, nat_tests)

pub number_first : (c : ℕ) → is_digit 10 c ≡ true → class_of c ≡ number
number_first c h =
    let r = digit_range c h in
    let low : 48 ≤ c = r.0 in
    let high : c ≤ 57 = r.1 in
    let s : starts_name c ≡ false = not_start c (omega arith) (digit_no_start c low high) in
    let w = digit_no_white c low high in
    let l = digit_no_line c low high in
    rw (w, l, s, h) refl

pub closed_class : (c : ℕ) (k : Class) → c < 128 → (c == 36 || c == 95 || is_ascii_alphabetic c) ≡ false
    → class_by (is_white_space c) (is_line_end c) false (is_digit 10 c) (is_quote c) ≡ k → class_of c ≡ k
closed_class c k lt h e = ap (λ n. class_by (is_white_space c) (is_line_end c) n (is_digit 10 c) (is_quote c)) (not_start c lt h) ∙ e

pub text_first : (c : ℕ) → is_quote c ≡ true → class_of c ≡ quoted
unfolding is_white_space is_line_end is_digit is_quote
text_first c h =
    elim (either (c == 34) (c == 39) h) [
      | inl e ↦ ap class_of (eqb-true c 34 e) ∙ closed_class 34 quoted (omega arith) refl refl
      | inr e ↦ ap class_of (eqb-true c 39 e) ∙ closed_class 39 quoted (omega arith) refl refl
    ]

-- ---- digits and names

-- a digit of a base up to 36 continues a name
pub digit_continues : (base c : ℕ) → base ≤ 36 → is_digit base c ≡ true → continues_name c ≡ true
unfolding continues_name is_digit
digit_continues base c le h =
    let some : digit_value c < 36 = grind (arith, nat_tests) in
    let small : c < 128 = grind (arith, nat_tests) in
    let a : (is_ascii_alphanumeric c || (c == 95)) ≡ true = grind (arith, nat_tests) in
    let x : is_xid_continue c ≡ true = is_xid_continue-ascii c small ∙ a in
    go (c == 36) x
  where
    go : (b : Bool) → is_xid_continue c ≡ true → (b || is_xid_continue c) ≡ true
    go true x = refl
    go false x = x

pub underscore_continues : continues_name 95 ≡ true
unfolding continues_name
underscore_continues = is_xid_continue-ascii 95 (omega arith)
