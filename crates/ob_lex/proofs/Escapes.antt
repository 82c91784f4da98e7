-- What stands after a backslash.
use Rattle.std.proofs.Common.{◌≡◌, ℕ, ◌+◌, ◌*◌, ◌≤◌, Bool, true, false, not, ◌||◌, ◌&&◌, ◌==◌, cond, leb, [], ◌∷◌, ◌++◌, Option, Some, None, refl, ap, sym, ◌∙◌, subst, arith, append_assoc}
use Rattle.std.specs.Char.{digit_value}
use Rattle.std.proofs.lemmas.Bool.{eqb-true, leb-true}
use Rattle.std.proofs.lemmas.Bool.Decides.{nat_tests}
use Rattle.ob_lex.specs.Characters.{Characters, is_line_end, is_digit, is_escaped, escaped, begins_with_digit}
use Rattle.ob_lex.specs.Pieces.{Each, hex_value, IsEscape, character, null, two_digits, four_digits, in_braces, line_end, line_ends}
use Rattle.ob_lex.specs.Reading as reading
use Rattle.ob_lex.specs.Reading.{Read, to_brace, unicode_at, after_line_end, escape_at}
use Rattle.ob_lex.proofs.Classes.{both, not_true}
use Rattle.ob_lex.proofs.Tools.{OnRead, Took, on_weaker}

-- ---- what is read is an escape

abbrev pub Escape_of : Characters → Option ℕ → Characters → Type 0
Escape_of text code rest = Took (λ front. IsEscape front code rest) text rest

line_by : (c d : ℕ) (ds : Characters) → is_line_end c ≡ true → (b : Bool) → (c == 13 && d == 10) ≡ b → Escape_of (c ∷ d ∷ ds) None (cond b ds (d ∷ ds))
line_by c d ds h true e =
    let p = both (c == 13) (d == 10) e in let x : c ≡ 13 = eqb-true c 13 p.0 in let y : d ≡ 10 = eqb-true d 10 p.1 in (13 ∷ 10 ∷ [], (cc, line_ends ds))
line_by c d ds h false e = (c ∷ [], (refl, line_end c (d ∷ ds) h))

line_sound : (c : ℕ) (cs : Characters) → is_line_end c ≡ true → Escape_of (c ∷ cs) None (after_line_end c cs)
line_sound c [] h = (c ∷ [], (refl, line_end c [] h))
line_sound c (d ∷ ds) h = line_by c d ds h (c == 13 && d == 10) refl

two_value : (a b : ℕ) → digit_value a * 16 + digit_value b ≡ hex_value 0 (a ∷ b ∷ [])
two_value a b = omega arith

four_value : (a b c d : ℕ) → ((digit_value a * 16 + digit_value b) * 16 + digit_value c) * 16 + digit_value d ≡ hex_value 0 (a ∷ b ∷ c ∷ d ∷ [])
four_value a b c d = omega arith

two_by : (a b : ℕ) (cs : Characters) (t : Bool) → (is_digit 16 a && is_digit 16 b) ≡ t
    → OnRead (cond t (Some (Some (digit_value a * 16 + digit_value b), cs)) None) (Escape_of (120 ∷ a ∷ b ∷ cs))
two_by a b cs true e =
    let p = both (is_digit 16 a) (is_digit 16 b) e in
    (120 ∷ a ∷ b ∷ [], (refl, subst (λ n. IsEscape (120 ∷ a ∷ b ∷ []) (Some n) cs) (sym (two_value a b)) (two_digits a b cs (p.0, (p.1, tt)))))
two_by a b cs false e = tt

two_sound : (cs : Characters) → OnRead (reading.two_digits cs) (Escape_of (120 ∷ cs))
two_sound [] = tt
two_sound (a ∷ []) = tt
two_sound (a ∷ b ∷ cs) = two_by a b cs (is_digit 16 a && is_digit 16 b) refl

four_by : (a b c d : ℕ) (cs : Characters) (t : Bool) → (is_digit 16 a && is_digit 16 b && is_digit 16 c && is_digit 16 d) ≡ t
    → OnRead (cond t (Some (Some (((digit_value a * 16 + digit_value b) * 16 + digit_value c) * 16 + digit_value d), cs)) None) (Escape_of (117 ∷ a ∷ b ∷ c ∷ d ∷ cs))
four_by a b c d cs true e =
    let p = both (is_digit 16 a && is_digit 16 b && is_digit 16 c) (is_digit 16 d) e in
    let q = both (is_digit 16 a && is_digit 16 b) (is_digit 16 c) p.0 in
    let r = both (is_digit 16 a) (is_digit 16 b) q.0 in
    (117 ∷ a ∷ b ∷ c ∷ d ∷ [], (refl, subst (λ n. IsEscape (117 ∷ a ∷ b ∷ c ∷ d ∷ []) (Some n) cs) (sym (four_value a b c d)) (four_digits a b c d cs (r.0, (r.1, (q.1, (p.1, tt)))))))
four_by a b c d cs false e = tt

four_sound : (cs : Characters) → OnRead (reading.four_digits cs) (Escape_of (117 ∷ cs))
four_sound [] = tt
four_sound (a ∷ []) = tt
four_sound (a ∷ b ∷ []) = tt
four_sound (a ∷ b ∷ c ∷ []) = tt
four_sound (a ∷ b ∷ c ∷ d ∷ cs) = four_by a b c d cs (is_digit 16 a && is_digit 16 b && is_digit 16 c && is_digit 16 d) refl

-- digits, `}` and the rest
abbrev Braced : ℕ → Characters → Option ℕ → Characters → Type 0
Braced n text code rest = (ds : Characters) × ((text ≡ ds ++ (125 ∷ rest)) × (Each (is_digit 16) ds × ((code ≡ Some (hex_value n ds)) × (hex_value n ds ≤ 0x10FFFF))))

brace_next : (n c : ℕ) (cs : Characters) → is_digit 16 c ≡ true → (n * 16 + digit_value c ≤ 0x10FFFF → OnRead (to_brace (n * 16 + digit_value c) cs) (Braced (n * 16 + digit_value c) cs))
    → (b : Bool) → leb (n * 16 + digit_value c) 0x10FFFF ≡ b → OnRead (cond b (to_brace (n * 16 + digit_value c) cs) None) (Braced n (c ∷ cs))
brace_next n c cs h more true e =
    on_weaker (Braced (n * 16 + digit_value c) cs) (Braced n (c ∷ cs)) (to_brace (n * 16 + digit_value c) cs)
    (λ code rest x. (c ∷ x.0, (ap (λ y. c ∷ y) x.1.0, ((h, x.1.1.0), (x.1.1.1.0, x.1.1.1.1))))) (more (leb-true (n * 16 + digit_value c) 0x10FFFF e))
brace_next n c cs h more false e = tt

brace_by : (n c : ℕ) (cs : Characters) → n ≤ 0x10FFFF → (n * 16 + digit_value c ≤ 0x10FFFF → OnRead (to_brace (n * 16 + digit_value c) cs) (Braced (n * 16 + digit_value c) cs))
    → (b : Bool) → is_digit 16 c ≡ b → (s : Bool) → (c == 125) ≡ s
    → OnRead (cond b (cond (leb (n * 16 + digit_value c) 0x10FFFF) (to_brace (n * 16 + digit_value c) cs) None) (cond s (Some (Some n, cs)) None)) (Braced n (c ∷ cs))
brace_by n c cs w more true e s f = brace_next n c cs e more (leb (n * 16 + digit_value c) 0x10FFFF) refl
brace_by n c cs w more false e true f = ([], (ap (λ x. x ∷ cs) (eqb-true c 125 f), (tt, (refl, w))))
brace_by n c cs w more false e false f = tt

brace_sound : (n : ℕ) → n ≤ 0x10FFFF → (text : Characters) → OnRead (to_brace n text) (Braced n text)
brace_sound n w [] = tt
brace_sound n w (c ∷ cs) = brace_by n c cs w (λ v. brace_sound (n * 16 + digit_value c) v cs) (is_digit 16 c) refl (c == 125) refl

digit_small : (d : ℕ) → digit_value d ≤ 36
digit_small d = grind (arith, nat_tests)

first_value : (d : ℕ) → 0 * 16 + digit_value d ≡ digit_value d
first_value d = omega arith

braces_by : (d : ℕ) (ds : Characters) (b : Bool) → is_digit 16 d ≡ b → OnRead (cond b (to_brace (digit_value d) ds) None) (Escape_of (117 ∷ 123 ∷ d ∷ ds))
braces_by d ds true e =
    on_weaker (Braced (digit_value d) ds) (Escape_of (117 ∷ 123 ∷ d ∷ ds)) (to_brace (digit_value d) ds)
    (λ code rest x.
    let v : hex_value (digit_value d) x.0 ≡ hex_value 0 (d ∷ x.0) = ap (λ n. hex_value n x.0) (sym (first_value d)) in (
      117 ∷ 123 ∷ d ∷ x.0 ++ (125 ∷ []),
      (
        ap (λ y. 117 ∷ 123 ∷ d ∷ y) (x.1.0 ∙ sym (append_assoc x.0 (125 ∷ []) rest)),
        subst (λ o. IsEscape (117 ∷ 123 ∷ d ∷ x.0 ++ (125 ∷ [])) o rest) (sym (x.1.1.1.0 ∙ ap (λ (n : ℕ). Some n) v))
            (in_braces d x.0 rest (e, x.1.1.0) (subst (λ n. n ≤ 0x10FFFF) v x.1.1.1.1)),
      ),
    ))
    (brace_sound (digit_value d) (omega (arith, digit_small d)) ds)
braces_by d ds false e = tt

braces_sound : (cs : Characters) → OnRead (reading.in_braces cs) (Escape_of (117 ∷ 123 ∷ cs))
braces_sound [] = tt
braces_sound (d ∷ ds) = braces_by d ds (is_digit 16 d) refl

unicode_by : (c : ℕ) (cs : Characters) (b : Bool) → (c == 123) ≡ b → OnRead (cond b (reading.in_braces cs) (reading.four_digits (c ∷ cs))) (Escape_of (117 ∷ c ∷ cs))
unicode_by c cs true e = subst (λ x. OnRead (reading.in_braces cs) (Escape_of (117 ∷ x ∷ cs))) (sym (eqb-true c 123 e)) (braces_sound cs)
unicode_by c cs false e = four_sound (c ∷ cs)

unicode_sound : (cs : Characters) → OnRead (unicode_at cs) (Escape_of (117 ∷ cs))
unicode_sound [] = tt
unicode_sound (c ∷ cs) = unicode_by c cs (c == 123) refl

null_by : (c : ℕ) (cs : Characters) (b : Bool) → (c == 48 && not (begins_with_digit cs)) ≡ b → OnRead (cond b (Some (Some 0, cs)) None) (Escape_of (c ∷ cs))
null_by c cs true e =
    let p = both (c == 48) (not (begins_with_digit cs)) e in
    (48 ∷ [], (ap (λ x. x ∷ cs) (eqb-true c 48 p.0), null cs (not_true (begins_with_digit cs) p.1)))
null_by c cs false e = tt

is_escaped_by : (c : ℕ) → is_line_end c ≡ false → (c == 120) ≡ false → (c == 117) ≡ false → is_digit 10 c ≡ false → is_escaped c ≡ true
unfolding is_escaped
is_escaped_by c l x u d = rw (l, x, u, d) refl

escape_by : (c : ℕ) (cs : Characters) (l x u d : Bool) → is_line_end c ≡ l → (c == 120) ≡ x → (c == 117) ≡ u → is_digit 10 c ≡ d
    → OnRead (cond l (Some (None, after_line_end c cs)) (cond x (reading.two_digits cs) (cond u (unicode_at cs)
    (cond d (cond (c == 48 && not (begins_with_digit cs)) (Some (Some 0, cs)) None) (Some (Some (escaped c), cs)))))) (Escape_of (c ∷ cs))
escape_by c cs true x u d hl hx hu hd = line_sound c cs hl
escape_by c cs false true u d hl hx hu hd = subst (λ y. OnRead (reading.two_digits cs) (Escape_of (y ∷ cs))) (sym (eqb-true c 120 hx)) (two_sound cs)
escape_by c cs false false true d hl hx hu hd = subst (λ y. OnRead (unicode_at cs) (Escape_of (y ∷ cs))) (sym (eqb-true c 117 hu)) (unicode_sound cs)
escape_by c cs false false false true hl hx hu hd = null_by c cs (c == 48 && not (begins_with_digit cs)) refl
escape_by c cs false false false false hl hx hu hd = (c ∷ [], (refl, character c cs (is_escaped_by c hl hx hu hd)))

pub escape_sound : (text : Characters) → OnRead (escape_at text) (Escape_of text)
unfolding escape_at
escape_sound [] = tt
escape_sound (c ∷ cs) = escape_by c cs (is_line_end c) (c == 120) (c == 117) (is_digit 10 c) refl refl refl refl

-- ---- each escape is read

-- no line feed comes first
abbrev pub no_line_feed : Characters → Bool
no_line_feed [] = true
no_line_feed (c ∷ cs) = not (c == 10)

line_again : (c : ℕ) (after : Characters) → no_line_feed after ≡ true → after_line_end c after ≡ after
line_again c [] h = refl
line_again c (d ∷ ds) h = go (c == 13) (d == 10) h
  where
    go : (a b : Bool) → not b ≡ true → cond (a && b) ds (d ∷ ds) ≡ d ∷ ds
    go true true e = cc
    go true false e = refl
    go false b e = refl

hex_grows : (n : ℕ) (ds : Characters) → n ≤ hex_value n ds
hex_grows n [] = omega arith
hex_grows n (d ∷ ds) = omega (arith, hex_grows (n * 16 + digit_value d) ds)

within : (k : ℕ) → k ≤ 0x10FFFF → leb k 0x10FFFF ≡ true
within k h = grind (arith, nat_tests)

brace_end : is_digit 16 125 ≡ false
unfolding is_digit
brace_end = refl

brace_again : (n : ℕ) (ds after : Characters) → Each (is_digit 16) ds → hex_value n ds ≤ 0x10FFFF → to_brace n (ds ++ (125 ∷ after)) ≡ Some (Some (hex_value n ds), after)
brace_again n [] after h w = ap (λ b. cond b (cond (leb (n * 16 + digit_value 125) 0x10FFFF) (to_brace (n * 16 + digit_value 125) after) None) (Some (Some n, after))) brace_end
brace_again n (d ∷ ds) after h w =
    ap (λ b. cond b (cond (leb (n * 16 + digit_value d) 0x10FFFF) (to_brace (n * 16 + digit_value d) (ds ++ (125 ∷ after))) None) (cond (d == 125) (Some (Some n, ds ++ (125 ∷ after))) None)) h.0
    ∙ ap (λ b. cond b (to_brace (n * 16 + digit_value d) (ds ++ (125 ∷ after))) None) (within (n * 16 + digit_value d) (omega (arith, w, hex_grows (n * 16 + digit_value d) ds)))
    ∙ brace_again (n * 16 + digit_value d) ds after h.1 w

braces_again : (d : ℕ) (ds after : Characters) → Each (is_digit 16) (d ∷ ds) → hex_value 0 (d ∷ ds) ≤ 0x10FFFF
    → reading.in_braces (d ∷ (ds ++ (125 ∷ [])) ++ after) ≡ Some (Some (hex_value 0 (d ∷ ds)), after)
braces_again d ds after h w =
    let v : hex_value 0 (d ∷ ds) ≡ hex_value (digit_value d) ds = ap (λ n. hex_value n ds) (first_value d) in
    ap (λ b. cond b (to_brace (digit_value d) ((ds ++ (125 ∷ [])) ++ after)) None) h.0
    ∙ ap (to_brace (digit_value d)) (append_assoc ds (125 ∷ []) after)
    ∙ brace_again (digit_value d) ds after h.1 (subst (λ n. n ≤ 0x10FFFF) v w) ∙ ap (λ (n : ℕ). Some (Some n, after)) (sym v)

two_again : (a b : ℕ) (after : Characters) → Each (is_digit 16) (a ∷ b ∷ []) → reading.two_digits (a ∷ b ∷ after) ≡ Some (Some (hex_value 0 (a ∷ b ∷ [])), after)
two_again a b after h =
    ap (λ t. cond (t && is_digit 16 b) (Some (Some (digit_value a * 16 + digit_value b), after)) None) h.0
    ∙ ap (λ t. cond t (Some (Some (digit_value a * 16 + digit_value b), after)) None) h.1.0 ∙ ap (λ (n : ℕ). Some (Some n, after)) (two_value a b)

four_again : (a b c d : ℕ) (after : Characters) → Each (is_digit 16) (a ∷ b ∷ c ∷ d ∷ []) → reading.four_digits (a ∷ b ∷ c ∷ d ∷ after) ≡ Some (Some (hex_value 0 (a ∷ b ∷ c ∷ d ∷ [])), after)
four_again a b c d after h =
    let n = ((digit_value a * 16 + digit_value b) * 16 + digit_value c) * 16 + digit_value d in
    ap (λ t. cond (t && is_digit 16 b && is_digit 16 c && is_digit 16 d) (Some (Some n, after)) None) h.0
    ∙ ap (λ t. cond (t && is_digit 16 c && is_digit 16 d) (Some (Some n, after)) None) h.1.0
    ∙ ap (λ t. cond (t && is_digit 16 d) (Some (Some n, after)) None) h.1.1.0
    ∙ ap (λ t. cond t (Some (Some n, after)) None) h.1.1.1.0 ∙ ap (λ (n : ℕ). Some (Some n, after)) (four_value a b c d)

no_brace : (a : ℕ) → is_digit 16 a ≡ true → (a == 123) ≡ false
unfolding is_digit
no_brace a h = grind (arith, nat_tests)

escaped_parts : (c : ℕ) → is_escaped c ≡ true → (is_line_end c ≡ false) × (((c == 120) ≡ false) × (((c == 117) ≡ false) × (is_digit 10 c ≡ false)))
unfolding is_escaped
escaped_parts c h = go (is_line_end c) (c == 120) (c == 117) (is_digit 10 c) h
  where
    go : (l x u d : Bool) → not (l || x || u || d) ≡ true → (l ≡ false) × ((x ≡ false) × ((u ≡ false) × (d ≡ false)))
    go true x u d e = cc
    go false true u d e = cc
    go false false true d e = cc
    go false false false true e = cc
    go false false false false e = (refl, (refl, (refl, refl)))

unicode_four : (a : ℕ) (cs : Characters) → is_digit 16 a ≡ true → unicode_at (a ∷ cs) ≡ reading.four_digits (a ∷ cs)
unicode_four a cs h = ap (λ b. cond b (reading.in_braces cs) (reading.four_digits (a ∷ cs))) (no_brace a h)

pub escape_again : (front after : Characters) (code : Option ℕ) → IsEscape front code after → no_line_feed after ≡ true → escape_at (front ++ after) ≡ Some (code, after)
unfolding escape_at is_line_end is_digit
escape_again front after code (character c a h) free =
    let p = escaped_parts c h in
    ap (λ b. cond b (Some (None, after_line_end c after)) (cond (c == 120) (reading.two_digits after) (cond (c == 117) (unicode_at after)
    (cond (is_digit 10 c) (cond (c == 48 && not (begins_with_digit after)) (Some (Some 0, after)) None) (Some (Some (escaped c), after)))))) p.0
    ∙ ap (λ b. cond b (reading.two_digits after) (cond (c == 117) (unicode_at after)
    (cond (is_digit 10 c) (cond (c == 48 && not (begins_with_digit after)) (Some (Some 0, after)) None) (Some (Some (escaped c), after))))) p.1.0
    ∙ ap (λ b. cond b (unicode_at after) (cond (is_digit 10 c) (cond (c == 48 && not (begins_with_digit after)) (Some (Some 0, after)) None) (Some (Some (escaped c), after)))) p.1.1.0
    ∙ ap (λ b. cond b (cond (c == 48 && not (begins_with_digit after)) (Some (Some 0, after)) None) (Some (Some (escaped c), after))) p.1.1.1
escape_again front after code (null a h) free = ap (λ b. cond (not b) (Some (Some 0, after)) None) h
escape_again front after code (two_digits a b x h) free = two_again a b after h
escape_again front after code (four_digits a b c d x h) free = unicode_four a (b ∷ c ∷ d ∷ after) h.0 ∙ four_again a b c d after h
escape_again front after code (in_braces d ds x h w) free = braces_again d ds after h w
escape_again front after code (line_end c x h) free =
    ap (λ b. cond b (Some (None, after_line_end c after)) (cond (c == 120) (reading.two_digits after) (cond (c == 117) (unicode_at after)
    (cond (is_digit 10 c) (cond (c == 48 && not (begins_with_digit after)) (Some (Some 0, after)) None) (Some (Some (escaped c), after)))))) h
    ∙ ap (λ (x : Characters). Some (None, x)) (line_again c after free)
escape_again front after code (line_ends x) free = refl

-- the same escape before what begins with a digit alike
pub escape_moved : (front a b : Characters) (code : Option ℕ) → begins_with_digit a ≡ begins_with_digit b → IsEscape front code a → IsEscape front code b
escape_moved front a b code e (character c x h) = character c b h
escape_moved front a b code e (null x h) = null b (sym e ∙ h)
escape_moved front a b code e (two_digits c d x h) = two_digits c d b h
escape_moved front a b code e (four_digits c d f g x h) = four_digits c d f g b h
escape_moved front a b code e (in_braces d ds x h w) = in_braces d ds b h w
escape_moved front a b code e (line_end c x h) = line_end c b h
escape_moved front a b code e (line_ends x) = line_ends b
