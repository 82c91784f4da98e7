-- A text in quotes with its escapes is the piece at the front of its own text, and means its units.
use Rattle.std.proofs.Common.{◌≡◌, ℕ, ◌/◌, ◌%◌, ◌<◌, ◌≤◌, Bool, true, false, ◌&&◌, ◌==◌, List, [], ◌∷◌, ◌++◌, length, Some, refl, ap, sym, subst, ◌∙◌, arith, append_assoc, length-append}
use Rattle.std.specs.Prelude.{encode_utf8_all, if◌then◌else◌}
use Rattle.std.specs.Char.{encode_utf8, digit_char}
use Rattle.std.specs.Char.Escape.{encode_utf16}
use Rattle.std.specs.Char.Utf16.{is_high_surrogate, is_low_surrogate, surrogate_pair_char}
use Rattle.std.proofs.Math.Utf8.{scalars, scalar, low_scalar}
use Rattle.std.proofs.lemmas.Bool.Decides.{nat_tests}
use Rattle.std.proofs.lemmas.Str.{digit_value-digit_char, encodes-append, encode_ascii}
use Rattle.std.proofs.lemmas.List.{append-nil}
use Rattle.std.proofs.lemmas.Bool.{eqb-true}
use Rattle.ob_base.specs.Escapes.{is_hidden, hex_escape, other_text, unit_text, units_text}
use Rattle.ob_lex.specs.declared.token.TokenKind.TheVariants as kind
use Rattle.ob_lex.specs.declared.piece.Piece.TheVariants as piece
use Rattle.ob_lex.specs.Characters.{Characters, is_line_end, is_digit, is_quote, is_plain, is_escaped, escaped}
use Rattle.ob_lex.specs.Pieces.{hex_value, character, four_digits, Inside, closes, plain, escape}
use Rattle.ob_lex.specs.Reading.{read_map}
use Rattle.ob_lex.proofs.Classes.{both, quoted, text_first}
use Rattle.ob_lex.proofs.Front.{at_class}
use Rattle.ob_lex.proofs.Texts.{inside_again}
use Rattle.ob_tree.specs.Tokens.{quoted as quoted_text}
use Rattle.ob_print_law.proofs.Words.{and_true}
use Rattle.ob_print_law.proofs.Encoding.{encode_small, encode_pair}
use Rattle.ob_print_law.proofs.Valid.{Units}
use Rattle.ob_print_law.proofs.Cutting.{IsCut, Itself, ascii_itself}

-- characters that are written so in UTF-8, and mean these units in front of a text in quotes
pub record Means (bytes units : List ℕ) : Type 0 where
  pub cs : Characters
  pub spell : encode_utf8_all cs ≡ bytes
  pub are : scalars cs ≡ true
  pub inside : (more : Characters) (us : List ℕ) → Inside 34 more us → Inside 34 (cs ++ more) (units ++ us)

pub scalars_append : (a b : Characters) → scalars a ≡ true → scalars b ≡ true → scalars (a ++ b) ≡ true
scalars_append [] b p q = q
scalars_append (c ∷ cs) b p q = let r = both (scalar c) (scalars cs) p in and_true r.0 (scalars_append cs b r.1 q)

-- one behind the other
joined : {a b us vs : List ℕ} → Means a us → Means b vs → Means (a ++ b) (us ++ vs)
joined {a} {b} {us} {vs} p q = record {
  cs = p.cs ++ q.cs;
  spell = encodes-append p.cs q.cs ∙ ap (λ x. x ++ encode_utf8_all q.cs) p.spell ∙ ap (λ x. a ++ x) q.spell;
  are = scalars_append p.cs q.cs p.are q.are;
  inside = λ more ws d.
      let e : Inside 34 (p.cs ++ (q.cs ++ more)) (us ++ (vs ++ ws)) = p.inside (q.cs ++ more) (vs ++ ws) (q.inside more ws d) in
      subst (λ x. Inside 34 x ((us ++ vs) ++ ws)) (sym (append_assoc p.cs q.cs more)) (subst (λ x. Inside 34 (p.cs ++ (q.cs ++ more)) x) (sym (append_assoc us vs ws)) e);
}

nothing : Means [] []
nothing = record { cs = []; spell = refl; are = refl; inside = λ more us d. d }

-- ---- single units

-- a backslash and a character
escape_means : (c u : ℕ) → c < 128 → is_escaped c ≡ true → escaped c ≡ u → u < 128 → Means (92 ∷ c ∷ []) (u ∷ [])
unfolding lib.Utf8.encode
escape_means c u small h e least = record {
  cs = 92 ∷ c ∷ [];
  spell = ap (λ b. 92 ∷ b) (ap (λ b. b ++ []) (ascii c small));
  are = scalars_small c small;
  inside = λ more us d. subst (λ l. Inside 34 (92 ∷ c ∷ more) (l ++ us)) (ap encode_utf16 e ∙ encode_small u (omega arith)) (escape (c ∷ []) more (Some (escaped c)) us (character c more h) d);
}
  where
    ascii : (c : ℕ) → c < 128 → encode_utf8 c ≡ c ∷ []
    ascii c h = encode_ascii c h

    scalars_small : (c : ℕ) → c < 128 → scalars (92 ∷ c ∷ []) ≡ true
    scalars_small c h = let s : scalar c ≡ true = low_scalar c (omega arith) in ap (λ b. b && true) s

quote_means : Means (92 ∷ 34 ∷ []) (34 ∷ [])
unfolding is_escaped escaped is_line_end is_digit
quote_means = escape_means 34 34 (omega arith) refl refl (omega arith)

backslash_means : Means (92 ∷ 92 ∷ []) (92 ∷ [])
unfolding is_escaped escaped is_line_end is_digit
backslash_means = escape_means 92 92 (omega arith) refl refl (omega arith)

feed_means : Means (92 ∷ 110 ∷ []) (10 ∷ [])
unfolding is_escaped escaped is_line_end is_digit
feed_means = escape_means 110 10 (omega arith) refl refl (omega arith)

return_means : Means (92 ∷ 114 ∷ []) (13 ∷ [])
unfolding is_escaped escaped is_line_end is_digit
return_means = escape_means 114 13 (omega arith) refl refl (omega arith)

tab_means : Means (92 ∷ 116 ∷ []) (9 ∷ [])
unfolding is_escaped escaped is_line_end is_digit
tab_means = escape_means 116 9 (omega arith) refl refl (omega arith)

-- hexadecimal digits
hex_digit : (d : ℕ) → d < 16 → is_digit 16 (digit_char d) ≡ true
unfolding is_digit
hex_digit d h = let v = digit_value-digit_char d (omega arith) in grind (arith, nat_tests)

hex_small : (d : ℕ) → d < 16 → digit_char d < 128
hex_small d h = grind (arith, nat_tests)

hex_itself : (a b c d : ℕ) → a < 128 → b < 128 → c < 128 → d < 128 → Itself (92 ∷ 117 ∷ a ∷ b ∷ c ∷ d ∷ [])
hex_itself a b c d p q r s = ascii_itself (92 ∷ 117 ∷ a ∷ b ∷ c ∷ d ∷ []) (λ i. grind (arith, nat_tests))

hex_worth : (u : ℕ) → u < 0x10000 → hex_value 0 (digit_char (u / 0x1000) ∷ digit_char (u / 0x100 % 16) ∷ digit_char (u / 0x10 % 16) ∷ digit_char (u % 16) ∷ []) ≡ u
hex_worth u h =
    let a = digit_value-digit_char (u / 0x1000) (omega arith) in
    let b = digit_value-digit_char (u / 0x100 % 16) (omega arith) in
    let c = digit_value-digit_char (u / 0x10 % 16) (omega arith) in
    let d = digit_value-digit_char (u % 16) (omega arith) in
    omega (arith, a, b, c, d)

hidden_means : (u : ℕ) → u < 0x10000 → Means (hex_escape u) (u ∷ [])
hidden_means u h =
    let a = digit_char (u / 0x1000) in
    let b = digit_char (u / 0x100 % 16) in
    let c = digit_char (u / 0x10 % 16) in
    let d = digit_char (u % 16) in
    let ha : u / 0x1000 < 16 = omega arith in
    let hb : u / 0x100 % 16 < 16 = omega arith in
    let hc : u / 0x10 % 16 < 16 = omega arith in
    let hd : u % 16 < 16 = omega arith in
    let s = hex_itself a b c d (hex_small _ ha) (hex_small _ hb) (hex_small _ hc) (hex_small _ hd) in
    record {
      cs = 92 ∷ 117 ∷ a ∷ b ∷ c ∷ d ∷ [];
      spell = s.1;
      are = s.0;
      inside = λ more us k.
          subst (λ l. Inside 34 (92 ∷ 117 ∷ a ∷ b ∷ c ∷ d ∷ more) (l ++ us)) (ap encode_utf16 (hex_worth u h) ∙ encode_small u h)
          (escape (117 ∷ a ∷ b ∷ c ∷ d ∷ []) more (Some (hex_value 0 (a ∷ b ∷ c ∷ d ∷ []))) us (four_digits a b c d more (hex_digit _ ha, (hex_digit _ hb, (hex_digit _ hc, (hex_digit _ hd, tt))))) k);
    }

-- the character itself
plain_means : (c : ℕ) (units : List ℕ) → scalar c ≡ true → is_plain 34 c ≡ true → encode_utf16 c ≡ units → Means (encode_utf8 c) units
plain_means c units s p e = record {
  cs = c ∷ [];
  spell = append-nil (encode_utf8 c);
  are = ap (λ b. b && true) s;
  inside = λ more us d. subst (λ l. Inside 34 (c ∷ more) (l ++ us)) e (plain c more us p d);
}

is_plain_at : (u : ℕ) → (u == 34) ≡ false → (u == 92) ≡ false → (u == 10) ≡ false → (u == 13) ≡ false → is_plain 34 u ≡ true
unfolding is_plain
is_plain_at u a b c d = rw (a, b, c, d) refl

shown_scalar : (u : ℕ) → u < 0x10000 → is_hidden u ≡ false → scalar u ≡ true
shown_scalar u h e = grind (arith, nat_tests)

other_by : (u : ℕ) → u < 0x10000 → (u == 34) ≡ false → (u == 92) ≡ false → (u == 10) ≡ false → (u == 13) ≡ false → (b : Bool) → is_hidden u ≡ b
    → Means (if b then hex_escape u else encode_utf8 u) (u ∷ [])
other_by u h p q r s true e = hidden_means u h
other_by u h p q r s false e = plain_means u (u ∷ []) (shown_scalar u h e) (is_plain_at u p q r s) (encode_small u h)

at_unit : (k u : ℕ) {bytes : List ℕ} → (u == k) ≡ true → Means bytes (k ∷ []) → Means bytes (u ∷ [])
at_unit k u {bytes} e m = subst (λ v. Means bytes (v ∷ [])) (sym (eqb-true u k e)) m

unit_by : (u : ℕ) → u < 0x10000 → (a b c d e : Bool) → (u == 34) ≡ a → (u == 92) ≡ b → (u == 10) ≡ c → (u == 13) ≡ d → (u == 9) ≡ e
    → Means (if a && true then 92 ∷ 34 ∷ [] else if b then 92 ∷ 92 ∷ [] else if c then 92 ∷ 110 ∷ [] else if d then 92 ∷ 114 ∷ [] else if e then 92 ∷ 116 ∷ [] else other_text u) (u ∷ [])
unit_by u h true b c d e p q r s t = at_unit 34 u p quote_means
unit_by u h false true c d e p q r s t = at_unit 92 u q backslash_means
unit_by u h false false true d e p q r s t = at_unit 10 u r feed_means
unit_by u h false false false true e p q r s t = at_unit 13 u s return_means
unit_by u h false false false false true p q r s t = at_unit 9 u t tab_means
unit_by u h false false false false false p q r s t = other_by u h p q r s (is_hidden u) refl

unit_means : (u : ℕ) → u < 0x10000 → Means (unit_text true u) (u ∷ [])
unfolding unit_text
unit_means u h = unit_by u h (u == 34) (u == 92) (u == 10) (u == 13) (u == 9) refl refl refl refl refl

-- ---- texts

pair_means : (u v : ℕ) → (is_high_surrogate u && is_low_surrogate v) ≡ true → Means (encode_utf8 (surrogate_pair_char u v)) (u ∷ v ∷ [])
pair_means u v h =
    let k = both (is_high_surrogate u) (is_low_surrogate v) h in
    let a : 0xD800 ≤ u = grind (arith, nat_tests) in
    let b : u < 0xDC00 = grind (arith, nat_tests) in
    let c : 0xDC00 ≤ v = grind (arith, nat_tests) in
    let d : v < 0xE000 = grind (arith, nat_tests) in
    let n = surrogate_pair_char u v in
    let low : 0x10000 ≤ n = omega arith in
    let high : n < 0x110000 = omega arith in
    plain_means n (u ∷ v ∷ []) (grind (arith, nat_tests)) (is_plain_at n (grind (arith, nat_tests)) (grind (arith, nat_tests)) (grind (arith, nat_tests)) (grind (arith, nat_tests)))
    (encode_pair u v a c d)

two_by : (u v : ℕ) (us : List ℕ) → u < 0x10000 → Means (units_text true us) us → Means (units_text true (v ∷ us)) (v ∷ us) → (b : Bool) → (is_high_surrogate u && is_low_surrogate v) ≡ b
    → Means (if b then encode_utf8 (surrogate_pair_char u v) ++ units_text true us else unit_text true u ++ units_text true (v ∷ us)) (u ∷ v ∷ us)
two_by u v us h m n true e = joined (pair_means u v e) m
two_by u v us h m n false e = joined (unit_means u h) n

pub units_mean : (us : List ℕ) → Units us → Means (units_text true us) us
units_mean [] h = nothing
units_mean (u ∷ []) h = unit_means u h.0
units_mean (u ∷ v ∷ us) h = two_by u v us h.0 (units_mean us h.1.1) (units_mean (v ∷ us) h.1) (is_high_surrogate u && is_low_surrogate v) refl

-- the characters of a text in quotes
pub record Quotes (us : List ℕ) : Type 0 where
  pub cs : Characters
  pub spell : encode_utf8_all cs ≡ quoted_text us
  pub are : scalars cs ≡ true
  pub cut : IsCut cs (kind.Text us)

quote_is : is_quote 34 ≡ true
unfolding is_quote
quote_is = refl

text_cut : (us : List ℕ) (inner : Characters) → Inside 34 (inner ++ 34 ∷ []) us → IsCut (34 ∷ inner ++ 34 ∷ []) (kind.Text us)
text_cut us inner d rest f =
    let all = inner ++ 34 ∷ [] in
    at_class 34 (all ++ rest) quoted (text_first 34 quote_is)
    ∙ ap (read_map (λ k. piece.Token k)) (ap (read_map (λ units. kind.Text units)) (inside_again 34 all rest us quote_is d (length (all ++ rest)) (omega (arith, length-append all rest))))

pub quotes : (us : List ℕ) → Units us → Quotes us
unfolding quoted_text lib.Utf8.encode
quotes us h =
    let m = units_mean us h in
    record {
      cs = 34 ∷ m.cs ++ 34 ∷ [];
      spell = ap (λ l. 34 ∷ l) (encodes-append m.cs (34 ∷ []) ∙ ap (λ l. l ++ 34 ∷ []) m.spell);
      are = scalars_append m.cs (34 ∷ []) m.are refl;
      cut = text_cut us m.cs (subst (λ l. Inside 34 (m.cs ++ 34 ∷ []) l) (append-nil us) (m.inside (34 ∷ []) [] closes));
    }
