-- The characters of UTF-16 code units, one after another.
use Rattle.std.proofs.Common.{◌+◌, ◌-◌, ◌/◌, ◌%◌, ◌⊎◌, inl, inr, map, flat_map, Some, ◌≡◌, ℕ, zero, suc, ◌<◌, ◌≤◌, ◌∷◌, [], ◌++◌, List, Bool, true, false, true≢false, drop, length, get_or, refl, sym, ap, ◌∙◌, arith}
use Rattle.std.proofs.lemmas.List.{append-nil}
use Rattle.std.proofs.Math.ListN.{drop_of_length-le}
use Rattle.std.specs.Prelude.{◌&&◌, unwrap_or}
use Rattle.std.proofs.lemmas.Bool.{cases_lt}
use Rattle.std.proofs.lemmas.Slice.Eq.{bytes_eq-Decides}
use Rattle.std.proofs.lemmas.Str.{chars-encodes, utf16_chars-nil, utf16_chars_lone, utf16_chars_pair}
use Rattle.std.proofs.str.Utf16.{one_unit, two_units, lone_unit_char_low, lone_unit_char_high}
use Rattle.std.specs.Char.Escape.{encode_utf16}
use Rattle.std.specs.Str.{encode_utf8_all, chars, IsUtf8}
use lib.Utf8.{scalar, scalars, scalar_cases}
use Rattle.std.specs.Char.Utf16.{utf16_chars, utf16_lossy_chars, lone_unit_char, surrogate_pair_char, is_high_surrogate, is_low_surrogate}
use Rattle.ob_script.specs.Forms.{is_text}
use Rattle.ob_base.specs.Utf16.{utf16}
use Rattle.ob_script.specs.Texts.{utf8}

no_pair : (b : Bool) → (b && false) ≡ true → ⊥
no_pair true h = true≢false (sym h)
no_pair false h = true≢false (sym h)

pair : (us : List ℕ) (i : ℕ) → (is_high_surrogate (get_or us i 0) && is_low_surrogate (get_or us (suc i) 0)) ≡ true
    → utf16_lossy_chars (drop i us) ≡ surrogate_pair_char (get_or us i 0) (get_or us (suc i) 0) ∷ utf16_lossy_chars (drop (suc (suc i)) us)
unfolding utf16_chars
pair [] i h = absurd (true≢false (sym h))
pair (u ∷ []) zero h = absurd (no_pair (is_high_surrogate u) h)
pair (u ∷ v ∷ us) zero h = rw h refl
pair (u ∷ us) (suc i) h = pair us i h

lone : (us : List ℕ) (i : ℕ) → i < length us → (is_high_surrogate (get_or us i 0) && is_low_surrogate (get_or us (suc i) 0)) ≡ false
    → utf16_lossy_chars (drop i us) ≡ unwrap_or (lone_unit_char (get_or us i 0)) 0xFFFD ∷ utf16_lossy_chars (drop (suc i) us)
unfolding utf16_chars
lone [] i l h = absurd (omega arith)
lone (u ∷ []) zero l h = refl
lone (u ∷ v ∷ us) zero l h = rw h refl
lone (u ∷ us) (suc i) l h = lone us i (omega arith) h

pub lossy_pair : (us : List ℕ) (i j k : ℕ) → j ≡ suc i → k ≡ suc (suc i)
    → (is_high_surrogate (get_or us i 0) && is_low_surrogate (get_or us j 0)) ≡ true
    → utf16_lossy_chars (drop i us) ≡ surrogate_pair_char (get_or us i 0) (get_or us j 0) ∷ utf16_lossy_chars (drop k us)
lossy_pair us i j k e f h = rw (e, f) (pair us i (rw e at h))

pub lossy_lone : (us : List ℕ) (i j : ℕ) → j ≡ suc i → i < length us
    → (is_high_surrogate (get_or us i 0) && is_low_surrogate (get_or us j 0)) ≡ false
    → utf16_lossy_chars (drop i us) ≡ unwrap_or (lone_unit_char (get_or us i 0)) 0xFFFD ∷ utf16_lossy_chars (drop j us)
lossy_lone us i j e l h = rw e (lone us i l (rw e at h))

none_left : (rest : List ℕ) → rest ≡ [] → encode_utf8_all (utf16_lossy_chars rest) ≡ []
unfolding utf16_chars
none_left rest e = rw e refl

pub lossy_end : (text units : List ℕ) (i : ℕ) → length units ≤ i
    → text ++ encode_utf8_all (utf16_lossy_chars (drop i units)) ≡ encode_utf8_all (utf16_lossy_chars units) → text ≡ utf8 units
unfolding utf8
lossy_end text units i l e =
    sym (append-nil text) ∙ (ap (λ (bs : List ℕ). text ++ bs) (sym (none_left (drop i units) (drop_of_length-le units l))) ∙ e)

-- ---- the units of a text, and back

split : (a b : Bool) → (a && b) ≡ true → (a ≡ true) × (b ≡ true)
split true true h = (refl, refl)
split true false h = (refl, h)
split false b h = absurd (true≢false (sym h))

one : (c : ℕ) (us : List ℕ) → c < 0x1_0000 → (c < 0xD800) ⊎ (0xE000 ≤ c) → utf16_chars (encode_utf16 c ++ us) ≡ Some c ∷ utf16_chars us
one c us l (inl low) =
    rw (one_unit c l, utf16_chars_lone c us (λ p. absurd (omega (arith, p.0)))) (ap (λ o. o ∷ utf16_chars us) (lone_unit_char_low c low))
one c us l (inr high) =
    rw (one_unit c l, utf16_chars_lone c us (λ p. absurd (omega (arith, p.1)))) (ap (λ o. o ∷ utf16_chars us) (lone_unit_char_high c high))

two : (c : ℕ) (us : List ℕ) → 0x1_0000 ≤ c → c < 0x11_0000 → utf16_chars (encode_utf16 c ++ us) ≡ Some c ∷ utf16_chars us
two c us l h =
    let whole : surrogate_pair_char (0xD800 + (c - 0x1_0000) / 0x400) (0xDC00 + (c - 0x1_0000) % 0x400) ≡ c = omega arith in
    rw (two_units c l)
    (utf16_chars_pair (0xD800 + (c - 0x1_0000) / 0x400) (0xDC00 + (c - 0x1_0000) % 0x400) us (omega arith, omega arith, omega arith, omega arith)
    ∙ ap (λ d. Some d ∷ utf16_chars us) whole)

outside : (c : ℕ) → (c < 0xD800) ⊎ ((0xE000 ≤ c) × (c < 0x11_0000)) → (c < 0xD800) ⊎ (0xE000 ≤ c)
outside c (inl h) = inl h
outside c (inr h) = inr h.0

within : (c : ℕ) → (c < 0xD800) ⊎ ((0xE000 ≤ c) × (c < 0x11_0000)) → c < 0x11_0000
within c (inl h) = omega arith
within c (inr h) = h.1

turn : (c : ℕ) (us : List ℕ) → scalar c ≡ true → (c < 0x1_0000) ⊎ (0x1_0000 ≤ c) → utf16_chars (encode_utf16 c ++ us) ≡ Some c ∷ utf16_chars us
turn c us s (inl l) = one c us l (outside c (scalar_cases c s))
turn c us s (inr l) = two c us l (within c (scalar_cases c s))

chars_back : (cs : List ℕ) → scalars cs ≡ true → utf16_chars (flat_map encode_utf16 cs) ≡ map Some cs
chars_back [] h = utf16_chars-nil
chars_back (c ∷ cs) h =
    let p = split (scalar c) (scalars cs) h in
    turn c (flat_map encode_utf16 cs) p.0 (cases_lt c 0x1_0000) ∙ ap (λ os. Some c ∷ os) (chars_back cs p.1)

all_there : (cs : List ℕ) → map (λ o. unwrap_or o 0xFFFD) (map Some cs) ≡ cs
all_there [] = refl
all_there (c ∷ cs) = ap (λ ds. c ∷ ds) (all_there cs)

pub utf8_utf16 : (text : List ℕ) → IsUtf8 text → utf8 (utf16 text) ≡ text
unfolding utf8 utf16
utf8_utf16 text u =
    let k : chars text ≡ u.0 = ap chars (sym u.1.1) ∙ chars-encodes u.0 u.1.0 in
    rw (k, chars_back u.0 u.1.0, all_there u.0) u.1.1

pub same_text : (units : List ℕ) → is_text units ≡ true → utf16 (utf8 units) ≡ units
same_text units h = (bytes_eq-Decides (utf16 (utf8 units)) units).0 h

pub text_of_utf16 : (text : List ℕ) → IsUtf8 text → is_text (utf16 text) ≡ true
text_of_utf16 text u = (bytes_eq-Decides (utf16 (utf8 (utf16 text))) (utf16 text)).1 (ap utf16 (utf8_utf16 text u))
