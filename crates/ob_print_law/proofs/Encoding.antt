-- UTF-16 of characters.
use Rattle.std.proofs.Common.{◌≡◌, ℕ, ◌+◌, ◌-◌, ◌<◌, ◌≤◌, inl, inr, Bool, true, false, cond, List, [], ◌∷◌, ◌++◌, refl, ap, ◌∙◌, arith}
use Rattle.std.specs.Prelude.{◌/◌, ◌%◌, nat_lt}
use Rattle.std.specs.List.{flat_map}
use Rattle.std.specs.Char.Escape.{encode_utf16}
use Rattle.std.specs.Char.Utf16.{surrogate_pair_char}
use Rattle.std.proofs.Math.Utf8.{scalars, scalar, scalar_cases}
use Rattle.std.proofs.lemmas.Bool.Decides.{nat_tests}
use Rattle.ob_lex.proofs.Classes.{both}
use Rattle.ob_print_law.proofs.Valid.{Units}

encode_small_by : (u : ℕ) (b : Bool) → nat_lt u 0x10000 ≡ b → u < 0x10000 → cond b (u ∷ []) ((0xD800 + (u - 0x10000) / 0x400) ∷ (0xDC00 + (u - 0x10000) % 0x400) ∷ []) ≡ u ∷ []
encode_small_by u true e h = refl
encode_small_by u false e h = absurd (grind (arith, nat_tests))

pub encode_small : (u : ℕ) → u < 0x10000 → encode_utf16 u ≡ u ∷ []
encode_small u h = encode_small_by u (nat_lt u 0x10000) refl h

pub units_append : (us vs : List ℕ) → Units us → Units vs → Units (us ++ vs)
units_append [] vs h k = k
units_append (u ∷ us) vs h k = (h.0, units_append us vs h.1 k)

pub below_limit : (c : ℕ) → scalar c ≡ true → c < 0x110000
below_limit c h = elim (scalar_cases c h) [ inl e ↦ omega (arith, e) | inr e ↦ omega (arith, e.1) ]

encode_units_by : (c : ℕ) → c < 0x110000 → (b : Bool) → nat_lt c 0x10000 ≡ b → Units (cond b (c ∷ []) ((0xD800 + (c - 0x10000) / 0x400) ∷ (0xDC00 + (c - 0x10000) % 0x400) ∷ []))
encode_units_by c h true e = (grind (arith, nat_tests), tt)
encode_units_by c h false e = (grind (arith, nat_tests), (grind (arith, nat_tests), tt))

pub encode_units : (c : ℕ) → c < 0x110000 → Units (encode_utf16 c)
encode_units c h = encode_units_by c h (nat_lt c 0x10000) refl

pub all_units : (cs : List ℕ) → scalars cs ≡ true → Units (flat_map encode_utf16 cs)
all_units [] h = tt
all_units (c ∷ cs) h = let p = both (scalar c) (scalars cs) h in units_append (encode_utf16 c) (flat_map encode_utf16 cs) (encode_units c (below_limit c p.0)) (all_units cs p.1)

pub same_units : (us : List ℕ) → Units us → flat_map encode_utf16 us ≡ us
same_units [] h = refl
same_units (u ∷ us) h = ap (λ l. l ++ flat_map encode_utf16 us) (encode_small u h.0) ∙ ap (λ l. u ∷ l) (same_units us h.1)

-- a pair of surrogates
encode_pair_by : (n u v : ℕ) (b : Bool) → nat_lt n 0x10000 ≡ b → 0x10000 ≤ n → 0xD800 + (n - 0x10000) / 0x400 ≡ u → 0xDC00 + (n - 0x10000) % 0x400 ≡ v
    → cond b (n ∷ []) ((0xD800 + (n - 0x10000) / 0x400) ∷ (0xDC00 + (n - 0x10000) % 0x400) ∷ []) ≡ u ∷ v ∷ []
encode_pair_by n u v true e le h k = absurd (grind (arith, nat_tests))
encode_pair_by n u v false e le h k = ap (λ x. x ∷ (0xDC00 + (n - 0x10000) % 0x400) ∷ []) h ∙ ap (λ x. u ∷ x ∷ []) k

pub encode_pair : (u v : ℕ) → 0xD800 ≤ u → 0xDC00 ≤ v → v < 0xE000 → encode_utf16 (surrogate_pair_char u v) ≡ u ∷ v ∷ []
encode_pair u v a b c = let n = surrogate_pair_char u v in encode_pair_by n u v (nat_lt n 0x10000) refl (omega arith) (omega arith) (omega arith)
