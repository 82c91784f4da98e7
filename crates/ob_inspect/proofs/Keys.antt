-- Plain keys are characters of ASCII.
use Rattle.std.proofs.Common.{◌≡◌, ℕ, ◌<◌, ◌^◌, Bool, true, false, List, [], ◌∷◌, Some, None, ◌&&◌, ◌||◌, arith, refl, sym, ap, subst, ◌∙◌, decimal, nat_eq, nat_lt}
use Rattle.std.specs.Prelude.{is_some, if◌then◌else◌}
use Rattle.std.specs.List.{All}
use Rattle.std.specs.Cmp.Lexicographic.{pointwise}
use Rattle.std.proofs.lemmas.Bool.{true≢false, eqb-true}
use Rattle.std.proofs.lemmas.Bool.Decides.{nat_tests}
use Rattle.std.proofs.lemmas.Fmt.{IsAscii-decimal}
use Rattle.std.proofs.lemmas.Str.Ascii.{All-from_ascii}
use Rattle.ob_items.specs.IndexText.{index_in, read}
use Rattle.ob_base.specs.Escapes.{is_ascii_word}
use Rattle.ob_base.proofs.AsciiWords.{word_is_ascii}
use Rattle.ob_values.specs.Inspect.{is_plain_key}

right : (a b : Bool) → (a && b) ≡ true → b ≡ true
right true b h = h
right false b h = absurd (true≢false (sym h))

same_text : (xs ys : List ℕ) → pointwise nat_eq xs ys ≡ true → xs ≡ ys
same_text [] [] e = refl
same_text [] (y ∷ ys) e = absurd (true≢false (sym e))
same_text (x ∷ xs) [] e = absurd (true≢false (sym e))
same_text (x ∷ xs) (y ∷ ys) e = by (nat_eq x y) refl (λ t. same_text xs ys t)
  where
    by : (b : Bool) → nat_eq x y ≡ b → (pointwise nat_eq xs ys ≡ true → xs ≡ ys) → x ∷ xs ≡ y ∷ ys
    by true h rest = let t : pointwise nat_eq xs ys ≡ true = sym (ap (λ c. c && pointwise nat_eq xs ys) h) ∙ e in λ i. eqb-true x y h i ∷ rest t i
    by false h rest = absurd (true≢false (sym (sym (ap (λ c. c && pointwise nat_eq xs ys) h) ∙ e)))

tests : (b c : Bool) (n : ℕ) → is_some (if b && c then Some n else None) ≡ true → (b ≡ true) × (c ≡ true)
tests true true n h = (refl, refl)
tests true false n h = absurd (true≢false (sym h))
tests false c n h = absurd (true≢false (sym h))

within : (n : ℕ) → nat_lt n 4294967295 ≡ true → n < 4294967295
within n h = grind (arith, nat_tests)

index_is_ascii : (units : List ℕ) → is_some (index_in units) ≡ true → All (λ u. u < 128) units
index_is_ascii units h =
    let t : (pointwise nat_eq units (decimal (read units)) ≡ true) × (nat_lt (read units) 4294967295 ≡ true) = tests _ _ _ h in
    let l : read units < 4294967295 = within _ t.1 in
    let below : read units < 2 ^ 64 = omega (arith, l) in
    subst (All (λ u. u < 128)) (sym (same_text units _ t.0)) (All-from_ascii _ (IsAscii-decimal (read units) below))

either : (units : List ℕ) (w : Bool) → is_ascii_word units ≡ w → (w || is_some (index_in units)) ≡ true → All (λ u. u < 128) units
either units true e h = word_is_ascii units e
either units false e h = index_is_ascii units h

pub plain_is_ascii : (units : List ℕ) → is_plain_key units ≡ true → All (λ u. u < 128) units
unfolding is_plain_key
plain_is_ascii units h = either units (is_ascii_word units) refl (right _ _ h)
