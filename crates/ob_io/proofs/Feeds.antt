-- The first line feed, as `memchr` finds it.
use Rattle.std.proofs.Common.{◌≡◌, ℕ, List, Bool, true, false, not, length, get_or, refl, sym, ap, arith}
use Rattle.std.proofs.lemmas.List.Sums.{prefix_len_is}
use Rattle.memchr.specs.Find.{Nowhere, NoneBefore, Passes, is_byte}
use Rattle.ob_io.specs.Lines.{is_line_feed, line_len}

others : (b : Bool) → (b ≡ true → ⊥) → not b ≡ true
others true h = absurd (h refl)
others false h = refl

abbrev in_line : ℕ → Bool
in_line byte = not (is_line_feed byte)

pub line_len-found : (xs : List ℕ) (n : ℕ) → NoneBefore (Passes (is_byte 10) xs) 0 (length xs) n → Passes (is_byte 10) xs n → n ≡ line_len xs
line_len-found xs n none here = sym (prefix_len_is in_line xs n 0 (omega arith) (λ k h. others (is_line_feed (get_or xs k 0)) (none.before k (omega arith) h)) (λ _. ap not here))

pub line_len-none : (xs : List ℕ) → Nowhere (Passes (is_byte 10) xs) 0 (length xs) → length xs ≡ line_len xs
line_len-none xs none = sym (prefix_len_is in_line xs (length xs) 0 (omega arith) (λ k h. others (is_line_feed (get_or xs k 0)) (none k (omega arith) h)) (λ h. absurd (omega arith)))
