-- Texts that stand again and again.
use Rattle.std.proofs.Common.{◌≡◌, ℕ, zero, suc, ◌+◌, ◌-◌, ◌*◌, ◌/◌, ◌%◌, ◌<◌, ◌≤◌, List, [], ◌∷◌, ◌++◌, length, take, refl, ap, sym, ◌∙◌, arith, append_assoc, length-append, length-take}
use Rattle.std.proofs.lemmas.List.{append-nil, take-append-le}
use Rattle.std.specs.List.{repeat}
use Rattle.ob_values.specs.TextMethods.{padding}

pub length_repeat : (n : ℕ) (xs : List ℕ) → length (repeat n xs) ≡ length xs * n
length_repeat zero xs = omega arith
length_repeat (suc n) xs = length-append xs (repeat n xs) ∙ omega (arith, length_repeat n xs)

repeat_none : (n : ℕ) → repeat {A = ℕ} n [] ≡ []
repeat_none zero = refl
repeat_none (suc n) = repeat_none n

pub repeat_add : (m n : ℕ) (xs : List ℕ) → repeat (m + n) xs ≡ repeat m xs ++ repeat n xs
repeat_add zero n xs = let e : 0 + n ≡ n = omega arith in ap (λ k. repeat k xs) e
repeat_add (suc m) n xs =
    let e : suc m + n ≡ suc (m + n) = omega arith in
    ap (λ k. repeat k xs) e ∙ ap (λ ys. xs ++ ys) (repeat_add m n xs) ∙ sym (append_assoc xs (repeat m xs) (repeat n xs))

pub repeat_more : (n : ℕ) (xs : List ℕ) → repeat (n + 1) xs ≡ repeat n xs ++ xs
repeat_more n xs = repeat_add n 1 xs ∙ ap (λ ys. repeat n xs ++ ys) (append-nil xs)

take_none : (n : ℕ) → take {A = ℕ} n [] ≡ []
take_none zero = refl
take_none (suc n) = refl

-- the empty pad gives none
pub padding_none : (n : ℕ) (pad : List ℕ) → length pad ≡ 0 → padding n pad ≡ []
padding_none n [] e = ap (take n) (repeat_none n) ∙ take_none n
padding_none n (u ∷ us) e = absurd (omega arith)

at_least : (n m : ℕ) → 1 ≤ m → n ≤ m * n
at_least n zero h = absurd (omega arith)
at_least n (suc m) h = grind arith

pub length_padding : (n : ℕ) (pad : List ℕ) → 0 < length pad → length (padding n pad) ≡ n
length_padding n pad h =
    length-take n (repeat n pad) ∙ omega (arith, length_repeat n pad, at_least n (length pad) h)

take_first : (r d : ℕ) (xs : List ℕ) → r ≤ length xs → (d ≡ 0 → r ≡ 0) → take r (repeat d xs) ≡ take r xs
take_first r zero xs h none = let e : r ≡ 0 = none refl in ap (λ k. take k []) e ∙ sym (ap (λ k. take k xs) e)
take_first r (suc d) xs h none = take-append-le r xs (repeat d xs) h

take_behind : (n : ℕ) (xs ys : List ℕ) → take (length xs + n) (xs ++ ys) ≡ xs ++ take n ys
take_behind n [] ys = let e : 0 + n ≡ n = omega arith in ap (λ k. take k ys) e
take_behind n (x ∷ xs) ys =
    let e : suc (length xs) + n ≡ suc (length xs + n) = omega arith in
    ap (λ k. take k ((x ∷ xs) ++ ys)) e ∙ ap (λ zs. x ∷ zs) (take_behind n xs ys)

parts_by : (q r p : ℕ) (pad : List ℕ) → length pad ≡ p → r < p → repeat q pad ++ take r pad ≡ padding (p * q + r) pad
parts_by q r p pad len below =
    let k = p * q + r in
    let few : q ≤ p * q = at_least q p (omega arith) in
    let all : q + (k - q) ≡ k = omega arith in
    let cut : length (repeat q pad) + r ≡ k = omega (arith, length_repeat q pad, ap (λ n. n * q) len) in
    let rest : take r (repeat (k - q) pad) ≡ take r pad = take_first r (k - q) pad (omega arith) (λ e. omega arith) in
    sym (ap (λ n. take k (repeat n pad)) (sym all) ∙ ap (take k) (repeat_add q (k - q) pad)
    ∙ ap (λ n. take n (repeat q pad ++ repeat (k - q) pad)) (sym cut) ∙ take_behind r (repeat q pad) (repeat (k - q) pad) ∙ ap (λ ys. repeat q pad ++ ys) rest)

-- a pad whole as often as it fits, and then its first units
pub padding_parts : (k : ℕ) (pad : List ℕ) → 0 < length pad → repeat (k / length pad) pad ++ take (k % length pad) pad ≡ padding k pad
padding_parts k pad h =
    let below : k % length pad < length pad = omega arith in
    let all : length pad * (k / length pad) + k % length pad ≡ k = omega arith in
    parts_by (k / length pad) (k % length pad) (length pad) pad refl below ∙ ap (λ n. padding n pad) all
