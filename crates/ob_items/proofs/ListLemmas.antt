-- What stands at a place of a list after a write or a push.
use Rattle.std.proofs.Common.{◌≡◌, ◌≢◌, ◌⊎◌, ℕ, zero, suc, ◌≤◌, Some, None, sym, ◌+◌, ◌-◌, List, [], ◌∷◌, ◌++◌, ◌∙◌, refl, slice_get, slice_set, ap, arith, length, map, take, inl, inr}
use Rattle.std.proofs.Math.Seq.{take-append_seam}
use Rattle.std.proofs.lemmas.List.{take-map}
use Rattle.std.proofs.lemmas.Grind.{common_steps}
use Rattle.std.proofs.lemmas.Bool.{cases_lt}
use Rattle.std.proofs.lemmas.Option.{same_Some, none-some}

pub slice_get-set_same : {X : Type 0} (xs : List X) (i : ℕ) (v old : X) → slice_get xs i ≡ Some old → slice_get (slice_set xs i v) i ≡ Some v
slice_get-set_same [] i v old e = grind (arith, common_steps)
slice_get-set_same (x ∷ xs) zero v old e = refl
slice_get-set_same (x ∷ xs) (suc i) v old e = slice_get-set_same xs i v old e

pub slice_get-set_other : {X : Type 0} (xs : List X) (i j : ℕ) (v : X) → j ≢ i → slice_get (slice_set xs i v) j ≡ slice_get xs j
slice_get-set_other [] i j v n = refl
slice_get-set_other (x ∷ xs) zero zero v n = absurd (n refl)
slice_get-set_other (x ∷ xs) zero (suc j) v n = refl
slice_get-set_other (x ∷ xs) (suc i) zero v n = refl
slice_get-set_other (x ∷ xs) (suc i) (suc j) v n = slice_get-set_other xs i j v (λ e. n (ap suc e))

pub slice_get-push_last : {X : Type 0} (xs : List X) (x : X) → slice_get (xs ++ x ∷ []) (length xs) ≡ Some x
slice_get-push_last [] x = refl
slice_get-push_last (y ∷ ys) x = slice_get-push_last ys x

pub slice_get-push_other : {X : Type 0} (xs : List X) (x : X) (i : ℕ) → i ≢ length xs → slice_get (xs ++ x ∷ []) i ≡ slice_get xs i
slice_get-push_other [] x zero n = absurd (n refl)
slice_get-push_other [] x (suc i) n = refl
slice_get-push_other (y ∷ ys) x zero n = refl
slice_get-push_other (y ∷ ys) x (suc i) n = slice_get-push_other ys x i (λ e. n (ap suc e))

pub slice_get-push_within : {X : Type 0} (xs : List X) (x y : X) (i : ℕ) → slice_get xs i ≡ Some y → slice_get (xs ++ x ∷ []) i ≡ Some y
slice_get-push_within [] x y i e = grind (arith, common_steps)
slice_get-push_within (z ∷ zs) x y zero e = e
slice_get-push_within (z ∷ zs) x y (suc i) e = slice_get-push_within zs x y i e

pub equal_or_not : (i j : ℕ) → (i ≡ j) ⊎ (i ≢ j)
equal_or_not i j =
    elim (cases_lt i j) [
      | inl l ↦ inr (λ e. omega arith)
      | inr l ↦ elim (cases_lt j i) [ inl m ↦ inr (λ e. omega arith) | inr m ↦ inl (omega arith) ]
    ]

pub map_take_more : {X Y : Type 0} (f : X → Y) (xs : List X) (k : ℕ) (x : X) → slice_get xs k ≡ Some x → map f (take (k + 1) xs) ≡ map f (take k xs) ++ f x ∷ []
map_take_more f [] k x e = grind (arith, common_steps)
map_take_more f (y ∷ ys) zero x e = ap (λ z. f z ∷ []) (same_Some y x e)
map_take_more f (y ∷ ys) (suc k) x e =
    let h : suc k + 1 ≡ suc (k + 1) = omega arith in
    ap (λ n. map f (take n (y ∷ ys))) h ∙ ap (λ zs. f y ∷ zs) (map_take_more f ys k x e)

pub length-le-none : {X : Type 0} (xs : List X) (k : ℕ) → slice_get xs k ≡ None → length xs ≤ k
length-le-none [] k e = omega arith
length-le-none (y ∷ ys) zero e = absurd (none-some y (sym e))
length-le-none (y ∷ ys) (suc k) e = omega (arith, length-le-none ys k e)

-- the first n of a list that is split after n, or before it at its end
pub first_split : {X : Type 0} (n : ℕ) (xs ys zs : List X) → xs ++ ys ≡ zs → length xs ≡ n → xs ≡ take n zs
first_split n xs ys zs e h = sym (ap (take n) (sym e) ∙ ap (λ k. take k (xs ++ ys)) (sym h) ∙ take-append_seam xs ys)

pub first_whole : {X : Type 0} (n : ℕ) (xs : List X) → length xs ≤ n → xs ≡ take n xs
first_whole zero [] h = refl
first_whole (suc n) [] h = refl
first_whole zero (x ∷ xs) h = absurd (omega arith)
first_whole (suc n) (x ∷ xs) h = ap (λ t. x ∷ t) (first_whole n xs (omega arith))

pub first_append : {X : Type 0} (n : ℕ) (xs ys : List X) → take n xs ++ take (n - length (take n xs)) ys ≡ take n (xs ++ ys)
first_append zero xs ys = refl
first_append (suc n) [] ys = let e : suc n - 0 ≡ suc n = omega arith in ap (λ k. take k ys) e
first_append (suc n) (x ∷ xs) ys =
    let e : suc n - suc (length (take n xs)) ≡ n - length (take n xs) = omega arith in
    ap (λ k. x ∷ (take n xs ++ take k ys)) e ∙ ap (λ t. x ∷ t) (first_append n xs ys)

-- the first n of two lists, one behind the other
pub first_both : {X Y : Type 0} (f : Y → X) (n k : ℕ) (xs es zs : List X) (ys : List Y) → es ≡ take n xs → k ≡ n - length es → zs ≡ es ++ map f (take k ys) → zs ≡ take n (xs ++ map f ys)
first_both f n k xs es zs ys first left e =
    e ∙ ap (λ t. es ++ t) (sym (take-map f k ys)) ∙ ap (λ j. es ++ take j (map f ys)) left
    ∙ ap (λ t. t ++ take (n - length t) (map f ys)) first ∙ first_append n xs (map f ys)
