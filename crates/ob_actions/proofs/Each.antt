-- What holds of each element of a list, by recursion over it.
use Rattle.std.proofs.Common.{◌≡◌, ℕ, zero, suc, Some, List, [], ◌∷◌, ◌++◌, take, drop, slice_get, slice_set, subst}
use Rattle.std.specs.List.{repeat}
use Rattle.std.proofs.lemmas.Option.{same_Some, none-some}
use Rattle.ob_actions.specs.Within.{Each}

module _ {X : Type 0} (P : X → Type 0) where
  pub each_at : (xs : List X) (i : ℕ) (x : X) → Each P xs → slice_get xs i ≡ Some x → P x
  each_at [] i x h e = absurd (none-some x e)
  each_at (y ∷ ys) zero x h e = subst P (same_Some y x e) h.0
  each_at (y ∷ ys) (suc i) x h e = each_at ys i x h.1 e

  pub each_append : (xs ys : List X) → Each P xs → Each P ys → Each P (xs ++ ys)
  each_append [] ys h g = g
  each_append (x ∷ xs) ys h g = (h.0, each_append xs ys h.1 g)

  pub each_take : (n : ℕ) (xs : List X) → Each P xs → Each P (take n xs)
  each_take zero xs h = tt
  each_take (suc n) [] h = tt
  each_take (suc n) (x ∷ xs) h = (h.0, each_take n xs h.1)

  pub each_drop : (n : ℕ) (xs : List X) → Each P xs → Each P (drop n xs)
  each_drop zero xs h = h
  each_drop (suc n) [] h = tt
  each_drop (suc n) (x ∷ xs) h = each_drop n xs h.1

  pub each_set : (xs : List X) (i : ℕ) (x : X) → Each P xs → P x → Each P (slice_set xs i x)
  each_set [] i x h g = tt
  each_set (y ∷ ys) zero x h g = (g, h.1)
  each_set (y ∷ ys) (suc i) x h g = (h.0, each_set ys i x h.1 g)

  pub each_repeat : (n : ℕ) (xs : List X) → Each P xs → Each P (repeat n xs)
  each_repeat zero xs h = tt
  each_repeat (suc n) xs h = each_append xs (repeat n xs) h (each_repeat n xs h)
