-- A list seen through a function.
use Rattle.std.proofs.Common.{◌≡◌, ◌+◌, Bool, false, not, cond, Some, None, nat_lt, length, List, [], ◌∷◌, ◌++◌, map, refl, ap, sym, ◌∙◌, if◌then◌else◌, ◌||◌}
use Rattle.std.proofs.lemmas.List.{length-map}
use Rattle.std.specs.List.{list_any, position, position_or_len}

module _ {A B : Type 0} (f : A → B) where
  pub any-map : (p : B → Bool) (xs : List A) → list_any p (map f xs) ≡ list_any (λ x. p (f x)) xs
  any-map p [] = refl
  any-map p (x ∷ xs) = ap (λ b. p (f x) || b) (any-map p xs)

  place-map : (p : B → Bool) (xs : List A) → position_or_len p (map f xs) ≡ position_or_len (λ x. p (f x)) xs
  place-map p [] = refl
  place-map p (x ∷ xs) = ap (λ n. cond (not (p (f x))) (1 + n) 0) (place-map p xs)

  pub position-map : (p : B → Bool) (xs : List A) → position p (map f xs) ≡ position (λ x. p (f x)) xs
  position-map p xs =
      ap (λ n. if nat_lt n (length (map f xs)) then Some n else None) (place-map p xs)
      ∙ ap (λ n. if nat_lt (position_or_len (λ x. p (f x)) xs) n then Some (position_or_len (λ x. p (f x)) xs) else None) (length-map xs f)

  push-map : (xs : List A) (x : A) → map f (xs ++ x ∷ []) ≡ map f xs ++ f x ∷ []
  push-map [] x = refl
  push-map (y ∷ ys) x = ap (λ l. f y ∷ l) (push-map ys x)

  -- what is not there goes last
  pub insert-map : (p : B → Bool) (xs new : List A) (x : A) → new ≡ (if list_any (λ y. p (f y)) xs then xs else xs ++ x ∷ []) → list_any p (map f xs) ≡ false → map f new ≡ map f xs ++ f x ∷ []
  insert-map p xs new x e h =
      ap (map f) (e ∙ ap (λ b. if b then xs else xs ++ x ∷ []) (sym (any-map p xs) ∙ h)) ∙ push-map xs x
