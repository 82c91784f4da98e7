-- Items at places of a list.
use Rattle.std.proofs.Common.{◌≡◌, ◌<◌, ℕ, zero, suc, ◌+◌, List, [], ◌∷◌, length, map, get_or, Bool, true, false, cond, ◌||◌, None, Some, refl, arith}
use Rattle.std.specs.declared.option.Option.{Option}
use Rattle.std.specs.Prelude.{option_map, slice_get, is_some}
use Rattle.std.specs.List.{position_from, list_any}

pub found_at : {X Y Z : Type 0} (f : X → Y) (v : Y → Z) (xs : List X) (i : ℕ) (d : X) → i < length xs → option_map v (slice_get (map f xs) i) ≡ Some (v (f (get_or xs i d)))
found_at f v [] i d h = absurd (omega arith)
found_at f v (x ∷ xs) zero d h = refl
found_at f v (x ∷ xs) (suc i) d h = found_at f v xs i d (omega arith)

any_cases : (b r : Bool) (i : ℕ) (o : Option ℕ) → (is_some o ≡ true → r ≡ true) → is_some (cond b (Some i) o) ≡ true → (b || r) ≡ true
any_cases true r i o again h = refl
any_cases false r i o again h = again h

pub any_from_position : {X : Type 0} (p : X → Bool) (i : ℕ) (xs : List X) → is_some (position_from p i xs) ≡ true → list_any p xs ≡ true
any_from_position p i [] h = cc
any_from_position p i (x ∷ xs) h = any_cases (p x) (list_any p xs) i (position_from p (i + 1) xs) (any_from_position p (i + 1) xs) h

none_cases : (b r : Bool) (i : ℕ) (o : Option ℕ) → (is_some o ≡ false → r ≡ false) → is_some (cond b (Some i) o) ≡ false → (b || r) ≡ false
none_cases true r i o again h = cc
none_cases false r i o again h = again h

pub none_from_position : {X : Type 0} (p : X → Bool) (i : ℕ) (xs : List X) → is_some (position_from p i xs) ≡ false → list_any p xs ≡ false
none_from_position p i [] h = refl
none_from_position p i (x ∷ xs) h = none_cases (p x) (list_any p xs) i (position_from p (i + 1) xs) (none_from_position p (i + 1) xs) h
