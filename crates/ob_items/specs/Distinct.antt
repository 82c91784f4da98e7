-- Keys that stand once in a list of keys and values.
use Rattle.std.specs.Prelude.{◌≡◌, ℕ, List, [], ◌∷◌, None, nat_eq, ⊤}
use Rattle.std.specs.Cmp.Lexicographic.{pointwise}
use Rattle.std.specs.Map.{lookup}

-- no key is equal to an earlier one
unfoldable pub AreDistinct : {V : Type 0} → List (List ℕ × V) → Type 0
AreDistinct [] = ⊤
AreDistinct (e ∷ es) = (lookup (λ key. pointwise nat_eq key e.0) es ≡ None) × AreDistinct es
