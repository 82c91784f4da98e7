-- Properties at array indices, by rising index.
use Rattle.std.specs.Prelude.{ℕ, ◌<◌, List, [], ◌∷◌, ⊤}

-- each index is above n
unfoldable pub AreAbove : {V : Type 0} → ℕ → List (ℕ × V) → Type 0
AreAbove n [] = ⊤
AreAbove n (e ∷ es) = (n < e.0) × AreAbove n es

-- each index is above those before it
unfoldable pub AreRising : {V : Type 0} → List (ℕ × V) → Type 0
AreRising [] = ⊤
AreRising (e ∷ es) = AreAbove e.0 es × AreRising es
