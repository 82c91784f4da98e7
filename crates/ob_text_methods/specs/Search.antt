-- How far a search for a piece moves on where the piece doesn't stand (the search of Knuth, Morris and Pratt).
use Rattle.std.specs.Prelude.{◌≡◌, ℕ, ◌+◌, ◌<◌, ◌≤◌, List, length, max, slice_index}

-- the first so many units of a piece are the same again p units later
abbrev pub IsPeriod : List ℕ → ℕ → ℕ → Type 0
IsPeriod piece count p = (i : ℕ) → i + p < count → slice_index piece (i + p) ≡ slice_index piece i

-- the least such p from 1 on
pub record IsShift (piece : List ℕ) (count p : ℕ) : Type 0 where
  pub positive : 1 ≤ p
  pub within : p ≤ max 1 count
  pub period : IsPeriod piece count p
  pub least : (d : ℕ) → 1 ≤ d → d < p → IsPeriod piece count d → ⊥

-- for each count of units, from 0, its shift
abbrev pub AreShifts : List ℕ → List ℕ → Type 0
AreShifts piece shifts = (count : ℕ) → count < length shifts → IsShift piece count (slice_index shifts count)
