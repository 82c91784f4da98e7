-- Which cells read which.
use Rattle.std.specs.Prelude.{◌≡◌, ◌<◌, ℕ, List, Option, Some, slice_get}

-- a cell reads only one that stands before it
abbrev pub IsBuiltUp : List (Option ℕ) → Type 0
IsBuiltUp inputs = (p q : ℕ) → slice_get inputs p ≡ Some (Some q) → q < p
