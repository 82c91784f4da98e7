-- The integers of the language (ECMA-262, "Number.MAX_SAFE_INTEGER"; that there are no others is this project's).
use Rattle.std.specs.Prelude.{ℕ, ℤ, pos, negsuc, ◌≤ℤ◌, Bool, ◌&&◌, int_le}

-- the greatest, 2^53-1
abbrev pub greatest : ℕ
greatest = 9007199254740991

-- a whole number from -(2^53-1) to 2^53-1
abbrev pub InRange : ℤ → Type 0
InRange n = (negsuc 9007199254740990 ≤ℤ n) × (n ≤ℤ pos greatest)

-- the same as a test
abbrev pub is_in_range : ℤ → Bool
is_in_range n = int_le (negsuc 9007199254740990) n && int_le n (pos greatest)
