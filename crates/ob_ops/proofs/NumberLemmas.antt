-- The size of numbers of 64 bits.
use Rattle.std.proofs.Common.{◌^◌, ◌≤◌, ℤ, pos, negsuc, arith, FitsSigned, w64}
use Rattle.std.specs.Int.RustNames.{unsigned_abs}

pub at_most_2_63 : (a : ℤ) → FitsSigned w64 a → unsigned_abs a ≤ 2 ^ 63
at_most_2_63 (pos n) h = omega (arith, h)
at_most_2_63 (negsuc n) h = omega (arith, h)
