-- What a host function gives (this project).
use Rattle.std.specs.Prelude.{ℤ, pos, negsuc, ◌==◌, if◌then◌else◌, Bool, true, false, Option, Some, None, int_div, int_lt, neg_ℤ}
use Rattle.std.specs.Int.{int_div_euclid, int_rem_euclid}
use Rattle.ob_hosts.specs.declared.host_fn.HostCode.{HostCode}
use Rattle.ob_hosts.specs.declared.host_fn.HostCode.TheVariants.{Quot, FloorDiv, Mod, Clamp0}

abbrev pub is_zero : ℤ → Bool
is_zero (pos n) = n == 0
is_zero (negsuc n) = false

-- the greatest integer that is at most a / b: Euclid's quotient, with both signs turned where the divisor is below 0
abbrev pub floor_div : ℤ → ℤ → ℤ
floor_div a b = if int_lt b (pos 0) then int_div_euclid (neg_ℤ a) (neg_ℤ b) else int_div_euclid a b

-- what it leaves of a: Euclid's remainder, with the divisor's sign
abbrev pub floor_mod : ℤ → ℤ → ℤ
floor_mod a b = if int_lt b (pos 0) then neg_ℤ (int_rem_euclid (neg_ℤ a) (neg_ℤ b)) else int_rem_euclid a b

-- the greater of a and 0
abbrev pub clamp_to_zero : ℤ → ℤ
clamp_to_zero (pos n) = pos n
clamp_to_zero (negsuc n) = pos 0

-- no quotient and no remainder by 0 has a value; `Quot` rounds to 0
abbrev pub host_value : HostCode → ℤ → ℤ → Option ℤ
host_value Quot a b = if is_zero b then None else Some (int_div a b)
host_value FloorDiv a b = if is_zero b then None else Some (floor_div a b)
host_value Mod a b = if is_zero b then None else Some (floor_mod a b)
host_value Clamp0 a b = Some (clamp_to_zero a)
