-- The operators on numbers, by the integers that they stand for (ECMA-262, "Number::add" to "Number::bitwiseOR", and
-- "NumberBitwiseOp"; that a result outside the range, an inexact quotient and a zero divisor throw is this project's).
use Rattle.std.specs.Prelude.{ℕ, suc, ◌*◌, ◌^◌, ◌%◌, ◌/◌, ◌==◌, Bool, nat_lt, ℤ, pos, negsuc, ◌+ℤ◌, ◌-ℤ◌, ◌*ℤ◌, Result, Ok, Err, bit_and, bit_or, bit_xor, if◌then◌else◌, int_div, int_rem, unsigned_abs}
use Rattle.std.specs.Int.{int_shr, int_rem_euclid, int_pow, cast_signed, w32}
use Rattle.ob_base.specs.declared.operators.BinaryOp.{BinaryOp}
use Rattle.ob_base.specs.declared.operators.BinaryOp.TheVariants as O
use Rattle.ob_items.specs.declared.thrown.Thrown.{Thrown}
use Rattle.ob_items.specs.declared.thrown.Thrown.TheVariants as T

-- z lies from -(2^53-1) to 2^53-1
abbrev pub is_in_range : ℤ → Bool
is_in_range z = nat_lt (unsigned_abs z) (2 ^ 53)

abbrev pub ranged : ℤ → Result ℤ Thrown
ranged z = if is_in_range z then Ok z else Err T.OutOfRange

abbrev pub number_quotient : ℤ → ℤ → Result ℤ Thrown
number_quotient a b =
    if unsigned_abs b == 0 then Err T.DivisionByZero
    else if unsigned_abs (int_rem a b) == 0 then Ok (int_div a b)
    else Err T.InexactQuotient

-- with the sign of the dividend
abbrev pub number_remainder : ℤ → ℤ → Result ℤ Thrown
number_remainder a b = if unsigned_abs b == 0 then Err T.DivisionByZero else Ok (int_rem a b)

-- a power with a negative exponent, -n
abbrev pub inverse_power : ℤ → ℕ → Result ℤ Thrown
inverse_power a n =
    if unsigned_abs a == 0 then Err T.DivisionByZero
    else if unsigned_abs a == 1 then Ok (int_pow a n)
    else Err T.InexactQuotient

abbrev pub number_power : ℤ → ℤ → Result ℤ Thrown
number_power a (pos n) = ranged (int_pow a n)
number_power a (negsuc n) = inverse_power a (suc n)

-- the 32 bits of a number, as the number below 2^32 that is congruent to it
abbrev pub bits_of : ℤ → ℕ
bits_of z = unsigned_abs (int_rem_euclid z (pos (2 ^ 32)))

-- the number that 32 bits stand for in two's complement
abbrev pub signed : ℕ → ℤ
signed n = cast_signed w32 n

abbrev pub shifted_left : ℤ → ℤ → ℤ
shifted_left a b = signed (bits_of a * 2 ^ (bits_of b % 32) % 2 ^ 32)

abbrev pub shifted_right : ℤ → ℤ → ℤ
shifted_right a b = int_shr (signed (bits_of a)) (bits_of b % 32)

abbrev pub shifted_right_unsigned : ℤ → ℤ → ℤ
shifted_right_unsigned a b = pos (bits_of a / 2 ^ (bits_of b % 32))

-- what an operator gives of two numbers, or what it throws
abbrev pub number_result : BinaryOp → ℤ → ℤ → Result ℤ Thrown
number_result O.Add a b = ranged (a +ℤ b)
number_result O.Sub a b = ranged (a -ℤ b)
number_result O.Mul a b = ranged (a *ℤ b)
number_result O.Div a b = number_quotient a b
number_result O.Rem a b = number_remainder a b
number_result O.Pow a b = number_power a b
number_result O.BitAnd a b = Ok (signed (bit_and (bits_of a) (bits_of b)))
number_result O.BitOr a b = Ok (signed (bit_or (bits_of a) (bits_of b)))
number_result O.BitXor a b = Ok (signed (bit_xor (bits_of a) (bits_of b)))
number_result O.Shl a b = Ok (shifted_left a b)
number_result O.Shr a b = Ok (shifted_right a b)
number_result O.ShrUnsigned a b = Ok (shifted_right_unsigned a b)
