-- Rows of the operators on numbers, worked by hand.
use Rattle.std.proofs.Common.{◌≡◌, ℤ, pos, negsuc, Result, Ok, Err, refl}
use Rattle.ob_base.specs.declared.operators.BinaryOp.TheVariants as O
use Rattle.ob_items.specs.Numbers.{number_result}
use Rattle.ob_items.specs.declared.thrown.Thrown.{Thrown}
use Rattle.ob_items.specs.declared.thrown.Thrown.TheVariants as T

-- -7 % 3 is -1
remainder_has_the_sign_of_the_dividend : ◌≡◌ {A = Result ℤ Thrown} (number_result O.Rem (negsuc 6) (pos 3)) (Ok (negsuc 0))
remainder_has_the_sign_of_the_dividend = refl

-- 1 << 31 is -2147483648
shift_into_the_sign : ◌≡◌ {A = Result ℤ Thrown} (number_result O.Shl (pos 1) (pos 31)) (Ok (negsuc 2147483647))
shift_into_the_sign = refl

-- -1 >>> 0 is 4294967295
shift_of_all_bits : ◌≡◌ {A = Result ℤ Thrown} (number_result O.ShrUnsigned (negsuc 0) (pos 0)) (Ok (pos 4294967295))
shift_of_all_bits = refl

-- 9007199254740991 | 0 is -1
low_bits_of_the_greatest : ◌≡◌ {A = Result ℤ Thrown} (number_result O.BitOr (pos 9007199254740991) (pos 0)) (Ok (negsuc 0))
low_bits_of_the_greatest = refl

-- 0 ** 0 is 1
power_of_zero : ◌≡◌ {A = Result ℤ Thrown} (number_result O.Pow (pos 0) (pos 0)) (Ok (pos 1))
power_of_zero = refl

-- 7 / 2 is inexact
quotient_is_exact : ◌≡◌ {A = Result ℤ Thrown} (number_result O.Div (pos 7) (pos 2)) (Err T.InexactQuotient)
quotient_is_exact = refl
