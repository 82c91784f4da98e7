-- Powers of 0, 1 and -1, and of larger numbers.
use Rattle.std.proofs.Common.{◌≡◌, ℕ, zero, suc, ◌^◌, ◌<◌, ◌≤◌, ◌%◌, Bool, true, false, cond, ap, ◌∙◌, sym, arith, ℤ, pos, negsuc, Result, Err, neg_ℤ, ◌==◌}
use Rattle.std.proofs.Math.Nat.{pow-suc, pow-zero, pow-le-pow_left, pow-le-pow_right}
use Rattle.std.proofs.lemmas.Bool.Decides.{nat_tests}
use Rattle.std.specs.Int.{int_pow}
use Rattle.std.specs.Int.RustNames.{unsigned_abs}
use Rattle.ob_items.specs.declared.thrown.Thrown.{Thrown}
use Rattle.ob_items.specs.declared.thrown.Thrown.TheVariants as T
use Rattle.ob_items.specs.Numbers.{ranged}

one_power : (n : ℕ) → 1 ^ n ≡ 1
one_power zero = pow-zero 1
one_power (suc n) = pow-suc 1 n ∙ omega (arith, one_power n)

zero_power : (n : ℕ) → 0 < n → 0 ^ n ≡ 0
zero_power zero h = absurd (omega arith)
zero_power (suc n) h = pow-suc 0 n ∙ omega arith

power_large : (a n : ℕ) → 2 ≤ a → 64 ≤ n → 2 ^ 53 ≤ a ^ n
power_large a n two big =
    let left : 2 ^ n ≤ a ^ n = pow-le-pow_left two n in
    let right : 2 ^ 64 ≤ 2 ^ n = pow-le-pow_right (omega arith) big in
    omega arith

refused : (m : ℕ) → 2 ^ 53 ≤ m → ◌≡◌ {A = Result ℤ Thrown} (Err T.OutOfRange) (ranged (pos m))
refused m h = grind (arith, nat_tests)

refused_below : (m : ℕ) → 2 ^ 53 ≤ m → ◌≡◌ {A = Result ℤ Thrown} (Err T.OutOfRange) (ranged (neg_ℤ (pos m)))
refused_below zero h = absurd (omega arith)
refused_below (suc m) h = grind (arith, nat_tests)

refused_by : (b : Bool) (m : ℕ) → 2 ^ 53 ≤ m → ◌≡◌ {A = Result ℤ Thrown} (Err T.OutOfRange) (ranged (cond b (pos m) (neg_ℤ (pos m))))
refused_by true m h = refused m h
refused_by false m h = refused_below m h

pub ranged-large_power : (a : ℤ) (n : ℕ) → 2 ≤ unsigned_abs a → 64 ≤ n → ◌≡◌ {A = Result ℤ Thrown} (Err T.OutOfRange) (ranged (int_pow a n))
ranged-large_power (pos a) n two big = refused (a ^ n) (power_large a n two big)
ranged-large_power (negsuc a) n two big = refused_by (n % 2 == 0) (suc a ^ n) (power_large (suc a) n two big)

-- the power of a number by cases
pub power_one : (a : ℤ) (n : ℕ) → a ≡ pos 1 → pos 1 ≡ int_pow a n
power_one a n e = rw e (sym (ap pos (one_power n)))

pub power_zero : (a : ℤ) (n : ℕ) → a ≡ pos 0 → 0 < n → pos 0 ≡ int_pow a n
power_zero a n e h = rw e (sym (ap pos (zero_power n h)))

pub power_minus_one : (a : ℤ) (n : ℕ) → a ≡ negsuc 0 → int_pow a n ≡ cond (n % 2 == 0) (pos 1) (negsuc 0)
power_minus_one a n e = rw e (ap (λ m. cond (n % 2 == 0) (pos m) (neg_ℤ (pos m))) (one_power n))
