-- Which numbers stand for what one call carries out.
use Rattle.std.proofs.Common.{◌≡◌, ◌∙◌, ◌&&◌, ◌||◌, ◌<◌, ◌≤◌, ℕ, zero, suc, Bool, true, false, Option, None, List, refl, ap, sym, arith, Result, leb, nat_lt, map, ◌++◌}
use Rattle.std.proofs.lemmas.Bool.Decides.{nat_tests}
use Rattle.std.proofs.lemmas.Option.{slice_get_past}
use Rattle.std.specs.Prelude.{if◌then◌else◌, IsSome, is_some, not, unwrap_or}
use Rattle.std.specs.Option.{option_map_or}
use Rattle.ob_items.specs.declared.thrown.Thrown.{Thrown}
use Rattle.ob_items.specs.declared.value.Ref.{Ref}
use Rattle.ob_items.specs.declared.value.RegionKey.{RegionKey}
use Rattle.ob_items.specs.declared.value.Value.{Value}
use Rattle.ob_values.specs.BuiltinNames.{Builtin, Row, rows, named_functions, builtin_numbered}
use Rattle.ob_values.specs.Builtins.{array_method, text_method, function_of, function_call}
use Rattle.ob_values.specs.Effects.{Effect}
use Rattle.ob_values.specs.Store.{Store}
use Rattle.ob_values.specs.TextMethods.{units_at}
use Rattle.ob_builtins.specs.Calls.{array_call, text_call}

-- the first so many numbers pass a test
all_below : ℕ → (ℕ → Bool) → Bool
all_below zero test = true
all_below (suc k) test = test zero && all_below k (λ n. test (suc n))

both : (a b : Bool) → a && b ≡ true → (a ≡ true) × (b ≡ true)
both true b h = (refl, h)
both false b h = cc

at_below : (k : ℕ) (test : ℕ → Bool) → all_below k test ≡ true → (n : ℕ) → n < k → test n ≡ true
unfolding all_below
at_below zero test h n l = absurd (omega arith)
at_below (suc k) test h zero l = (both (test zero) (all_below k (λ n. test (suc n))) h).0
at_below (suc k) test h (suc n) l = at_below k (λ n. test (suc n)) (both (test zero) (all_below k (λ n. test (suc n))) h).1 n (omega arith)

abbrev same : Bool → Bool → Bool
same a b = if a then b else not b

is_same : (a b : Bool) → same a b ≡ true → a ≡ b
is_same true true h = refl
is_same true false h = cc
is_same false true h = cc
is_same false false h = refl

-- none of the builtins has a number from 45 on
past : (n : ℕ) → 45 ≤ n → builtin_numbered n ≡ None
past n l = ap (λ o. unwrap_or o None) (slice_get_past (named_functions ++ map (λ (row : Row). row.1) rows) n l)

module _ (f : Builtin → Option (Result Effect Thrown)) (range : ℕ → Bool) where
  abbrev agrees : ℕ → Bool
  agrees n = same (is_some (option_map_or f (builtin_numbered n) None)) (range n)

  ranged : all_below 45 agrees ≡ true → ((n : ℕ) → 45 ≤ n → range n ≡ false) → (n : ℕ) → is_some (option_map_or f (builtin_numbered n) None) ≡ range n
  ranged all beyond n = by (nat_lt n 45) refl
    where
      by : (b : Bool) → nat_lt n 45 ≡ b → is_some (option_map_or f (builtin_numbered n) None) ≡ range n
      by true e = is_same (is_some (option_map_or f (builtin_numbered n) None)) (range n) (at_below 45 agrees all n (grind (arith, nat_tests)))
      by false e =
          let l : 45 ≤ n = grind (arith, nat_tests) in
          ap (λ o. is_some (option_map_or f o None)) (past n l) ∙ sym (beyond n l)

-- from one number up to before another
abbrev pub within : ℕ → ℕ → ℕ → Bool
within from to n = not (nat_lt n from) && nat_lt n to

beyond_within : (from to n : ℕ) → to ≤ n → within from to n ≡ false
beyond_within from to n l = grind (arith, nat_tests)

pub array_range : (s : Store) (region : RegionKey) (n : ℕ) (r : Ref) (args : List Value) → is_some (array_call s region n r args) ≡ within 9 18 n
unfolding all_below
array_range s region n r args = ranged (λ b. array_method s region b r args) (within 9 18) refl (λ m l. beyond_within 9 18 m (omega arith)) n

pub text_range : (s : Store) (region : RegionKey) (n : ℕ) (r : Ref) (args : List Value) → is_some (text_call s region n r args) ≡ within 24 33 n
unfolding all_below
text_range s region n r args = ranged (λ b. text_method s region b (units_at s r) args) (within 24 33) refl (λ m l. beyond_within 24 33 m (omega arith)) n

abbrev pub is_function_number : ℕ → Bool
is_function_number n = within 3 7 n || within 35 44 n

beyond_functions : (n : ℕ) → 45 ≤ n → is_function_number n ≡ false
beyond_functions n l = ap (λ b. b || within 35 44 n) (beyond_within 3 7 n (omega arith)) ∙ beyond_within 35 44 n (omega arith)

pub function_range : (s : Store) (region : RegionKey) (n : ℕ) (args : List Value) → is_some (function_call s region n args) ≡ is_function_number n
unfolding all_below
function_range s region n args = ranged (λ b. function_of s region b args) is_function_number refl beyond_functions n

pub is_within : (from to n : ℕ) → within from to n ≡ true → (from ≤ n) × (n < to)
is_within from to n e = (grind (arith, nat_tests), grind (arith, nat_tests))

pub array_number : (s : Store) (region : RegionKey) (n : ℕ) (r : Ref) (args : List Value) → IsSome (array_call s region n r args) → (9 ≤ n) × (n < 18)
array_number s region n r args h = is_within 9 18 n (sym (array_range s region n r args) ∙ h)

pub text_number : (s : Store) (region : RegionKey) (n : ℕ) (r : Ref) (args : List Value) → IsSome (text_call s region n r args) → (24 ≤ n) × (n < 33)
text_number s region n r args h = is_within 24 33 n (sym (text_range s region n r args) ∙ h)

-- above 6 the numbers of functions go from 35 to 43
pub function_number : (s : Store) (region : RegionKey) (n : ℕ) (args : List Value) → IsSome (function_call s region n args) → 7 ≤ n → (35 ≤ n) × (n < 44)
function_number s region n args h l =
    is_within 35 44 n (later (within 3 7 n) (within 35 44 n) (sym (function_range s region n args) ∙ h) (beyond_within 3 7 n l))
  where
    later : (a b : Bool) → a || b ≡ true → a ≡ false → b ≡ true
    later true b e f = cc
    later false b e f = e

-- ---- the tests of numbers

pub array_test : (n : ℕ) → 9 ≤ n → leb n 17 ≡ within 9 18 n
array_test n l = grind (arith, nat_tests)

pub array_below : (n : ℕ) → n < 9 → leb 9 n ≡ within 9 18 n
array_below n l = grind (arith, nat_tests)

pub text_test : (n : ℕ) → 24 ≤ n → leb n 32 ≡ within 24 33 n
text_test n l = grind (arith, nat_tests)

pub text_below : (n : ℕ) → n < 24 → leb 24 n ≡ within 24 33 n
text_below n l = grind (arith, nat_tests)

pub name_test : (n : ℕ) → n ≤ 6 → leb 3 n ≡ is_function_number n
name_test n l = grind (arith, nat_tests)

pub function_test : (n : ℕ) → 35 ≤ n → leb n 43 ≡ is_function_number n
function_test n l = grind (arith, nat_tests)

pub function_between : (n : ℕ) → 7 ≤ n → n < 35 → leb 35 n ≡ is_function_number n
function_between n l m = grind (arith, nat_tests)
