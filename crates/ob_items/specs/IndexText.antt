-- The keys that are array indices (ECMA-262, "Object Type": array index): the decimal texts of 0 to 2^32-2.
use Rattle.std.specs.Prelude.{◌≡◌, ℕ, ◌+◌, ◌-◌, ◌*◌, ◌<◌, ◌&&◌, List, Option, Some, None, nat_eq, nat_lt, fold, decimal, if◌then◌else◌}
use Rattle.std.specs.Cmp.Lexicographic.{pointwise}

-- the number that units stand for as decimal digits
abbrev pub read : List ℕ → ℕ
read us = fold (λ n u. n * 10 + (u - 48)) 0 us

-- the array index whose text these units are
abbrev pub index_in : List ℕ → Option ℕ
index_in us = if pointwise nat_eq us (decimal (read us)) && nat_lt (read us) 4294967295 then Some (read us) else None

-- the units are the decimal text of n, which is an array index
pub record IsIndexText (us : List ℕ) (n : ℕ) : Type 0 where
  pub text : us ≡ decimal n
  pub index : n < 4294967295
