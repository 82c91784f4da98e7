-- Which values are functions, and what carries out those that are built in (this project).
use Rattle.std.specs.Prelude.{ℕ, ◌-◌, ◌==◌, nat_lt, nat_le, Bool, true, false, ◌&&◌, Option, Some, if◌then◌else◌}
use Rattle.ob_items.specs.declared.item.Body.{Body}
use Rattle.ob_items.specs.declared.item.Body.TheVariants as B
use Rattle.ob_items.specs.declared.value.Value.{Value}
use Rattle.ob_items.specs.declared.value.Value.TheVariants as V
use Rattle.ob_values.specs.Store.{Store, body_of}

-- what carries out the function or method of a number: nothing, for `Math`, `Object`, `Array` and `invalidation` are no functions; one action
-- after the call's own step; what a run alone has; a text of the prelude, by its number; or a host function, by its place in the table
pub data Carrier : Type 0 where
  Nothing : Carrier
  OneAction : Carrier
  Log : Carrier
  Next : Carrier
  Then : Carrier
  ThePrelude : ℕ → Carrier
  Host : ℕ → Carrier

-- of a function: the nine names have the numbers from 0, and the host functions come last
abbrev pub function_carrier : ℕ → Carrier
function_carrier n =
    if nat_lt n 3 then Nothing
    else if n == 7 then Log
    else if n == 8 then Nothing
    else if n == 44 then ThePrelude 6
    else if nat_lt n 45 then OneAction
    else Host (n - 45)

-- of a method: those from `map` to `reduce` are the first six texts of the prelude
abbrev pub method_carrier : ℕ → Carrier
method_carrier n =
    if nat_le 18 n && nat_le n 23 then ThePrelude (n - 18)
    else if n == 33 then Next
    else if n == 34 then Then
    else OneAction

-- `Error`, `TypeError` and `RangeError`
abbrev pub is_constructor : ℕ → Bool
is_constructor n = nat_lt 3 n && nat_lt n 7

-- ---- `typeof` gives `function`

abbrev pub is_carried : Carrier → Bool
is_carried Nothing = false
is_carried _ = true

abbrev pub is_closure : Option Body → Bool
is_closure (Some (B.Closure c)) = true
is_closure _ = false

abbrev pub is_function : Store → Value → Bool
is_function s (V.Ref r) = is_closure (body_of s r)
is_function s (V.Builtin n) = is_carried (function_carrier n)
is_function s v = false
