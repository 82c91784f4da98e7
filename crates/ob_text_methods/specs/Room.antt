-- Whether there is room for a text of so many units (this project).
use Rattle.std.specs.Prelude.{ℕ, nat_lt, Result, Err, if◌then◌else◌}
use Rattle.ob_items.specs.declared.error.OpError.{OpError}
use Rattle.ob_items.specs.declared.error.OpError.TheVariants as E
use Rattle.ob_items.specs.declared.thrown.Thrown.TheVariants as T
use Rattle.ob_values.specs.Operators.{limited}
use Rattle.ob_values.specs.Store.{text_cost}

-- what refuses it in a region of so many elements, where there are `left` steps
abbrev pub room_of : ℕ → ℕ → ℕ → Result (Unit {0}) OpError
room_of elements left count =
    if nat_lt 65536 count then Err (E.Throws T.TextTooLong) else limited elements left (text_cost count) 0 tt
