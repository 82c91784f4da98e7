-- How the search for a cycle and the count of elements go on.
use Rattle.std.specs.Prelude.{ℕ, nat_lt, List, ◌∷◌, Option, Some, None, fold, if◌then◌else◌}
use Rattle.ob_items.specs.declared.value.Ref.{Ref}
use Rattle.ob_values.specs.declared.plain.stack.Task.{Task}
use Rattle.ob_values.specs.declared.plain.stack.Task.TheVariants as T

-- the cost, if there is room for it
abbrev pub within : ℕ → ℕ → Option ℕ
within room cost = if nat_lt room cost then None else Some cost

abbrev pub entered : List Task → Ref → List Task
entered tasks r = T.Enter r ∷ tasks

-- the tasks, after those to look into each of these
abbrev pub all_entered : List Task → List Ref → List Task
all_entered tasks refs = fold entered tasks refs
