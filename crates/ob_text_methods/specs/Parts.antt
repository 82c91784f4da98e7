-- Whether there is room for the parts of a text (this project).
use Rattle.std.specs.Prelude.{ℕ, ◌+◌, List, length, Result}
use Rattle.ob_items.specs.declared.error.OpError.{OpError}
use Rattle.ob_values.specs.Operators.{limited}
use Rattle.ob_values.specs.TextMethods.{texts_cost}

-- the elements of texts and of the array of them
abbrev pub array_cost : List (List ℕ) → ℕ
array_cost parts = texts_cost parts + (1 + length parts)

-- these texts, or what refuses them in a region of so many elements, where there are `left` steps
abbrev pub parts_answer : ℕ → ℕ → List (List ℕ) → Result (List (List ℕ)) OpError
parts_answer elements left parts = limited elements left (array_cost parts) 0 parts
