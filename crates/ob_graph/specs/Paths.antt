-- Which nodes lead to which over lists of inputs, for nodes that are numbers.
use Rattle.std.specs.Prelude.{ℕ, Bool, List, [], nat_eq, get_or}
use Rattle.ob_inputs.specs.Same as same
use Rattle.ob_inputs.specs.Paths as paths

-- A graph is seen as the lists of inputs of its nodes, the list of node v at place v. What stands past the end has none.
abbrev pub inputs_of : List (List ℕ) → ℕ → List ℕ
inputs_of graph v = get_or graph v []

-- whether x is one of xs
abbrev pub is_in : ℕ → List ℕ → Bool
is_in x xs = same.is_in nat_eq x xs

-- a nonempty path of inputs leads from v to w
abbrev pub Path : (ℕ → List ℕ) → ℕ → ℕ → Type 0
Path ins v w = paths.Path nat_eq ins v w

-- v is one of `starts`, or a path leads from one of them to v
abbrev pub Reached : (ℕ → List ℕ) → List ℕ → ℕ → Type 0
Reached ins starts v = paths.Reached nat_eq ins starts v
