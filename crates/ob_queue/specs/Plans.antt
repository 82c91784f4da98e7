-- What a plan is: marked nodes in an order in which inputs stand first (graph theory: a topological order).
use Rattle.std.specs.Prelude.{◌≡◌, ℕ, ◌<◌, ◌⊎◌, Bool, true, false, List, length, take, filter, get_or, slice_index}
use Rattle.ob_graph.specs.Paths.{is_in, Path}

-- A queue is seen as the list of whether each node is marked, that of node v at place v. Its length is its `spare`.
abbrev pub is_marked : List Bool → ℕ → Bool
is_marked queue v = get_or queue v false

-- the inputs of a node that are marked
abbrev pub marked_inputs : List Bool → (ℕ → List ℕ) → ℕ → List ℕ
marked_inputs queue ins v = filter (is_marked queue) (ins v)

-- no node leads to itself
abbrev pub HasNoCycle : (ℕ → List ℕ) → Type 0
HasNoCycle ins = (v : ℕ) → Path ins v v → ⊥

-- the inputs of each listed node stand before it
abbrev pub InputsFirst : (ℕ → List ℕ) → List ℕ → Type 0
InputsFirst ins order = (k : ℕ) → k < length order → (u : ℕ) → is_in u (ins (slice_index order k)) ≡ true → is_in u (take k order) ≡ true

-- each input of a listed node stands before it, or a path leads from the input back to the node: they are in one cycle
abbrev pub CyclesAside : (ℕ → List ℕ) → List ℕ → Type 0
CyclesAside ins order = (k : ℕ) → k < length order → (u : ℕ) → is_in u (ins (slice_index order k)) ≡ true
    → (is_in u (take k order) ≡ true) ⊎ Path ins u (slice_index order k)
