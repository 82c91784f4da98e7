-- A walk over the inputs of marked nodes, each placed after the inputs that it begins (depth-first search, in post-order).
use Rattle.std.specs.Prelude.{◌≡◌, ℕ, ◌+◌, ◌<◌, ◌≤◌, ◌^◌, ◌⊎◌, Bool, true, false, List, [], ◌++◌, length, get_or, nat_eq}
use Rattle.std.specs.List.{IsDistinct}
use Rattle.ob_graph.specs.Paths.{is_in}
use Rattle.ob_graph.specs.Searches.{Marked}
use Rattle.ob_queue.specs.Plans.{is_marked, marked_inputs, CyclesAside}

-- A walk is seen as the marks of the nodes that it hasn't begun, the path of the nodes that are begun and not placed, of
-- which each reads the next, the place among the inputs that each of them has come to, and the nodes that are placed.
pub record Walked : Type 0 where
  pub marks : List Bool
  pub path : List ℕ
  pub places : List ℕ
  pub order : List ℕ

-- there is memory for as many nodes as there are marks
pub record HasRoom (room path places order : ℕ) : Type 0 where
  pub path_fits : room ≤ path
  pub places_fit : room ≤ places
  pub order_fits : room ≤ order

-- what is placed or begun
abbrev pub taken : Walked → List ℕ
taken w = w.order ++ w.path

-- where the walk of the nodes that `queue` marks stands
pub record Walking (queue : List Bool) (ins : ℕ → List ℕ) (w : Walked) : Type 0 where
  pub held : (v : ℕ) → is_marked queue v ≡ true → (is_marked w.marks v ≡ true) ⊎ (is_in v (taken w) ≡ true)
  pub waits : (v : ℕ) → is_marked w.marks v ≡ true → (is_marked queue v ≡ true) × (is_in v (taken w) ≡ false)
  pub sound : (v : ℕ) → is_in v (taken w) ≡ true → is_marked queue v ≡ true
  pub apart : IsDistinct nat_eq (taken w)
  pub chain : (k : ℕ) → k + 1 < length w.path → is_in (get_or w.path (k + 1) 0) (marked_inputs queue ins (get_or w.path k 0)) ≡ true
  pub begun : (k : ℕ) → k < length w.path → (j : ℕ) → j < get_or w.places k 0 → is_marked w.marks (get_or (ins (get_or w.path k 0)) j 0) ≡ false
  pub first : CyclesAside (marked_inputs queue ins) w.order
  pub size : length w.places ≡ length w.path
  pub room : length w.marks ≡ length queue

-- between two plans: the list of marked nodes has each once, and no node is begun
pub record IsQueue (w : Walked) (marked : List ℕ) (capacity : ℕ) : Type 0 where
  pub listed : Marked w.marks marked capacity
  pub path_empty : w.path ≡ []
  pub places_empty : w.places ≡ []
  pub few : length w.marks < 2 ^ 32
