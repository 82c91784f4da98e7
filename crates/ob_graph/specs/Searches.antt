-- What a search over inputs holds.
use Rattle.std.specs.Prelude.{◌≡◌, ℕ, ◌<◌, ◌≤◌, ◌^◌, Bool, true, false, List, [], ◌∷◌, ◌++◌, length, get_or, if◌then◌else◌, nat_eq}
use Rattle.std.specs.List.{IsDistinct}
use Rattle.ob_graph.specs.Paths.{is_in, inputs_of, Reached}

-- a search is seen as the nodes that it found, in this order, and the number below which they all lie
pub record Found : Type 0 where
  pub found : List ℕ
  pub room : ℕ

-- a mark stands at exactly the nodes that were found, each of which was found once, and there is memory for all
pub record Marked (marks : List Bool) (found : List ℕ) (capacity : ℕ) : Type 0 where
  pub at_found : (v : ℕ) → get_or marks v false ≡ is_in v found
  pub apart : IsDistinct nat_eq found
  pub fits : length marks ≤ capacity

-- while marks are taken away: each that is left stands at a node that is left
pub record Clearing (marks : List Bool) (found : List ℕ) : Type 0 where
  pub at_left : (v : ℕ) → get_or marks v false ≡ true → is_in v found ≡ true
  pub below : (v : ℕ) → is_in v found ≡ true → v < length marks

-- u is added where it wasn't found
abbrev pub met : List ℕ → ℕ → List ℕ
met found u = if is_in u found then found else found ++ u ∷ []

-- each of these is
abbrev pub met_all : List ℕ → List ℕ → List ℕ
met_all found [] = found
met_all found (u ∷ us) = met_all (met found u) us

-- what is found is reached, and up to place i the inputs of each are found
pub record Spread (ins : ℕ → List ℕ) (starts found : List ℕ) (i : ℕ) : Type 0 where
  pub place : i ≤ length found
  pub first : (v : ℕ) → is_in v starts ≡ true → is_in v found ≡ true
  pub sound : (v : ℕ) → is_in v found ≡ true → Reached ins starts v
  pub closed : (k : ℕ) → k < i → (u : ℕ) → is_in u (ins (get_or found k 0)) ≡ true → is_in u found ≡ true

-- the inputs of each node are nodes, nodes are below 2^20, and a search has room for all
pub record IsGraph (lists : List (List ℕ)) (room : ℕ) : Type 0 where
  pub inside : (v u : ℕ) → is_in u (inputs_of lists v) ≡ true → u < length lists
  pub few : length lists ≤ 2 ^ 20
  pub fits : length lists ≤ room
