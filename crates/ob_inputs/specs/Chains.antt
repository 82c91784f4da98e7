-- Following places one after another until an answer, or until a place comes a second time.
use Rattle.std.specs.Prelude.{◌≡◌, ℕ, zero, suc, Bool, true, false, List, [], ◌∷◌, if◌then◌else◌}
use Rattle.std.specs.List.{list_any}
use Rattle.ob_inputs.specs.Same.{is_in}

-- an answer, or the next place
pub data Step (K A : Type 0) : Type 0 where
  answer : A → Step K A
  go : K → Step K A

abbrev pub step_on : {K A : Type 0} → (K → A) → Step K A → A
step_on {K} {A} rec (answer a) = a
step_on {K} {A} rec (go q) = rec q

abbrev pub is_first : {K : Type 0} → List K → Bool
is_first {K} [] = true
is_first {K} (q ∷ qs) = false

-- from a place: with a count of turns, the places met so far, and what a place gives that comes again. `next` is told whether
-- a place is the first.
unfoldable pub follow : {K A : Type 0} → (K → K → Bool) → (Bool → K → Step K A) → (K → A) → ℕ → List K → K → A
follow {K} {A} same next again zero met p = again p
follow {K} {A} same next again (suc n) met p =
    if list_any (same p) met then again p else step_on (follow same next again n (p ∷ met)) (next (is_first met) p)

-- from a place of a list each step leads to a place of that list
abbrev pub LeadsInside : {K A : Type 0} → (K → K → Bool) → List K → (Bool → K → Step K A) → Type 0
LeadsInside {K} {A} same places next = (b : Bool) (p q : K) → is_in same p places ≡ true → next b p ≡ go q → is_in same q places ≡ true
