-- What a search over inputs keeps.
use Rattle.std.proofs.Common.{◌≡◌, ◌≢◌, ℕ, suc, ◌+◌, ◌-◌, ◌≤◌, ◌<◌, ◌^◌, Bool, true, false, ◌||◌, List, [], ◌∷◌, ◌++◌, ◌==◌, nat_eq, length, get_or, set, replicate, if◌then◌else◌, ◌⊎◌, inl, inr, ⊎_elim, sym, refl, ap, ◌∙◌, subst, arith, length-append}
use Rattle.std.specs.List.{All, IsDistinct}
use Rattle.std.specs.Bool.{Decides}
use Rattle.std.specs.List.Sorted.{IsPermutation, IsStrictlyIncreasing, IsSorted}
use Rattle.std.specs.Ordering.{nat_cmp}
use Rattle.std.proofs.lemmas.Bool.{or_cases, or_left, or_right, eqb-true, eq-eqb, cases_Bool, both_ways, cond-true, cond-false, cases_lt, cases_eq}
use Rattle.std.proofs.lemmas.List.Folds.{list_any-append, list_any_at}
use Rattle.std.proofs.lemmas.List.{get_or_append_left, get_or-append_right, get_or_past, get_or-replicate, get_or-set_same, get_or-set_other, get_or_default, nil_from_length, length-set, length-replicate}
use Rattle.std.proofs.lemmas.List.Sorted.{list_any-IsPermutation, IsNonDecreasingBy-from_sort}
use Rattle.std.proofs.lemmas.Map.Keys.{IsDistinct-push, IsDistinct-IsPermutation, IsStrictlyIncreasing-from_distinct}
use Rattle.std.proofs.lemmas.Map.Steps.{length-le_from_distinct_below}
use Rattle.std.proofs.lemmas.Cmp.{nat_eq_equiv}
use Rattle.ob_graph.specs.Paths.{is_in, inputs_of, Path, Reached}
use Rattle.ob_inputs.specs.Paths.Path.{one, more}
use Rattle.ob_inputs.specs.Same.{IsTest}
use Rattle.ob_graph.specs.Searches.{Marked, Clearing, met, met_all, Spread, IsGraph}
use Rattle.ob_inputs.proofs.PathLaws as paths

-- numbers are told apart
numbers : IsTest nat_eq
numbers = record { exact = λ a b e. eqb-true a b e; self = λ a. eq-eqb a a refl }

met_keeps : (found : List ℕ) (u v : ℕ) → is_in v found ≡ true → is_in v (met found u) ≡ true
met_keeps found u v h = elim (is_in u found) as (λ b. is_in v (if b then found else found ++ u ∷ []) ≡ true) [ true ↦ h | false ↦ list_any-append (λ y. v == y) found (u ∷ []) ∙ or_left _ _ h ]

met_has : (found : List ℕ) (u : ℕ) → is_in u (met found u) ≡ true
met_has found u = elim (cases_Bool (is_in u found)) [
  | inl t ↦ met_keeps found u u t
  | inr f ↦ subst (λ xs. is_in u xs ≡ true) (sym (cond-false _ _ _ f)) (list_any-append (λ y. u == y) found (u ∷ []) ∙ or_right (is_in u found) _ (or_left _ _ (eq-eqb u u refl)))
]

met_only : (found : List ℕ) (u v : ℕ) → is_in v (met found u) ≡ true → (is_in v found ≡ true) ⊎ (v ≡ u)
met_only found u v h = elim (is_in u found) as (λ b. is_in v (if b then found else found ++ u ∷ []) ≡ true → (is_in v found ≡ true) ⊎ (v ≡ u)) [
  | true ↦ λ h. inl h
  | false ↦ λ h. ⊎_elim (λ a. inl a) (λ b. ⊎_elim (λ e. inr (eqb-true v u e)) (λ r. absurd (both_ways false refl r)) (or_cases _ _ b)) (or_cases _ _ (sym (list_any-append (λ y. v == y) found (u ∷ [])) ∙ h))
] h

met_front : (found : List ℕ) (u k : ℕ) → k < length found → (get_or (met found u) k 0 ≡ get_or found k 0) × (length found ≤ length (met found u))
met_front found u k h = elim (is_in u found) as (λ b. (get_or (if b then found else found ++ u ∷ []) k 0 ≡ get_or found k 0) × (length found ≤ length (if b then found else found ++ u ∷ []))) [
  | true ↦ (refl, omega arith)
  | false ↦ (get_or_append_left found (u ∷ []) 0 k h, let e = length-append found (u ∷ []) in omega (arith, e))
]

keeps : (us found : List ℕ) (v : ℕ) → is_in v found ≡ true → is_in v (met_all found us) ≡ true
keeps [] found v h = h
keeps (u ∷ us) found v h = keeps us (met found u) v (met_keeps found u v h)

has : (us found : List ℕ) (v : ℕ) → is_in v us ≡ true → is_in v (met_all found us) ≡ true
has [] found v m = absurd (both_ways false refl m)
has (u ∷ us) found v m = ⊎_elim (λ e. keeps us (met found u) v (subst (λ z. is_in z (met found u) ≡ true) (sym (eqb-true v u e)) (met_has found u))) (λ r. has us (met found u) v r) (or_cases _ _ m)

only : (us found : List ℕ) (v : ℕ) → is_in v (met_all found us) ≡ true → (is_in v found ≡ true) ⊎ (is_in v us ≡ true)
only [] found v h = inl h
only (u ∷ us) found v h = ⊎_elim (λ a. ⊎_elim (λ b. inl b) (λ e. inr (or_left _ _ (eq-eqb v u e))) (met_only found u v a)) (λ r. inr (or_right (v == u) _ r)) (only us (met found u) v h)

front : (us found : List ℕ) (k : ℕ) → k < length found → (get_or (met_all found us) k 0 ≡ get_or found k 0) × (length found ≤ length (met_all found us))
front [] found k h = (refl, omega arith)
front (u ∷ us) found k h = let a = met_front found u k h in let l = a.1 in let b = front us (met found u) k (omega arith) in let m = b.1 in (b.0 ∙ a.0, omega arith)

at_place : (xs : List ℕ) (k : ℕ) → k < length xs → is_in (get_or xs k 0) xs ≡ true
at_place xs k h = list_any_at (λ y. get_or xs k 0 == y) xs k 0 h (eq-eqb _ _ refl)

place_of : (xs : List ℕ) (v : ℕ) → is_in v xs ≡ true → (k : ℕ) × (k < length xs) × (get_or xs k 0 ≡ v)
place_of [] v h = absurd (both_ways false refl h)
place_of (x ∷ xs) v h = ⊎_elim (λ e. (0, omega arith, sym (eqb-true v x e))) (λ r. let k = place_of xs v r in let l = k.1 in (suc k.0, omega arith, k.2)) (or_cases _ _ h)

-- what holds of each element holds of what is in the list
pub all_in : (P : ℕ → Type 0) (xs : List ℕ) → All P xs → (v : ℕ) → is_in v xs ≡ true → P v
all_in P xs all v h = let k = place_of xs v h in subst P k.2 (all k.0 0 k.1)

pub all_from : (P : ℕ → Type 0) (xs : List ℕ) → ((v : ℕ) → is_in v xs ≡ true → P v) → All P xs
all_from P xs h = λ k d lt. h (get_or xs k d) (list_any_at (λ y. get_or xs k d == y) xs k d lt (eq-eqb _ _ refl))

pub begins : (ins : ℕ → List ℕ) (starts : List ℕ) → Spread ins starts starts 0
begins ins starts = record {
  place = omega arith;
  first = λ v h. h;
  sound = λ v h. (v, h, inl refl);
  closed = λ k l u m. absurd (omega arith);
}

pub goes_on : (ins : ℕ → List ℕ) (starts found : List ℕ) (i : ℕ) → Spread ins starts found i → i < length found
    → Spread ins starts (met_all found (ins (get_or found i 0))) (i + 1)
goes_on ins starts found i s lt =
    let us = ins (get_or found i 0) in
    let f = front us found i lt in let l = f.1 in
    record {
      place = omega arith;
      first = λ v h. keeps us found v (s.first v h);
      sound = λ v h. ⊎_elim (λ a. s.sound v a) (λ b. paths.reached_on nat_eq numbers ins starts (get_or found i 0) v (s.sound _ (at_place found i lt)) b) (only us found v h);
      closed = λ k h u m. ⊎_elim
          (λ a. let e = (front us found k (omega arith)).0 in keeps us found u (s.closed k a u (subst (λ x. is_in u (ins x) ≡ true) e m)))
          (λ b. let e : k ≡ i = omega arith in has us found u (subst (λ x. is_in u (ins x) ≡ true) (ap (λ z. get_or (met_all found us) z 0) e ∙ f.0) m))
          (cases_lt k i);
    }

walks : (ins : ℕ → List ℕ) (found : List ℕ) → ((v u : ℕ) → is_in v found ≡ true → is_in u (ins v) ≡ true → is_in u found ≡ true) → {v w : ℕ} → Path ins v w → is_in v found ≡ true → is_in w found ≡ true
walks ins found c (one v w m) h = c v w h m
walks ins found c (more v u w m p) h = walks ins found c p (c v u h m)

pub ends : (ins : ℕ → List ℕ) (starts found : List ℕ) (i : ℕ) → Spread ins starts found i → length found ≤ i → (v : ℕ) → Decides (is_in v found) (Reached ins starts v)
ends ins starts found i s all v = (s.sound v, reaches)
  where
    closed : (v u : ℕ) → is_in v found ≡ true → is_in u (ins v) ≡ true → is_in u found ≡ true
    closed v u h m = let k = place_of found v h in s.closed k.0 (let a = k.1 in omega arith) u (subst (λ x. is_in u (ins x) ≡ true) (sym k.2) m)

    reaches : Reached ins starts v → is_in v found ≡ true
    reaches r = ⊎_elim (λ e. subst (λ z. is_in z found ≡ true) e (s.first r.0 r.1)) (λ p. walks ins found closed p (s.first r.0 r.1)) r.2

-- what is marked lies below the number of marks
pub marked_below : (marks : List Bool) (v : ℕ) → get_or marks v false ≡ true → v < length marks
marked_below marks v h = ⊎_elim (λ l. l) (λ g. absurd (both_ways false refl (sym (get_or_past marks v false g) ∙ h))) (cases_lt v (length marks))

pub found_few : (marks : List Bool) (found : List ℕ) (capacity : ℕ) → Marked marks found capacity → length found ≤ length marks
found_few marks found capacity m = length-le_from_distinct_below found (length marks) m.apart (λ v h. marked_below marks v (m.at_found v ∙ h))

pub marked_more : (marks : List Bool) (found : List ℕ) (capacity v : ℕ) → Marked marks found capacity → v < length marks → get_or marks v false ≡ false
    → Marked (set marks v true) (found ++ v ∷ []) capacity
marked_more marks found capacity v m lt f = record {
  at_found = λ u. elim (cases_eq u v) [
    | inl e ↦ subst (λ z. get_or (set marks v true) z false ≡ is_in z (found ++ v ∷ [])) (sym e)
        (get_or-set_same marks v true false lt ∙ sym (list_any-append (λ y. v == y) found (v ∷ []) ∙ or_right (is_in v found) _ (or_left _ _ (eq-eqb v v refl))))
    | inr n ↦ get_or-set_other marks v u true false n ∙ m.at_found u ∙ sym (list_any-append (λ y. u == y) found (v ∷ []) ∙ ap (λ b. is_in u found || (b || false)) (ne u n) ∙ none (is_in u found))
  ];
  apart = IsDistinct-push nat_eq_equiv found v m.apart (sym (m.at_found v) ∙ f);
  fits = simp length-set m.fits;
}
  where
    ne : (u : ℕ) → u ≢ v → (u == v) ≡ false
    ne u n = elim (cases_Bool (u == v)) [ inl t ↦ absurd (n (eqb-true u v t)) | inr f ↦ f ]

    none : (b : Bool) → (b || (false || false)) ≡ b
    none true = refl
    none false = refl

-- more marks, none of them set
pub marked_wide : (marks : List Bool) (found : List ℕ) (capacity room n : ℕ) → Marked marks found capacity → length marks + n ≤ room
    → Marked (marks ++ replicate n false) found room
marked_wide marks found capacity room n m fits = record {
  at_found = λ v. elim (cases_lt v (length marks)) [
    | inl l ↦ get_or_append_left marks (replicate n false) false v l ∙ m.at_found v
    | inr g ↦ late v g ∙ sym (get_or_past marks v false g) ∙ m.at_found v
  ];
  apart = m.apart;
  fits = let e = length-append marks (replicate n false) in let f = length-replicate n false in omega (arith, e, f);
}
  where
    unset : (k j : ℕ) → get_or (replicate k false) j false ≡ false
    unset k j = elim (cases_lt j k) [ inl l ↦ get_or-replicate k j false false l | inr g ↦ get_or_past (replicate k false) j false (let f = length-replicate k false in omega (arith, f)) ]

    late : (v : ℕ) → length marks ≤ v → get_or (marks ++ replicate n false) v false ≡ false
    late v g = get_or-append_right marks (replicate n false) (length marks) v false refl g ∙ unset n (v - length marks)

pub marked_sorted : (marks : List Bool) (found found' : List ℕ) (capacity : ℕ) → Marked marks found capacity → IsPermutation found found' → Marked marks found' capacity
marked_sorted marks found found' capacity m p = record {
  at_found = λ v. m.at_found v ∙ list_any-IsPermutation (λ y. v == y) found found' p;
  apart = IsDistinct-IsPermutation nat_eq flips found found' p m.apart;
  fits = m.fits;
}
  where
    flips : (x y : ℕ) → nat_eq x y ≡ nat_eq y x
    flips x y = elim (cases_Bool (nat_eq x y)) [
      | inl t ↦ t ∙ sym (eq-eqb y x (sym (eqb-true x y t)))
      | inr f ↦ f ∙ sym (elim (cases_Bool (nat_eq y x)) [ inl t ↦ absurd (both_ways _ f (eq-eqb x y (sym (eqb-true y x t)))) | inr g ↦ g ])
    ]

pub rises : (marks : List Bool) (found found' : List ℕ) (capacity : ℕ) → Marked marks found capacity → IsPermutation found found' → IsSorted nat_cmp found' → IsStrictlyIncreasing found'
rises marks found found' capacity m p s = IsStrictlyIncreasing-from_distinct found' (IsNonDecreasingBy-from_sort (λ x. x) found' s) (marked_sorted marks found found' capacity m p).apart

-- while marks are taken away
pub clearing_begins : (marks : List Bool) (found : List ℕ) (capacity : ℕ) → Marked marks found capacity → Clearing marks found
clearing_begins marks found capacity m = record { at_left = λ v h. sym (m.at_found v) ∙ h; below = λ v h. marked_below marks v (m.at_found v ∙ h) }

pub clearing_more : (marks : List Bool) (found rest : List ℕ) (v : ℕ) → Clearing marks found → found ≡ rest ++ v ∷ [] → Clearing (set marks v false) rest
clearing_more marks found rest v c e = record {
  at_left = λ u h. elim (cases_eq u v) [
    | inl s ↦ absurd (both_ways false refl (sym (get_or-set_same marks v false false (lt)) ∙ subst (λ z. get_or (set marks v false) z false ≡ true) s h))
    | inr n ↦ ⊎_elim (λ a. a) (λ b. ⊎_elim (λ t. absurd (n (eqb-true u v t))) (λ r. absurd (both_ways false refl r)) (or_cases _ _ b)) (or_cases _ _ (split u (c.at_left u (sym (get_or-set_other marks v u false false n) ∙ h))))
  ];
  below = λ u h. let l = c.below u (join u (or_left _ _ h)) in simp length-set l;
}
  where
    split : (u : ℕ) → is_in u found ≡ true → (is_in u rest || is_in u (v ∷ [])) ≡ true
    split u h = sym (list_any-append (λ y. u == y) rest (v ∷ [])) ∙ subst (λ z. is_in u z ≡ true) e h

    join : (u : ℕ) → (is_in u rest || is_in u (v ∷ [])) ≡ true → is_in u found ≡ true
    join u h = subst (λ z. is_in u z ≡ true) (sym e) (list_any-append (λ y. u == y) rest (v ∷ []) ∙ h)

    lt : v < length marks
    lt = c.below v (join v (or_right (is_in v rest) _ (or_left _ _ (eq-eqb v v refl))))

pub clearing_ends : (marks : List Bool) (capacity : ℕ) → Clearing marks [] → length marks ≤ capacity → Marked marks [] capacity
unfolding IsDistinct
clearing_ends marks capacity c room = record {
  at_found = λ v. elim (cases_Bool (get_or marks v false)) [ inl t ↦ absurd (both_ways false refl (c.at_left v t)) | inr f ↦ f ];
  apart = tt;
  fits = room;
}

pub marked_none : (capacity : ℕ) → Marked [] [] capacity
unfolding IsDistinct
marked_none capacity = record { at_found = λ v. refl; apart = tt; fits = omega arith }

-- a node that wasn't found is found
pub met_new : (found : List ℕ) (u : ℕ) → is_in u found ≡ false → found ++ u ∷ [] ≡ met found u
met_new found u f = sym (cond-false _ _ _ f)

pub met_old : (found : List ℕ) (u : ℕ) → is_in u found ≡ true → found ≡ met found u
met_old found u t = sym (cond-true _ _ _ t)

-- to begin with what was met is to begin with the nodes that were given
pub from_met : (ins : ℕ → List ℕ) (starts : List ℕ) (v : ℕ) (b : Bool) → Decides b (Reached ins (met_all [] starts) v) → Decides b (Reached ins starts v)
from_met ins starts v b d = (
  λ t. let r = d.0 t in (r.0, ⊎_elim (λ a. absurd (both_ways false refl a)) (λ m. m) (only starts [] r.0 r.1), r.2),
  λ r. d.1 (r.0, has starts [] r.0 r.1, r.2),
)

-- what `meet` does
pub meet_fits : (marks : List Bool) (found : List ℕ) (capacity v : ℕ) (b : Bool) → Marked marks found capacity → v < length marks → b ≡ get_or marks v b → b ≡ false → length found < capacity
meet_fits marks found capacity v b m lt e f =
    let k = marked_more marks found capacity v m lt (sym (get_or_default marks v b false lt) ∙ sym e ∙ f) in
    let few = found_few (set marks v true) (found ++ v ∷ []) capacity k in
    let n = length-append found (v ∷ []) in let fits = k.fits in omega (arith, few, n, fits)

pub meet_marks : (marks : List Bool) (found : List ℕ) (capacity v : ℕ) (b : Bool) → Marked marks found capacity → v < length marks → b ≡ get_or marks v b → b ≡ false → Marked (set marks v true) (found ++ v ∷ []) capacity
meet_marks marks found capacity v b m lt e f = marked_more marks found capacity v m lt (sym (get_or_default marks v b false lt) ∙ sym e ∙ f)

pub was_found : (marks : List Bool) (found : List ℕ) (capacity v : ℕ) (b : Bool) → Marked marks found capacity → v < length marks → b ≡ get_or marks v b → is_in v found ≡ b
was_found marks found capacity v b m lt e = sym (m.at_found v) ∙ sym (get_or_default marks v b false lt) ∙ sym e

-- the inputs of a node are nodes
pub inputs_inside : (lists : List (List ℕ)) (room : ℕ) → IsGraph lists room → (v u : ℕ) → is_in u (inputs_of lists v) ≡ true → u < room
inputs_inside lists room g v u h = let l = g.inside v u h in let f = g.fits in omega (arith, l, f)

-- one list of inputs is replaced, where there is room
pub graph_set : (old wide : List (List ℕ)) (nodes room room' v : ℕ) (us : List ℕ) → IsGraph old room → ((u : ℕ) → inputs_of wide u ≡ inputs_of old u) → length old ≤ length wide
    → v < length wide → All (λ u. u < length wide) us → length wide ≤ 2 ^ 20 → length wide ≤ room' → IsGraph (set wide v us) room'
graph_set old wide nodes room room' v us g same grows lt all few fits = record {
  inside = λ w u h. let e = length-set wide v us in elim (cases_eq w v) [
    | inl s ↦ let l = all_in (λ u. u < length wide) us all u (subst (λ xs. is_in u xs ≡ true) (ap (λ z. inputs_of (set wide v us) z) s ∙ get_or-set_same wide v us [] lt) h) in omega (arith, e, l)
    | inr n ↦ let l = g.inside w u (subst (λ xs. is_in u xs ≡ true) (get_or-set_other wide v w us [] n ∙ same w) h) in omega (arith, e, l)
  ];
  few = simp length-set few;
  fits = simp length-set fits;
}

-- what `clear` does
pub clearing_lt : (marks : List Bool) (found rest : List ℕ) (v : ℕ) → Clearing marks found → found ≡ rest ++ v ∷ [] → v < length marks
clearing_lt marks found rest v c e = c.below v (subst (λ z. is_in v z ≡ true) (sym e) (list_any-append (λ y. v == y) rest (v ∷ []) ∙ or_right (is_in v rest) _ (or_left _ _ (eq-eqb v v refl))))

pub cleared : (marks : List Bool) (found rest : List ℕ) (capacity : ℕ) → Clearing marks found → length found ≡ 0 → length rest ≡ 0 → length marks ≤ capacity → Marked marks rest capacity
cleared marks found rest capacity c e f fits = subst (λ xs. Marked marks xs capacity) (sym (nil_from_length rest f)) (clearing_ends marks capacity (subst (Clearing marks) (nil_from_length found e) c) fits)

-- what is reached from the inputs of a node
pub around : (ins : ℕ → List ℕ) (v : ℕ) (b : Bool) → Decides b (Reached ins (ins v) v) → Decides b (Path ins v v)
around ins v b d = (λ t. let r = d.0 t in ⊎_elim (λ e. one v v (subst (λ z. is_in z (ins v) ≡ true) e r.1)) (λ p. more v r.0 v r.1 p) r.2, λ p. d.1 (first p))
  where
    first : {w : ℕ} → Path ins v w → Reached ins (ins v) w
    first (one x w m) = (w, m, inl refl)
    first (more x u w m p) = (u, m, inr p)
