-- What a walk over the inputs of marked nodes keeps.
use Rattle.std.proofs.Common.{◌≡◌, ◌≢◌, ℕ, zero, suc, ◌+◌, ◌-◌, ◌≤◌, ◌<◌, Bool, true, false, List, [], ◌∷◌, ◌++◌, ◌==◌, nat_eq, length, get_or, set, take, replicate, cond, filter, ◌⊎◌, inl, inr, ⊎_elim, sym, refl, ap, ◌∙◌, subst, arith, length-append}
use Rattle.std.specs.List.{IsDistinct}
use Rattle.std.specs.List.Sorted.{IsPermutation}
use Rattle.std.proofs.lemmas.Bool.{or_cases, or_left, or_right, eqb-true, eq-eqb, cases_Bool, both_ways, cases_lt, cases_eq}
use Rattle.std.proofs.lemmas.List.Folds.{list_any-append}
use Rattle.std.proofs.Math.Seq.{get_or-append_seam, take-suc}
use Rattle.std.proofs.lemmas.List.{get_or_append_left, get_or_past, get_or-take, get_or-set_same, get_or-set_other, length-set, append_assoc, append-nil, take_all, length-replicate, get_or-replicate, take-append-le, length-take-le}
use Rattle.std.proofs.lemmas.List.Sorted.{list_any-IsPermutation, IsPermutation-append_right, IsPermutation-to_front}
use Rattle.std.proofs.lemmas.Map.Keys.{IsDistinct-push, IsDistinct-IsPermutation}
use Rattle.std.proofs.lemmas.Map.Steps.{length-le_from_distinct_below}
use Rattle.std.proofs.lemmas.Cmp.{nat_eq_equiv}
use Rattle.ob_graph.specs.Paths.{is_in, Path}
use Rattle.ob_inputs.specs.Paths.Path.{one, more}
use Rattle.ob_graph.specs.Searches.{Marked}
use Rattle.ob_queue.specs.Plans.{is_marked, marked_inputs, HasNoCycle, InputsFirst, CyclesAside}
use Rattle.ob_queue.specs.Walks.{Walked, Walking, taken}

-- an input that is marked
in_filter : (p : ℕ → Bool) (xs : List ℕ) (u : ℕ) → is_in u xs ≡ true → p u ≡ true → is_in u (filter p xs) ≡ true
in_filter p [] u h t = h
in_filter p (x ∷ xs) u h t = elim (cases_Bool (p x)) [
  | inl y ↦ rw y (⊎_elim (λ e. or_left _ _ e) (λ r. or_right (u == x) _ (in_filter p xs u r t)) (or_cases _ _ h))
  | inr n ↦ rw n (⊎_elim (λ e. absurd (both_ways _ n (subst (λ z. p z ≡ true) (eqb-true u x e) t))) (λ r. in_filter p xs u r t) (or_cases _ _ h))
]

from_filter : (p : ℕ → Bool) (xs : List ℕ) (u : ℕ) → is_in u (filter p xs) ≡ true → (is_in u xs ≡ true) × (p u ≡ true)
from_filter p [] u h = absurd (both_ways false refl h)
from_filter p (x ∷ xs) u h = elim (cases_Bool (p x)) [
  | inl y ↦ ⊎_elim (λ e. (or_left _ _ e, subst (λ z. p z ≡ true) (sym (eqb-true u x e)) y)) (λ r. let w = from_filter p xs u r in (or_right (u == x) _ w.0, w.1)) (or_cases (u == x) _ (subst (λ b. is_in u (cond b (x ∷ filter p xs) (filter p xs)) ≡ true) y h))
  | inr n ↦ let w = from_filter p xs u (subst (λ b. is_in u (cond b (x ∷ filter p xs) (filter p xs)) ≡ true) n h) in (or_right (u == x) _ w.0, w.1)
]

place_of : (xs : List ℕ) (v : ℕ) → is_in v xs ≡ true → (k : ℕ) × (k < length xs) × (get_or xs k 0 ≡ v)
place_of [] v h = absurd (both_ways false refl h)
place_of (x ∷ xs) v h = ⊎_elim (λ e. (0, omega arith, sym (eqb-true v x e))) (λ r. let k = place_of xs v r in let l = k.1 in (suc k.0, omega arith, k.2)) (or_cases _ _ h)

pub at_place : (xs : List ℕ) (k : ℕ) → k < length xs → is_in (get_or xs k 0) xs ≡ true
at_place [] k h = absurd (omega arith)
at_place (x ∷ xs) zero h = or_left _ _ (eq-eqb x x refl)
at_place (x ∷ xs) (suc k) h = or_right (get_or xs k 0 == x) _ (at_place xs k (omega arith))

ne_test : (u v : ℕ) → u ≢ v → (u == v) ≡ false
ne_test u v n = elim (cases_Bool (u == v)) [ inl t ↦ absurd (n (eqb-true u v t)) | inr f ↦ f ]

-- one more at the end
in_push : (xs : List ℕ) (u v : ℕ) → is_in v xs ≡ true → is_in v (xs ++ u ∷ []) ≡ true
in_push xs u v h = list_any-append (λ y. v == y) xs (u ∷ []) ∙ or_left _ _ h

last_in : (xs : List ℕ) (u : ℕ) → is_in u (xs ++ u ∷ []) ≡ true
last_in xs u = list_any-append (λ y. u == y) xs (u ∷ []) ∙ or_right (is_in u xs) _ (or_left _ _ (eq-eqb u u refl))

push_only : (xs : List ℕ) (u v : ℕ) → is_in v (xs ++ u ∷ []) ≡ true → (is_in v xs ≡ true) ⊎ (v ≡ u)
push_only xs u v h = ⊎_elim (λ a. inl a) (λ b. ⊎_elim (λ e. inr (eqb-true v u e)) (λ r. absurd (both_ways false refl r)) (or_cases _ _ b)) (or_cases _ _ (sym (list_any-append (λ y. v == y) xs (u ∷ [])) ∙ h))

not_pushed : (xs : List ℕ) (u v : ℕ) → is_in v xs ≡ false → v ≢ u → is_in v (xs ++ u ∷ []) ≡ false
not_pushed xs u v f n = elim (cases_Bool (is_in v (xs ++ u ∷ []))) [
  | inl t ↦ absurd (⊎_elim (λ a. both_ways _ f a) (λ e. n e) (push_only xs u v t))
  | inr g ↦ g
]

-- what is marked lies below the number of marks
below_marks : (marks : List Bool) (v : ℕ) → is_marked marks v ≡ true → v < length marks
below_marks marks v h = ⊎_elim (λ l. l) (λ g. absurd (both_ways false refl (sym (get_or_past marks v false g) ∙ h))) (cases_lt v (length marks))

-- a mark that is taken away stays away, and no other changes
unmarked : (marks : List Bool) (u v : ℕ) → is_marked marks v ≡ false → is_marked (set marks u false) v ≡ false
unmarked marks u v f = elim (cases_eq v u) [
  | inl e ↦ ⊎_elim (λ l. subst (λ z. is_marked (set marks u false) z ≡ false) (sym e) (get_or-set_same marks u false false l))
      (λ g. get_or_past (set marks u false) v false (let n = length-set marks u false in omega (arith, n, e))) (cases_lt u (length marks))
  | inr n ↦ get_or-set_other marks u v false false n ∙ f
]

pub still_marked : (marks : List Bool) (u v : ℕ) → is_marked (set marks u false) v ≡ true → is_marked marks v ≡ true
still_marked marks u v h = elim (cases_Bool (is_marked marks v)) [ inl t ↦ t | inr f ↦ absurd (both_ways _ (unmarked marks u v f) h) ]

-- there is room for all that is taken
pub few_taken : (queue : List Bool) (ins : ℕ → List ℕ) (w : Walked) → Walking queue ins w → length w.order + length w.path ≤ length w.marks
few_taken queue ins w k =
    let few = length-le_from_distinct_below (taken w) (length queue) k.apart (λ v h. below_marks queue v (k.sound v h)) in
    let n = length-append w.order w.path in let r = k.room in omega (arith, few, n, r)

-- and for one more where one waits
pub few_waiting : (queue : List Bool) (ins : ℕ → List ℕ) (w : Walked) (u : ℕ) → Walking queue ins w → is_marked w.marks u ≡ true → length w.order + length w.path < length w.marks
few_waiting queue ins w u k t =
    let few = length-le_from_distinct_below (taken w ++ u ∷ []) (length queue) (IsDistinct-push nat_eq_equiv (taken w) u k.apart (k.waits u t).1)
    (λ v h. ⊎_elim (λ a. below_marks queue v (k.sound v a)) (λ e. let l = below_marks queue u (k.waits u t).0 in omega (arith, l, e)) (push_only (taken w) u v h)) in
    let n = length-append w.order w.path in let m = length-append (taken w) (u ∷ []) in let r = k.room in omega (arith, few, n, m, r)

-- a node that waits is begun; the last of the path reads it
pub opens : (queue : List Bool) (ins : ℕ → List ℕ) (w : Walked) (u : ℕ) → Walking queue ins w → is_marked w.marks u ≡ true
    → ((k : ℕ) → k + 1 ≡ length w.path → is_in u (marked_inputs queue ins (get_or w.path k 0)) ≡ true)
    → Walking queue ins (record { marks = set w.marks u false; path = w.path ++ u ∷ []; places = w.places ++ 0 ∷ []; order = w.order })
opens queue ins w u s t reads = record {
  held = λ v h. ⊎_elim
      (λ a. elim (cases_eq v u) [
        | inl e ↦ inr (subst (λ xs. is_in v xs ≡ true) (joined) (subst (λ z. is_in z (taken w ++ u ∷ []) ≡ true) (sym e) (last_in (taken w) u)))
        | inr n ↦ inl (get_or-set_other w.marks u v false false n ∙ a)
      ])
      (λ b. inr (subst (λ xs. is_in v xs ≡ true) joined (in_push (taken w) u v b)))
      (s.held v h);
  waits = λ v h. let k = s.waits v (still_marked w.marks u v h) in
      (k.0, subst (λ xs. is_in v xs ≡ false) joined (not_pushed (taken w) u v k.1 (λ e. both_ways _ (gone v e) h)));
  sound = λ v h. ⊎_elim (λ a. s.sound v a) (λ e. subst (λ z. is_marked queue z ≡ true) (sym e) (s.waits u t).0) (push_only (taken w) u v (subst (λ xs. is_in v xs ≡ true) (sym joined) h));
  apart = subst (IsDistinct nat_eq) joined (IsDistinct-push nat_eq_equiv (taken w) u s.apart (s.waits u t).1);
  chain = λ k h. ⊎_elim
      (λ l. subst (λ z. is_in z (marked_inputs queue ins (get_or (w.path ++ u ∷ []) k 0)) ≡ true) (sym (get_or_append_left w.path (u ∷ []) 0 (k + 1) l))
      (subst (λ z. is_in (get_or w.path (k + 1) 0) (marked_inputs queue ins z) ≡ true) (sym (get_or_append_left w.path (u ∷ []) 0 k (omega arith))) (s.chain k l)))
      (λ g. let n = length-append w.path (u ∷ []) in let e : k + 1 ≡ length w.path = omega (arith, n) in
      subst (λ z. is_in z (marked_inputs queue ins (get_or (w.path ++ u ∷ []) k 0)) ≡ true) (sym (ap (λ z. get_or (w.path ++ u ∷ []) z 0) e ∙ get_or-append_seam w.path u [] 0))
      (subst (λ z. is_in u (marked_inputs queue ins z) ≡ true) (sym (get_or_append_left w.path (u ∷ []) 0 k (omega arith))) (reads k e)))
      (cases_lt (k + 1) (length w.path));
  begun = λ k h j l. ⊎_elim
      (λ m. let size = s.size in
      unmarked w.marks u _ (subst (λ z. is_marked w.marks (get_or (ins z) j 0) ≡ false) (sym (get_or_append_left w.path (u ∷ []) 0 k m))
      (s.begun k m j (subst (λ z. j < z) (get_or_append_left w.places (0 ∷ []) 0 k (omega arith)) l))))
      (λ g. let n = length-append w.path (u ∷ []) in let size = s.size in let e : k ≡ length w.places = omega (arith, n, size) in
      let z : get_or (w.places ++ 0 ∷ []) k 0 ≡ 0 = ap (λ z. get_or (w.places ++ 0 ∷ []) z 0) e ∙ get_or-append_seam w.places 0 [] 0 in absurd (omega (arith, l, z)))
      (cases_lt k (length w.path));
  first = s.first;
  size = let a = length-append w.path (u ∷ []) in let b = length-append w.places (0 ∷ []) in let size = s.size in omega (arith, a, b, size);
  room = length-set w.marks u false ∙ s.room;
}
  where
    joined : taken w ++ u ∷ [] ≡ w.order ++ (w.path ++ u ∷ [])
    joined = append_assoc w.order w.path (u ∷ [])

    gone : (v : ℕ) → v ≡ u → is_marked (set w.marks u false) v ≡ false
    gone v e = subst (λ z. is_marked (set w.marks u false) z ≡ false) (sym e) (get_or-set_same w.marks u false false (below_marks w.marks u t))

-- a node of the path comes to a further place, where no input before it waits
pub advances : (queue : List Bool) (ins : ℕ → List ℕ) (w : Walked) (depth place : ℕ) → Walking queue ins w → depth < length w.path
    → ((j : ℕ) → j < place → is_marked w.marks (get_or (ins (get_or w.path depth 0)) j 0) ≡ false)
    → Walking queue ins (record { marks = w.marks; path = w.path; places = set w.places depth place; order = w.order })
advances queue ins w depth place s lt past = record {
  held = s.held;
  waits = s.waits;
  sound = s.sound;
  apart = s.apart;
  chain = s.chain;
  begun = λ k h j l. elim (cases_eq k depth) [
    | inl e ↦ subst (λ z. is_marked w.marks (get_or (ins (get_or w.path z 0)) j 0) ≡ false) (sym e)
        (past j (let size = s.size in let g = get_or-set_same w.places depth place 0 (omega arith) in
        let f : get_or (set w.places depth place) k 0 ≡ place = ap (λ z. get_or (set w.places depth place) z 0) e ∙ g in omega (arith, l, f)))
    | inr n ↦ s.begun k h j (subst (λ z. j < z) (get_or-set_other w.places depth k place 0 n) l)
  ];
  first = s.first;
  size = length-set w.places depth place ∙ s.size;
  room = s.room;
}

-- each node of the path leads to the last one
leads_up : (queue : List Bool) (ins : ℕ → List ℕ) (path : List ℕ)
    → ((k : ℕ) → k + 1 < length path → is_in (get_or path (k + 1) 0) (marked_inputs queue ins (get_or path k 0)) ≡ true)
    → (d k : ℕ) → k + d + 1 < length path → Path (marked_inputs queue ins) (get_or path k 0) (get_or path (k + d + 1) 0)
leads_up queue ins path chain zero k h = let e : k + 1 ≡ k + 0 + 1 = omega arith in
    subst (λ z. Path (marked_inputs queue ins) (get_or path k 0) (get_or path z 0)) e (one _ _ (chain k (omega arith)))
leads_up queue ins path chain (suc d) k h = let e : (k + 1) + d + 1 ≡ k + suc d + 1 = omega arith in
    subst (λ z. Path (marked_inputs queue ins) (get_or path k 0) (get_or path z 0)) e
    (more _ _ _ (chain k (omega arith)) (leads_up queue ins path chain d (k + 1) (omega arith)))

-- the last node of the path is placed, where none of its inputs waits
pub finishes : (queue : List Bool) (ins : ℕ → List ℕ) (w : Walked) (rest : List ℕ) (v : ℕ) → Walking queue ins w → w.path ≡ rest ++ v ∷ []
    → ((u : ℕ) → is_in u (ins v) ≡ true → is_marked w.marks u ≡ false)
    → Walking queue ins (record { marks = w.marks; path = rest; places = take (length rest) w.places; order = w.order ++ v ∷ [] })
finishes queue ins w rest v s is past = record {
  held = λ u h. ⊎_elim (λ a. inl a) (λ b. inr (sym (same u) ∙ b)) (s.held u h);
  waits = λ u h. let k = s.waits u h in (k.0, sym (same u) ∙ k.1);
  sound = λ u h. s.sound u (same u ∙ h);
  apart = IsDistinct-IsPermutation nat_eq flips (taken w) ((w.order ++ v ∷ []) ++ rest) moved s.apart;
  chain = λ k h. subst (λ z. is_in z (marked_inputs queue ins (get_or rest k 0)) ≡ true) (before (k + 1) h)
      (subst (λ z. is_in (get_or w.path (k + 1) 0) (marked_inputs queue ins z) ≡ true) (before k (omega arith)) (s.chain k (let n = size in omega (arith, n))));
  begun = λ k h j l. subst (λ z. is_marked w.marks (get_or (ins z) j 0) ≡ false) (before k h)
      (s.begun k (let n = size in omega (arith, n)) j (subst (λ z. j < z) (get_or-take (length rest) w.places k 0 h) l));
  first = λ k h u m. ⊎_elim
      (λ l. let e = get_or_append_left w.order (v ∷ []) 0 k l in
      ⊎_elim (λ a. inl (subst (λ xs. is_in u xs ≡ true) (sym (take-append-le k w.order (v ∷ []) (omega arith))) a))
      (λ p. inr (subst (λ z. Path (marked_inputs queue ins) u z) (sym e) p))
      (s.first k l u (subst (λ z. is_in u (marked_inputs queue ins z) ≡ true) e m)))
      (λ g. let n = length-append w.order (v ∷ []) in let q : k ≡ length w.order = omega (arith, n) in
      let e : get_or (w.order ++ v ∷ []) k 0 ≡ v = ap (λ z. get_or (w.order ++ v ∷ []) z 0) q ∙ get_or-append_seam w.order v [] 0 in
      ⊎_elim (λ a. inl (subst (λ z. is_in u (take z (w.order ++ v ∷ [])) ≡ true) (sym q) (subst (λ xs. is_in u xs ≡ true) (sym (take-append-le (length w.order) w.order (v ∷ []) (omega arith) ∙ whole w.order)) a)))
      (λ p. inr (subst (λ z. Path (marked_inputs queue ins) u z) (sym e) p))
      (last u (subst (λ z. is_in u (marked_inputs queue ins z) ≡ true) e m)))
      (cases_lt k (length w.order));
  size = length-take-le (length rest) w.places (let n = size in let z = s.size in omega (arith, n, z));
  room = s.room;
}
  where
    size : length w.path ≡ length rest + 1
    size = ap length is ∙ length-append rest (v ∷ [])

    before : (k : ℕ) → k < length rest → get_or w.path k 0 ≡ get_or rest k 0
    before k h = ap (λ xs. get_or xs k 0) is ∙ get_or_append_left rest (v ∷ []) 0 k h

    whole : (xs : List ℕ) → take (length xs) xs ≡ xs
    whole xs = take_all (length xs) xs (omega arith)

    moved : IsPermutation (taken w) ((w.order ++ v ∷ []) ++ rest)
    moved = subst (λ xs. IsPermutation (w.order ++ xs) ((w.order ++ v ∷ []) ++ rest)) (sym is)
        (subst (IsPermutation (w.order ++ (rest ++ v ∷ []))) (sym (append_assoc w.order (v ∷ []) rest)) (IsPermutation-append_right w.order (rest ++ v ∷ []) (v ∷ rest) (IsPermutation-to_front rest v)))

    same : (u : ℕ) → is_in u (taken w) ≡ is_in u ((w.order ++ v ∷ []) ++ rest)
    same u = list_any-IsPermutation (λ y. u == y) (taken w) ((w.order ++ v ∷ []) ++ rest) moved

    flips : (x y : ℕ) → nat_eq x y ≡ nat_eq y x
    flips x y = elim (cases_Bool (nat_eq x y)) [
      | inl t ↦ t ∙ sym (eq-eqb y x (sym (eqb-true x y t)))
      | inr f ↦ f ∙ sym (elim (cases_Bool (nat_eq y x)) [ inl t ↦ absurd (both_ways _ f (eq-eqb x y (sym (eqb-true y x t)))) | inr g ↦ g ])
    ]

    end : get_or w.path (length rest) 0 ≡ v
    end = ap (λ xs. get_or xs (length rest) 0) is ∙ get_or-append_seam rest v [] 0

    round : (u k : ℕ) → k < length w.path → get_or w.path k 0 ≡ u → is_in u (marked_inputs queue ins v) ≡ true → Path (marked_inputs queue ins) u v
    round u k h e m = elim (cases_eq k (length rest)) [
      | inl q ↦ let t : u ≡ v = sym e ∙ ap (λ z. get_or w.path z 0) q ∙ end in
          subst (λ z. Path (marked_inputs queue ins) z v) (sym t) (one v v (subst (λ z. is_in z (marked_inputs queue ins v) ≡ true) t m))
      | inr n ↦ let z = size in let d = length rest - k - 1 in let q : k + d + 1 ≡ length rest = omega arith in
          subst (λ x. Path (marked_inputs queue ins) x v) e (subst (λ x. Path (marked_inputs queue ins) (get_or w.path k 0) x) (ap (λ z. get_or w.path z 0) q ∙ end)
          (leads_up queue ins w.path s.chain d k (omega arith)))
    ]

    last : (u : ℕ) → is_in u (marked_inputs queue ins v) ≡ true → (is_in u w.order ≡ true) ⊎ Path (marked_inputs queue ins) u v
    last u m = let f = from_filter (is_marked queue) (ins v) u m in
        ⊎_elim (λ a. absurd (both_ways _ (past u f.0) a))
        (λ b. ⊎_elim (λ a. inl a) (λ p. let k = place_of w.path u p in inr (round u k.0 k.1 k.2 m)) (or_cases _ _ (sym (list_any-append (λ y. u == y) w.order w.path) ∙ b)))
        (s.held u f.1)

-- nothing is begun yet
pub starts : (queue : List Bool) (ins : ℕ → List ℕ) (w : Walked) → w.marks ≡ queue → w.path ≡ [] → w.places ≡ [] → w.order ≡ [] → Walking queue ins w
unfolding IsDistinct
starts queue ins w marks path places order =
    let none : taken w ≡ [] = ap (λ xs. xs ++ w.path) order ∙ path in
    record {
      held = λ v h. inl (subst (λ xs. is_marked xs v ≡ true) (sym marks) h);
      waits = λ v h. (subst (λ xs. is_marked xs v ≡ true) marks h, subst (λ xs. is_in v xs ≡ false) (sym none) refl);
      sound = λ v h. absurd (both_ways false refl (subst (λ xs. is_in v xs ≡ true) none h));
      apart = subst (IsDistinct nat_eq) (sym none) tt;
      chain = λ k h. let n = ap length path in absurd (omega (arith, n));
      begun = λ k h. let n = ap length path in absurd (omega (arith, n));
      first = λ k h. let n = ap length order in absurd (omega (arith, n));
      size = ap length places ∙ sym (ap length path);
      room = ap length marks;
    }

-- a list of marks of which none stands
all_false : (xs : List Bool) → ((v : ℕ) → get_or xs v false ≡ false) → xs ≡ replicate (length xs) false
all_false [] h = refl
all_false (x ∷ xs) h = cc (h 0, all_false xs (λ v. h (suc v)))

-- all that were to be begun are
pub none_left : (queue : List Bool) (ins : ℕ → List ℕ) (w : Walked) (nodes : List ℕ) → Walking queue ins w → ((v : ℕ) → is_in v nodes ≡ is_marked queue v)
    → ((k : ℕ) → k < length nodes → is_marked w.marks (get_or nodes k 0) ≡ false) → (v : ℕ) → is_marked w.marks v ≡ false
none_left queue ins w nodes s listed done v = elim (cases_Bool (is_marked w.marks v)) [
  | inl t ↦ let k = place_of nodes v (listed v ∙ (s.waits v t).0) in absurd (both_ways _ (subst (λ z. is_marked w.marks z ≡ false) k.2 (done k.0 k.1)) t)
  | inr f ↦ f
]

pub ends_marks : (queue : List Bool) (ins : ℕ → List ℕ) (w : Walked) → Walking queue ins w → ((v : ℕ) → is_marked w.marks v ≡ false) → w.marks ≡ replicate (length queue) false
ends_marks queue ins w s none = all_false w.marks none ∙ ap (λ n. replicate n false) s.room

pub ends_listed : (queue : List Bool) (ins : ℕ → List ℕ) (w : Walked) → Walking queue ins w → w.path ≡ [] → ((v : ℕ) → is_marked w.marks v ≡ false) → (v : ℕ) → is_in v w.order ≡ is_marked queue v
ends_listed queue ins w s path none v = elim (cases_Bool (is_marked queue v)) [
  | inl t ↦ ⊎_elim (λ a. absurd (both_ways _ (none v) a)) (λ b. subst (λ xs. is_in v xs ≡ true) placed b) (s.held v t) ∙ sym t
  | inr f ↦ elim (cases_Bool (is_in v w.order)) [ inl t ↦ absurd (both_ways _ f (s.sound v (subst (λ xs. is_in v xs ≡ true) (sym placed) t))) | inr g ↦ g ∙ sym f ]
]
  where
    placed : taken w ≡ w.order
    placed = ap (λ xs. w.order ++ xs) path ∙ append-nil w.order

pub ends_once : (queue : List Bool) (ins : ℕ → List ℕ) (w : Walked) → Walking queue ins w → w.path ≡ [] → IsDistinct nat_eq w.order
ends_once queue ins w s path = subst (IsDistinct nat_eq) (ap (λ xs. w.order ++ xs) path ∙ append-nil w.order) s.apart

-- where there is no cycle, inputs stand first
pub inputs_first : (ins : ℕ → List ℕ) (order : List ℕ) → CyclesAside ins order → HasNoCycle ins → InputsFirst ins order
inputs_first ins order first none k h u m = ⊎_elim (λ a. a) (λ p. absurd (none (get_or order k 0) (more _ u _ m p))) (first k h u m)

-- nothing is marked
pub marked_none : (n capacity : ℕ) → n ≤ capacity → Marked (replicate n false) [] capacity
unfolding IsDistinct
marked_none n capacity fits = record { at_found = λ v. unset n v; apart = tt; fits = let e = length-replicate n false in omega (arith, e) }
  where
    unset : (k j : ℕ) → get_or (replicate k false) j false ≡ false
    unset k j = elim (cases_lt j k) [ inl l ↦ get_or-replicate k j false false l | inr g ↦ get_or_past (replicate k false) j false (let f = length-replicate k false in omega (arith, f)) ]

-- two walks of the same parts are one
abbrev walked : List Bool → List ℕ → List ℕ → List ℕ → Walked
walked m p q o = record { marks = m; path = p; places = q; order = o }

same_walk : (w : Walked) (m : List Bool) (p q o : List ℕ) → w.marks ≡ m → w.path ≡ p → w.places ≡ q → w.order ≡ o → walked m p q o ≡ w
same_walk w m p q o a b c d = ap (λ z. walked z p q o) (sym a) ∙ ap (λ z. walked w.marks z q o) (sym b) ∙ ap (λ z. walked w.marks w.path z o) (sym c) ∙ ap (λ z. walked w.marks w.path w.places z) (sym d)

-- the first node of a path is begun
pub step_in : (queue : List Bool) (ins : ℕ → List ℕ) (w w' : Walked) (u : ℕ) → Walking queue ins w → w.path ≡ [] → is_marked w.marks u ≡ true
    → w'.marks ≡ set w.marks u false → w'.path ≡ w.path ++ u ∷ [] → w'.places ≡ w.places ++ 0 ∷ [] → w'.order ≡ w.order → Walking queue ins w'
step_in queue ins w w' u s none t marks path places order =
    subst (Walking queue ins) (same_walk w' _ _ _ _ marks path places order)
    (opens queue ins w u s t (λ k e. let n = ap length none in absurd (omega (arith, e, n))))

-- an input of the last node is begun
pub step_down : (queue : List Bool) (ins : ℕ → List ℕ) (w w' : Walked) (us : List ℕ) (depth place : ℕ) → Walking queue ins w → depth + 1 ≡ length w.path → us ≡ ins (get_or w.path depth 0)
    → ((j : ℕ) → get_or w.places depth 0 ≤ j → j < place → is_marked w.marks (get_or us j 0) ≡ false)
    → place < length us → is_marked w.marks (get_or us place 0) ≡ true
    → w'.marks ≡ set w.marks (get_or us place 0) false → w'.path ≡ w.path ++ get_or us place 0 ∷ [] → w'.places ≡ set (w.places ++ 0 ∷ []) depth (place + 1) → w'.order ≡ w.order → Walking queue ins w'
step_down queue ins w w' us depth place s top are skipped lt t marks path places order =
    subst (Walking queue ins) (same_walk w' _ _ _ _ marks path places order)
    (advances queue ins (walked (set w.marks u false) (w.path ++ u ∷ []) (w.places ++ 0 ∷ []) w.order) depth (place + 1) (opens queue ins w u s t reads)
    (let n = length-append w.path (u ∷ []) in omega (arith, n, top)) past)
  where
    u : ℕ
    u = get_or us place 0

    reads : (k : ℕ) → k + 1 ≡ length w.path → is_in (get_or us place 0) (marked_inputs queue ins (get_or w.path k 0)) ≡ true
    reads k e = let q : depth ≡ k = omega (arith, e, top) in subst (λ z. is_in (get_or us place 0) (marked_inputs queue ins (get_or w.path z 0)) ≡ true) q
        (subst (λ xs. is_in (get_or us place 0) (filter (is_marked queue) xs) ≡ true) are (in_filter (is_marked queue) us (get_or us place 0) (at_place us place lt) (s.waits (get_or us place 0) t).0))

    inner : get_or (w.path ++ get_or us place 0 ∷ []) depth 0 ≡ get_or w.path depth 0
    inner = get_or_append_left w.path (get_or us place 0 ∷ []) 0 depth (omega (arith, top))

    mine : (j : ℕ) → j < place + 1 → is_marked (set w.marks (get_or us place 0) false) (get_or us j 0) ≡ false
    mine j l = elim (cases_eq j place) [
      | inl e ↦ subst (λ z. is_marked (set w.marks (get_or us place 0) false) (get_or us z 0) ≡ false) (sym e) (get_or-set_same w.marks (get_or us place 0) false false (below_marks w.marks (get_or us place 0) t))
      | inr n ↦ unmarked w.marks (get_or us place 0) (get_or us j 0) (⊎_elim
          (λ b. subst (λ xs. is_marked w.marks (get_or xs j 0) ≡ false) (sym are) (s.begun depth (omega (arith, top)) j b))
          (λ g. skipped j g (omega arith)) (cases_lt j (get_or w.places depth 0)))
    ]

    past : (j : ℕ) → j < place + 1 → is_marked (set w.marks (get_or us place 0) false) (get_or (ins (get_or (w.path ++ get_or us place 0 ∷ []) depth 0)) j 0) ≡ false
    past j l = subst (λ xs. is_marked (set w.marks (get_or us place 0) false) (get_or xs j 0) ≡ false) (are ∙ ap ins (sym inner)) (mine j l)

-- the last node is placed
pub step_up : (queue : List Bool) (ins : ℕ → List ℕ) (w w' : Walked) (us : List ℕ) (depth place : ℕ) → Walking queue ins w → depth + 1 ≡ length w.path → us ≡ ins (get_or w.path depth 0)
    → ((j : ℕ) → get_or w.places depth 0 ≤ j → j < place → is_marked w.marks (get_or us j 0) ≡ false)
    → length us ≤ place
    → w'.marks ≡ w.marks → w'.path ≡ take (length w.path - 1) w.path → w'.places ≡ take (length w.path - 1) w.places → w'.order ≡ w.order ++ get_or w.path depth 0 ∷ [] → Walking queue ins w'
step_up queue ins w w' us depth place s top are skipped all marks path places order =
    subst (Walking queue ins) (same_walk w' _ _ _ _ marks (path ∙ ap (λ n. take n w.path) short) (places ∙ ap (λ n. take n w.places) (short ∙ sym size)) order)
    (finishes queue ins w (take depth w.path) (get_or w.path depth 0) s parts past)
  where
    short : length w.path - 1 ≡ depth
    short = omega (arith, top)

    size : length (take depth w.path) ≡ depth
    size = length-take-le depth w.path (omega (arith, top))

    parts : w.path ≡ take depth w.path ++ get_or w.path depth 0 ∷ []
    parts = sym (take_all (suc depth) w.path (omega (arith, top))) ∙ take-suc w.path depth 0 (omega (arith, top))

    past : (u : ℕ) → is_in u (ins (get_or w.path depth 0)) ≡ true → is_marked w.marks u ≡ false
    past u m = let k = place_of us u (subst (λ xs. is_in u xs ≡ true) (sym are) m) in let l = k.1 in
        subst (λ z. is_marked w.marks z ≡ false) k.2 (⊎_elim
        (λ b. subst (λ xs. is_marked w.marks (get_or xs k.0 0) ≡ false) (sym are) (s.begun depth (omega (arith, top)) k.0 b))
        (λ g. skipped k.0 g (omega (arith, l))) (cases_lt k.0 (get_or w.places depth 0)))
