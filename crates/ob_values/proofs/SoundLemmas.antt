-- What stays sound after a write, a mark and an allocation.
use Rattle.std.proofs.Common.{◌≡◌, ◌≢◌, ◌⊎◌, ℕ, zero, suc, Bool, true, false, Some, None, IsSome, IsTrue, List, [], ◌∷◌, refl, ap, subst, ◌∙◌, sym, inl, inr, Option, length, slice_get, slice_set, arith, Result, Ok, Err, OnOk, OnErr, IfOk, is_some, fold}
use Rattle.std.proofs.lemmas.Bool.{true≢false}
use Rattle.std.proofs.lemmas.Option.{none-some, slice_get_past}
use Rattle.std.proofs.lemmas.List.{get_or-set_other}
use Rattle.std.specs.Option.{option_map_or}
use Rattle.std.specs.List.{Contains}
use Rattle.ob_items.specs.declared.value.Ref.{Ref}
use Rattle.ob_items.specs.declared.value.RegionKey.{RegionKey}
use Rattle.ob_items.specs.declared.value.Value.{Value}
use Rattle.ob_items.specs.Item.{Item}
use Rattle.ob_items.specs.declared.item.Body.{Body}
use Rattle.ob_items.specs.declared.item.Body.TheVariants as B
use Rattle.ob_items.specs.Items.{at_item, changed, with_body, live}
use Rattle.ob_items.specs.Region.{Cells, no_cells, with_item, rewritten, marked}
use Rattle.ob_items.proofs.ListLemmas.{slice_get-set_same, slice_get-set_other, slice_get-push_last, slice_get-push_other, equal_or_not}
use Rattle.ob_values.specs.Store.{Store, region_of, item_of, read_item, with_region, written, with_new, next_ref, with_mark, Updates}
use Rattle.ob_values.specs.Freeze.{Freezes}
use Rattle.ob_values.specs.Reach.{Walk, Reaches}
use Rattle.ob_values.specs.Sound.{Sort, Pointer, has_sort, pointers_inside, pointers_from, leads_to, IsSound, KeepsSound, AddsSound, AddsItem, KeepsOutside}
use Rattle.ob_values.proofs.SeenLemmas.{Contains-cons_cases, Contains-none}
use Rattle.ob_values.proofs.ReachLemmas.{Reaches-root, Reaches-step}
use Rattle.ob_values.proofs.StoreLemmas.{Writes, same_or_not, Writes-with_region, item_from_region, next_is_free, same_items}

-- the item at r is another, and all others are as before
module _ (s n : Store) (r : Ref) (old item : Item) (used roots : List Pointer)
    (there : item_of s r ≡ Some old) (w : Writes s n r item)
    (sorts : (t : Sort) → has_sort t item.body ≡ has_sort t old.body)
    (inside : (q : Pointer) → Contains (pointers_inside item.frozen item.body) q → Contains (pointers_inside old.frozen old.body) q ⊎ Contains used q)
    (reached : (q : Pointer) → Contains used q → Reaches (leads_to s) roots q) where
  step_back : (a q : Pointer) → Reaches (leads_to s) roots a → Contains (leads_to n a) q → Reaches (leads_to s) roots q
  step_back a q before h =
      elim (same_or_not a.1 r) [
        | inl e ↦
            let now : item_of n a.1 ≡ Some item = ap (item_of n) e ∙ w.changed in
            let was : item_of s a.1 ≡ Some old = ap (item_of s) e ∙ there in
            elim (inside q (subst (λ o. Contains (pointers_from o) q) now h)) [
              | inl o ↦ Reaches-step (leads_to s) roots a q before (subst (λ o. Contains (pointers_from o) q) (sym was) o)
              | inr u ↦ reached q u
            ]
        | inr apart ↦ Reaches-step (leads_to s) roots a q before (subst (λ o. Contains (pointers_from o) q) (w.others a.1 apart) h)
      ]

  pub Reaches-back : (q : Pointer) → Reaches (leads_to n) roots q → Reaches (leads_to s) roots q
  Reaches-back q h = by h.steps q h.walk
    where
      by : (k : ℕ) (q : Pointer) → Walk (leads_to n) h.from q k → Reaches (leads_to s) roots q
      by zero q e = subst (Reaches (leads_to s) roots) e (Reaches-root (leads_to s) roots h.from h.start)
      by (suc k) q t = step_back t.0 q (by k t.0 t.1) t.2

  pub IsSound-Writes : IsSound s roots → IsSound n roots
  IsSound-Writes sound q h =
      elim (same_or_not q.1 r) [
        | inl e ↦
            let now : item_of n q.1 ≡ Some item = ap (item_of n) e ∙ w.changed in
            let was : item_of s q.1 ≡ Some old = ap (item_of s) e ∙ there in
            let before : has_sort q.0 old.body ≡ true = sym (ap (λ o. option_map_or (λ (j : Item). has_sort q.0 j.body) o false) was) ∙ sound q (Reaches-back q h) in
            ap (λ o. option_map_or (λ (j : Item). has_sort q.0 j.body) o false) now ∙ sorts q.0 ∙ before
        | inr apart ↦ ap (λ o. option_map_or (λ (j : Item). has_sort q.0 j.body) o false) (w.others q.1 apart) ∙ sound q (Reaches-back q h)
      ]

-- all items are as before
pub KeepsSound-same : (s n : Store) (used : List Pointer) → ((b : Ref) → item_of n b ≡ item_of s b) → KeepsSound s n used
KeepsSound-same s n used same roots reached sound q h = ap (λ o. option_map_or (λ (j : Item). has_sort q.0 j.body) o false) (same q.1) ∙ sound q (back h.steps q h.walk)
  where
    back : (k : ℕ) (q : Pointer) → Walk (leads_to n) h.from q k → Reaches (leads_to s) roots q
    back zero q e = subst (Reaches (leads_to s) roots) e (Reaches-root (leads_to s) roots h.from h.start)
    back (suc k) q t = Reaches-step (leads_to s) roots t.0 q (back k t.0 t.1) (subst (λ o. Contains (pointers_from o) q) (same t.0.1) t.2)

pub KeepsSound-refl : (s n : Store) (used : List Pointer) → n ≡ s → KeepsSound s n used
KeepsSound-refl s n used e = KeepsSound-same s n used (λ b. ap (λ (x : Store). item_of x b) e)

-- a write through `read`, where `wrap` is the item that was read
module _ {X : Type 0} (read : Body → Option X) (wrap make : X → Body) (used : List Pointer)
    (is : (b : Body) (x : X) → read b ≡ Some x → b ≡ wrap x)
    (sorts : (x : X) (t : Sort) → has_sort t (make x) ≡ has_sort t (wrap x))
    (inside : (x : X) (frozen : Bool) (q : Pointer) → Contains (pointers_inside frozen (make x)) q → Contains (pointers_inside frozen (wrap x)) q ⊎ Contains used q) where
  -- the region of the item, the item and what was read of it
  found : (s : Store) (r : Ref) (x : X) → read_item read s r ≡ Some x → (c : Cells) × (item : Item) × (region_of s r.region.0 ≡ Some c) × (slice_get c.items r.item ≡ Some item) × (read item.body ≡ Some x)
  found s r x e = by (region_of s r.region.0) refl
    where
      by : (o : Option Cells) → region_of s r.region.0 ≡ o → (c : Cells) × (item : Item) × (region_of s r.region.0 ≡ Some c) × (slice_get c.items r.item ≡ Some item) × (read item.body ≡ Some x)
      by None p = absurd (none-some x (sym (ap (λ o. option_map_or (λ (c : Cells). at_item read c.items r.item) o None) p) ∙ e))
      by (Some c) p = inner (slice_get c.items r.item) refl
        where
          here : at_item read c.items r.item ≡ Some x
          here = sym (ap (λ o. option_map_or (λ (c : Cells). at_item read c.items r.item) o None) p) ∙ e

          inner : (o : Option Item) → slice_get c.items r.item ≡ o → (c : Cells) × (item : Item) × (region_of s r.region.0 ≡ Some c) × (slice_get c.items r.item ≡ Some item) × (read item.body ≡ Some x)
          inner None q = absurd (none-some x (sym (ap (λ o. option_map_or (λ (item : Item). read item.body) o None) q) ∙ here))
          inner (Some item) q = (c, item, p, q, sym (ap (λ o. option_map_or (λ (item : Item). read item.body) o None) q) ∙ here)

  at-changed : (items : List Item) (at : ℕ) (item : Item) (x : X) → slice_get items at ≡ Some item → read item.body ≡ Some x
      → changed read make items at ≡ slice_set items at (record { frozen = item.frozen; body = make x })
  at-changed items at item x p q =
      ap (λ o. option_map_or (λ (y : X). with_body items at (make y)) o items) (ap (λ o. option_map_or (λ (j : Item). read j.body) o None) p ∙ q)
      ∙ ap (λ o. slice_set items at (record { frozen = option_map_or (λ (j : Item). j.frozen) o false; body = make x })) p

  KeepsSound-at : (s : Store) (r : Ref) (grows : Bool) (x : X) → read_item read s r ≡ Some x → KeepsSound s (written read make s r grows) used
  KeepsSound-at s r grows x e roots reached sound =
      let t = found s r x e in
      let c = t.0 in
      let old = t.1 in
      let item : Item = record { frozen = old.frozen; body = make x } in
      let d : Cells = rewritten read make c r.item grows in
      let n : Store = with_region s r.region.0 d in
      let same : written read make s r grows ≡ n = ap (λ o. option_map_or (λ (c : Cells). with_region s r.region.0 (rewritten read make c r.item grows)) o s) t.2 in
      let items : d.items ≡ slice_set c.items r.item item = at-changed c.items r.item old x t.3 t.4 in
      let w : Writes s n r item = Writes-with_region s r c d item t.2
      (ap (λ xs. slice_get xs r.item) items ∙ slice_get-set_same c.items r.item item old t.3)
      (λ k a. ap (λ xs. slice_get xs k) items ∙ slice_get-set_other c.items r.item k item a) in
      let there : item_of s r ≡ Some old = item_from_region s r c old t.2 t.3 in
      let was : old.body ≡ wrap x = is old.body x t.4 in
      let right : (u : Sort) → has_sort u item.body ≡ has_sort u old.body = λ u. sorts x u ∙ ap (has_sort u) (sym was) in
      let inner : (q : Pointer) → Contains (pointers_inside item.frozen item.body) q → Contains (pointers_inside old.frozen old.body) q ⊎ Contains used q =
      λ q h. elim (inside x old.frozen q h) [ inl o ↦ inl (subst (λ b. Contains (pointers_inside old.frozen b) q) (sym was) o) | inr u ↦ inr u ] in
      subst (λ m. IsSound m roots) (sym same) (IsSound-Writes s n r old item used roots there w right inner reached sound)

  pub KeepsSound-written : (s : Store) (r : Ref) (grows : Bool) → IsSome (read_item read s r) → KeepsSound s (written read make s r grows) used
  KeepsSound-written s r grows there = by (read_item read s r) refl
    where
      by : (o : Option X) → read_item read s r ≡ o → KeepsSound s (written read make s r grows) used
      by None p = absurd (true≢false (sym there ∙ ap is_some p))
      by (Some x) p = KeepsSound-at s r grows x p

  -- a write that may be refused
  pub KeepsSound-result : {T E : Type 0} (result : Result T E) (s n : Store) (r : Ref) (grows : Bool) → IsSome (read_item read s r)
      → OnOk result (n ≡ written read make s r grows) → OnErr result (n ≡ s) → KeepsSound s n used
  KeepsSound-result (Ok t) s n r grows there ok err = subst (λ m. KeepsSound s m used) (sym ok) (KeepsSound-written s r grows there)
  KeepsSound-result (Err e) s n r grows there ok err = KeepsSound-refl s n used err

-- a new item, at a reference that had none
pub record Adds (old new : Store) (r : Ref) (item : Item) : Type 0 where
  pub free : item_of old r ≡ None
  pub added : item_of new r ≡ Some item
  pub others : (b : Ref) → b ≢ r → item_of new b ≡ item_of old b

module _ (s n : Store) (sort : Sort) (r : Ref) (item : Item) (used roots : List Pointer) (w : Adds s n r item) (right : IsTrue (has_sort sort item.body))
    (inside : (q : Pointer) → Contains (pointers_inside item.frozen item.body) q → Contains used q)
    (reached : (q : Pointer) → Contains used q → Reaches (leads_to s) roots q) (sound : IsSound s roots) where
  not_new : (q : Pointer) → Reaches (leads_to s) roots q → q.1 ≢ r
  not_new q h e = true≢false (sym (sound q h) ∙ ap (λ o. option_map_or (λ (j : Item). has_sort q.0 j.body) o false) (ap (item_of s) e ∙ w.free))

  reach_new : (q : Pointer) → Reaches (leads_to n) ((sort, r) ∷ roots) q → (q ≡ (sort, r)) ⊎ Reaches (leads_to s) roots q
  reach_new q h = by h.steps q h.walk
    where
      start : (x : Pointer) → Contains ((sort, r) ∷ roots) x → (x ≡ (sort, r)) ⊎ Reaches (leads_to s) roots x
      start x c = elim (Contains-cons_cases (sort, r) roots x c) [ inl e ↦ inl (sym e) | inr t ↦ inr (Reaches-root (leads_to s) roots x t) ]

      step : (a q : Pointer) → (a ≡ (sort, r)) ⊎ Reaches (leads_to s) roots a → Contains (leads_to n a) q → (q ≡ (sort, r)) ⊎ Reaches (leads_to s) roots q
      step a q before l =
          elim before [
            | inl e ↦ inr (reached q (inside q (subst (λ o. Contains (pointers_from o) q) (ap (λ (x : Pointer). item_of n x.1) e ∙ w.added) l)))
            | inr t ↦ inr (Reaches-step (leads_to s) roots a q t (subst (λ o. Contains (pointers_from o) q) (w.others a.1 (not_new a t)) l))
          ]

      by : (k : ℕ) (q : Pointer) → Walk (leads_to n) h.from q k → (q ≡ (sort, r)) ⊎ Reaches (leads_to s) roots q
      by zero q e = subst (λ x. (x ≡ (sort, r)) ⊎ Reaches (leads_to s) roots x) e (start h.from h.start)
      by (suc k) q t = step t.0 q (by k t.0 t.1) t.2

  pub IsSound-Adds : IsSound n ((sort, r) ∷ roots)
  IsSound-Adds q h =
      elim (reach_new q h) [
        | inl e ↦ ap (λ (x : Pointer). option_map_or (λ (j : Item). has_sort x.0 j.body) (item_of n x.1) false) e ∙ ap (λ o. option_map_or (λ (j : Item). has_sort sort j.body) o false) w.added ∙ right
        | inr t ↦ ap (λ o. option_map_or (λ (j : Item). has_sort q.0 j.body) o false) (w.others q.1 (not_new q t)) ∙ sound q t
      ]

module _ (body : Body) (used : List Pointer) (inside : (q : Pointer) → Contains (pointers_inside false body) q → Contains used q) where
  AddsSound-at : (s : Store) (key : RegionKey) (cost : ℕ) (c : Cells) → region_of s key.0 ≡ Some c → (sort : Sort) → IsTrue (has_sort sort body) → AddsSound s (with_new s key (live body) cost) used (sort, next_ref s key)
  AddsSound-at s key cost c e sort right roots reached sound =
      let item : Item = live body in
      let d : Cells = with_item c item cost in
      let r : Ref = record { region = key; item = length c.items } in
      let n : Store = with_region s key.0 d in
      let next : next_ref s key ≡ r = ap (λ o. record { region = key; item = option_map_or (λ (c : Cells). length c.items) o 0 }) e in
      let same : with_new s key item cost ≡ n = ap (λ o. option_map_or (λ (c : Cells). with_region s key.0 (with_item c item cost)) o s) e in
      let w : Writes s n r item = Writes-with_region s r c d item e (slice_get-push_last c.items item) (λ i a. slice_get-push_other c.items item i a) in
      let adds : Adds s n r item = record { free = next_is_free s key c e; added = w.changed; others = w.others } in
      subst (λ m. IsSound m ((sort, next_ref s key) ∷ roots)) (sym same)
      (subst (λ x. IsSound n ((sort, x) ∷ roots)) (sym next) (IsSound-Adds s n sort r item used roots adds right inside reached sound))

  pub AddsSound-new : {E : Type 0} (result : Result Ref E) (s n : Store) (key : RegionKey) (cost : ℕ) → IsSome (region_of s key.0)
      → IfOk result (λ r. r ≡ next_ref s key) → OnOk result (n ≡ with_new s key (live body) cost)
      → IfOk result (λ r. (sort : Sort) → IsTrue (has_sort sort body) → AddsSound s n used (sort, r))
  AddsSound-new (Err x) s n key cost opened key_is ok = tt
  AddsSound-new (Ok r) s n key cost opened key_is ok = by (region_of s key.0) refl
    where
      by : (o : Option Cells) → region_of s key.0 ≡ o → (sort : Sort) → IsTrue (has_sort sort body) → AddsSound s n used (sort, r)
      by None p = absurd (true≢false (sym opened ∙ ap is_some p))
      by (Some c) p = λ sort right. subst (λ x. AddsSound s n used (sort, x)) (sym key_is) (subst (λ (m : Store). AddsSound s m used (sort, next_ref s key)) (sym ok) (AddsSound-at s key cost c p sort right))

-- a mark leaves less to be reached
inside-marked : (frozen : Bool) (b : Body) (q : Pointer) → Contains (pointers_inside true b) q → Contains (pointers_inside frozen b) q ⊎ Contains [] q
inside-marked true b q h = inl h
inside-marked false (B.Generator kept) q h = inr h
inside-marked false (B.Text units) q h = inl h
inside-marked false (B.Array values) q h = inl h
inside-marked false (B.Object properties) q h = inl h
inside-marked false (B.Box value) q h = inl h
inside-marked false (B.Closure closure) q h = inl h
inside-marked false (B.Error kind message) q h = inl h
inside-marked false (B.Invalidation hooks) q h = inl h
inside-marked false (B.Inputs values) q h = inl h

pub KeepsSound-mark : (s : Store) (r : Ref) → KeepsSound s (with_mark s r) []
KeepsSound-mark s r roots reached sound = by (region_of s r.region.0) refl
  where
    by : (o : Option Cells) → region_of s r.region.0 ≡ o → IsSound (with_mark s r) roots
    by None p = subst (λ m. IsSound m roots) (sym (ap (λ o. option_map_or (λ (c : Cells). with_region s r.region.0 (marked c r.item)) o s) p)) sound
    by (Some c) p = inner (slice_get c.items r.item) refl
      where
        n : Store
        n = with_region s r.region.0 (marked c r.item)

        same : with_mark s r ≡ n
        same = ap (λ o. option_map_or (λ (c : Cells). with_region s r.region.0 (marked c r.item)) o s) p

        inner : (o : Option Item) → slice_get c.items r.item ≡ o → IsSound (with_mark s r) roots
        inner (Some old) q =
            let item : Item = record { frozen = true; body = old.body } in
            let d : Cells = marked c r.item in
            let items : d.items ≡ slice_set c.items r.item item = ap (λ o. option_map_or (λ (j : Item). slice_set c.items r.item (record { frozen = true; body = j.body })) o c.items) q in
            let w : Writes s n r item = Writes-with_region s r c d item p
            (ap (λ xs. slice_get xs r.item) items ∙ slice_get-set_same c.items r.item item old q)
            (λ k a. ap (λ xs. slice_get xs k) items ∙ slice_get-set_other c.items r.item k item a) in
            subst (λ m. IsSound m roots) (sym same)
            (IsSound-Writes s n r old item [] roots (item_from_region s r c old p q) w (λ t. refl) (λ u h. inside-marked old.frozen old.body u h) reached sound)
        inner None q =
            let d : Cells = marked c r.item in
            let items : d.items ≡ c.items = ap (λ o. option_map_or (λ (j : Item). slice_set c.items r.item (record { frozen = true; body = j.body })) o c.items) q in
            let all : (b : Ref) → item_of n b ≡ item_of s b = same_items s r.region.0 c d p items in
            subst (λ m. IsSound m roots) (sym same) (KeepsSound-same s n [] all roots reached sound)

pub KeepsSound-marks : (refs : List Ref) (s : Store) → KeepsSound s (fold with_mark s refs) []
KeepsSound-marks [] s = KeepsSound-refl s s [] refl
KeepsSound-marks (r ∷ refs) s = λ roots reached sound.
    KeepsSound-marks refs (with_mark s r) roots (λ q h. absurd (Contains-none q h)) (KeepsSound-mark s r roots reached sound)

pub AddsItem-new : {E : Type 0} (body : Body) (result : Result Ref E) (s n : Store) (key : RegionKey) (cost : ℕ) → IsSome (region_of s key.0)
    → IfOk result (λ r. r ≡ next_ref s key) → OnOk result (n ≡ with_new s key (live body) cost) → IfOk result (AddsItem s n body)
AddsItem-new body result s n key cost = AddsSound-new body (pointers_inside false body) (λ q h. h) result s n key cost

-- a freezing that may be refused
pub KeepsSound-freeze : {T E : Type 0} (result : Result T E) (s n : Store) (value : Value) → OnOk result (Freezes s n value) → OnErr result (n ≡ s) → KeepsSound s n []
KeepsSound-freeze (Ok t) s n value ok err = subst (λ m. KeepsSound s m []) (sym ok.is) (KeepsSound-marks ok.frozen s)
KeepsSound-freeze (Err e) s n value ok err = KeepsSound-refl s n [] err

pub opened_items : (s n : Store) (k : ℕ) → region_of s k ≡ None → Updates s n k (Some no_cells) → (b : Ref) → item_of n b ≡ item_of s b
opened_items s n k free u b =
    elim (equal_or_not b.region.0 k) [
      | inr apart ↦ ap (λ o. option_map_or (λ (c : Cells). slice_get c.items b.item) o None) (u.others b.region.0 apart)
      | inl same ↦
          ap (λ j. option_map_or (λ (c : Cells). slice_get c.items b.item) (region_of n j) None) same
          ∙ ap (λ o. option_map_or (λ (c : Cells). slice_get c.items b.item) o None) u.changed
          ∙ slice_get_past [] b.item (omega arith)
          ∙ sym (ap (λ o. option_map_or (λ (c : Cells). slice_get c.items b.item) o None) free)
          ∙ ap (λ j. option_map_or (λ (c : Cells). slice_get c.items b.item) (region_of s j) None) (sym same)
    ]

pub KeepsSound-open : {E : Type 0} (result : Result RegionKey E) (s n : Store) → IfOk result (λ key. region_of s key.0 ≡ None) → IfOk result (λ key. Updates s n key.0 (Some no_cells)) → OnErr result (n ≡ s) → KeepsSound s n []
KeepsSound-open (Ok key) s n fresh opened err = KeepsSound-same s n [] (opened_items s n key.0 fresh opened)
KeepsSound-open (Err e) s n fresh opened err = KeepsSound-refl s n [] err

-- items outside a closed region are as before
closed_item : (s : Store) (key : RegionKey) (b : Ref) → b.region.0 ≢ key.0 → item_of (slice_set s key.0 None) b ≡ item_of s b
closed_item s key b apart = ap (λ o. option_map_or (λ (c : Cells). slice_get c.items b.item) o None) (get_or-set_other s key.0 b.region.0 None None apart)

pub KeepsOutside-close : (s : Store) (key : RegionKey) → KeepsOutside s (slice_set s key.0 None) key
KeepsOutside-close s key roots outside sound q h =
    let before : Reaches (leads_to s) roots q = back h.steps q h.walk in
    ap (λ o. option_map_or (λ (j : Item). has_sort q.0 j.body) o false) (closed_item s key q.1 (outside q before)) ∙ sound q before
  where
    back : (k : ℕ) (q : Pointer) → Walk (leads_to (slice_set s key.0 None)) h.from q k → Reaches (leads_to s) roots q
    back zero q e = subst (Reaches (leads_to s) roots) e (Reaches-root (leads_to s) roots h.from h.start)
    back (suc k) q t =
        let before : Reaches (leads_to s) roots t.0 = back k t.0 t.1 in
        Reaches-step (leads_to s) roots t.0 q before (subst (λ o. Contains (pointers_from o) q) (closed_item s key t.0.1 (outside t.0 before)) t.2)
