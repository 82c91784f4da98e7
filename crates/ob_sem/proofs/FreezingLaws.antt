-- What is reached is reached within as many steps as there are items.
use Rattle.std.proofs.Common.{◌≡◌, ◌⊎◌, ℕ, zero, suc, ◌+◌, ◌<◌, ◌≤◌, Bool, true, false, Some, None, Option, List, [], ◌∷◌, ◌++◌, refl, slice_get, ap, subst, ◌∙◌, sym, arith, inl, inr, length, length-append}
use Rattle.std.specs.Prelude.{map}
use Rattle.std.specs.Cmp.{IsEquivalence}
use Rattle.std.specs.List.{Contains, flat_map, IsDistinct, AllByRecursion}
use Rattle.std.specs.Option.{option_map_or}
use Rattle.std.proofs.lemmas.Bool.Decides.{nat_tests}
use Rattle.std.proofs.lemmas.Grind.{common_steps}
use Rattle.std.proofs.lemmas.List.Sums.{sum_by-cons}
use Rattle.std.proofs.lemmas.Option.{none-some, same_Some, slice_get_within}
use Rattle.std.proofs.lemmas.List.Elements.{Contains-append_left, Contains-append_right, Contains-append_cases}
use Rattle.std.proofs.lemmas.Map.Keys.{IsDistinct-cons}
use Rattle.std.proofs.lemmas.Map.Made.{length-le_from_is_member}
use Rattle.std.proofs.lemmas.Map.Views.{Contains-from_any}
use Rattle.ob_items.proofs.ListLemmas.{equal_or_not}
use Rattle.ob_items.specs.Item.{Item}
use Rattle.ob_items.specs.Region.{Cells}
use Rattle.ob_items.specs.declared.value.Ref.{Ref}
use Rattle.ob_values.specs.Freeze.{refs_of, frozen_next, frozen_with, with_refs, all_marked}
use Rattle.ob_values.specs.Reach.{Walk, Reaches}
use Rattle.ob_values.specs.Store.{Store, region_of, item_of}
use Rattle.ob_values.specs.Values.{ref_eq}
use Rattle.ob_values.proofs.ReachLemmas.{Reaches-root, Reaches-step}
use Rattle.ob_values.proofs.SeenLemmas.{Contains-cons_cases, Contains-cons, Contains-head, Contains-none, Contains-with_refs_new, Contains-with_refs_old, Contains-with_refs_cases, same_ref}
use Rattle.ob_values.proofs.StoreLemmas.{same_or_not}
use Rattle.ob_values.proofs.TreeLemmas.{any-from}
use Rattle.ob_actions.specs.Freezing.{reached_in, item_count}
use Rattle.ob_sem.specs.Laws.{FreezingIsComputed}
use Rattle.ob_sem.proofs.FreezingMarks.{same-marks}

-- ---- members

in_one : {X Y : Type 0} (f : X → List Y) (xs : List X) (x : X) (y : Y) → Contains xs x → Contains (f x) y → Contains (flat_map f xs) y
in_one f [] x y h g = absurd (Contains-none x h)
in_one f (z ∷ xs) x y h g =
    elim (Contains-cons_cases z xs x h) [
      | inl e ↦ Contains-append_left (f z) (flat_map f xs) y (subst (λ w. Contains (f w) y) (sym e) g)
      | inr t ↦ Contains-append_right (f z) (flat_map f xs) y (in_one f xs x y t g)
    ]

of_one : {X Y : Type 0} (f : X → List Y) (xs : List X) (y : Y) → Contains (flat_map f xs) y → (x : X) × Contains xs x × Contains (f x) y
of_one f [] y h = absurd (Contains-none y h)
of_one f (z ∷ xs) y h =
    elim (Contains-append_cases (f z) (flat_map f xs) y h) [
      | inl t ↦ (z, Contains-head z xs z refl, t)
      | inr t ↦ let u = of_one f xs y t in (u.0, Contains-cons z xs u.0 u.1, u.2)
    ]

abbrev Lacks : List Ref → Ref → Type 0
Lacks refs r = Contains refs r → ⊥

has_or_lacks : (refs : List Ref) (r : Ref) → Contains refs r ⊎ Lacks refs r
has_or_lacks [] r = inr (Contains-none r)
has_or_lacks (q ∷ refs) r =
    elim (same_or_not q r) [
      | inl e ↦ inl (Contains-head q refs r e)
      | inr n ↦ elim (has_or_lacks refs r) [
        | inl t ↦ inl (Contains-cons q refs r t)
        | inr m ↦ inr (λ h. elim (Contains-cons_cases q refs r h) [ inl e ↦ n e | inr t ↦ m t ])
      ]
    ]

-- ---- rounds, the last one outermost

module _ (s : Store) where
  abbrev grown : List Ref → List Ref
  grown refs = with_refs refs (flat_map (frozen_next s) refs)

  abbrev rounds : ℕ → List Ref → List Ref
  rounds zero refs = refs
  rounds (suc n) refs = grown (rounds n refs)

  first_last : (n : ℕ) (refs : List Ref) → rounds n (grown refs) ≡ grown (rounds n refs)
  first_last zero refs = refl
  first_last (suc n) refs = ap (λ r. grown r) (first_last n refs)

  are_rounds : (n : ℕ) (refs : List Ref) → reached_in n s refs ≡ rounds n refs
  are_rounds zero refs = refl
  are_rounds (suc n) refs = are_rounds n (grown refs) ∙ first_last n refs

  module _ (roots : List Ref) where
    abbrev begun : List Ref
    begun = with_refs [] roots

    only_reached : (n : ℕ) (b : Ref) → Contains (rounds n begun) b → Reaches (frozen_next s) roots b
    only_reached zero b h =
        elim (Contains-with_refs_cases roots [] b h) [ inl t ↦ absurd (Contains-none b t) | inr t ↦ Reaches-root (frozen_next s) roots b t ]
    only_reached (suc n) b h =
        elim (Contains-with_refs_cases (flat_map (frozen_next s) (rounds n begun)) (rounds n begun) b h) [
          | inl t ↦ only_reached n b t
          | inr t ↦
              let u = of_one (frozen_next s) (rounds n begun) b t in
              Reaches-step (frozen_next s) roots u.0 b (only_reached n u.0 u.1) u.2
        ]

-- ---- all that a store has

abbrev ref_to : ℕ → ℕ → Ref
ref_to key at = record { region = record { 0 = key }; item = at }

numbered : ℕ → ℕ → ℕ → List Ref
numbered key at zero = []
numbered key at (suc n) = ref_to key at ∷ numbered key (suc at) n

length-numbered : (key at n : ℕ) → length (numbered key at n) ≡ n
unfolding numbered
length-numbered key at zero = refl
length-numbered key at (suc n) = ap suc (length-numbered key (suc at) n)

in_numbered : (key at n i : ℕ) → at ≤ i → i < at + n → Contains (numbered key at n) (ref_to key i)
unfolding numbered
in_numbered key at zero i low high = absurd (omega (arith, low, high))
in_numbered key at (suc n) i low high =
    elim (equal_or_not at i) [
      | inl e ↦ Contains-head (ref_to key at) (numbered key (suc at) n) (ref_to key i) (ap (λ j. ref_to key j) e)
      | inr n' ↦ Contains-cons (ref_to key at) (numbered key (suc at) n) (ref_to key i) (in_numbered key (suc at) n i (omega (arith, low, n')) (omega (arith, high)))
    ]

all_from : ℕ → Store → List Ref
all_from key [] = []
all_from key (None ∷ s) = all_from (suc key) s
all_from key (Some c ∷ s) = numbered key 0 (length c.items) ++ all_from (suc key) s

abbrev item_numbers : Store → List ℕ
item_numbers s = map (λ c. option_map_or (λ (cells : Cells). length cells.items) c 0) s

zero_more : (n : ℕ) → n ≡ 0 + n
zero_more n = omega arith

length-all_from : (key : ℕ) (s : Store) → length (all_from key s) ≡ item_count s
unfolding all_from
length-all_from key [] = refl
length-all_from key (None ∷ s) = length-all_from (suc key) s ∙ zero_more (item_count s) ∙ sym (sum_by-cons (λ x. x) 0 (item_numbers s))
length-all_from key (Some c ∷ s) =
    length-append (numbered key 0 (length c.items)) (all_from (suc key) s)
    ∙ ap (λ n. n + length (all_from (suc key) s)) (length-numbered key 0 (length c.items))
    ∙ ap (λ n. length c.items + n) (length-all_from (suc key) s)
    ∙ sym (sum_by-cons (λ x. x) (length c.items) (item_numbers s))

in_all_from : (s : Store) (key k there i : ℕ) (c : Cells) → region_of s k ≡ Some c → there ≡ key + k → i < length c.items → Contains (all_from key s) (ref_to there i)
unfolding all_from
in_all_from [] key k there i c e h l = absurd (grind (arith, common_steps))
in_all_from (None ∷ s) key zero there i c e h l = absurd (grind (arith, common_steps))
in_all_from (Some d ∷ s) key zero there i c e h l =
    Contains-append_left (numbered key 0 (length d.items)) (all_from (suc key) s) (ref_to there i)
    (subst (λ k. Contains (numbered key 0 (length d.items)) (ref_to k i)) (sym (h ∙ omega arith)) (in_numbered key 0 (length d.items) i (omega arith) (omega (arith, l, ap (λ (x : Cells). length x.items) (same_Some d c e)))))
in_all_from (None ∷ s) key (suc k) there i c e h l = in_all_from s (suc key) k there i c e (omega (arith, h)) l
in_all_from (Some d ∷ s) key (suc k) there i c e h l =
    Contains-append_right (numbered key 0 (length d.items)) (all_from (suc key) s) (ref_to there i) (in_all_from s (suc key) k there i c e (omega (arith, h)) l)

abbrev Has : Store → Ref → Type 0
Has s r = (item : Item) × (item_of s r ≡ Some item)

in_all : (s : Store) (r : Ref) → Has s r → Contains (all_from 0 s) r
in_all s r h = by (region_of s r.region.0) refl
  where
    by : (o : Option Cells) → region_of s r.region.0 ≡ o → Contains (all_from 0 s) r
    by None e = absurd (none-some h.0 (sym (ap (λ o. option_map_or (λ (c : Cells). slice_get c.items r.item) o None) e) ∙ h.1))
    by (Some c) e =
        in_all_from s 0 r.region.0 r.region.0 r.item c e (omega arith)
        (slice_get_within c.items r.item h.0 (sym (ap (λ o. option_map_or (λ (c : Cells). slice_get c.items r.item) o None) e) ∙ h.1))

-- what leads on is an item
has_next : (s : Store) (a b : Ref) → Contains (frozen_next s a) b → Has s a
has_next s a b h = by (item_of s a) refl h
  where
    by : (o : Option Item) → item_of s a ≡ o → Contains (option_map_or (λ (item : Item). frozen_with item.body) o []) b → Has s a
    by None e g = absurd (Contains-none b g)
    by (Some item) e g = (item, e)

-- ---- no more different items than there are

is_same : (a b : Ref) → a ≡ b → ref_eq a b ≡ true
is_same a b e = subst (λ x. ref_eq a x ≡ true) e (grind (arith, nat_tests))

is_other : (a b : Ref) → (a ≡ b → ⊥) → ref_eq a b ≡ false
is_other a b n = by (ref_eq a b) refl
  where
    by : (t : Bool) → ref_eq a b ≡ t → ref_eq a b ≡ false
    by false e = e
    by true e = absurd (n (same_ref a b e))

refs_alike : IsEquivalence ref_eq
refs_alike = record { refl = λ x. is_same x x refl; symm = symm; congr = λ x y z e. ap (λ w. ref_eq w z) (same_ref x y e) }
  where
    symm : (x y : Ref) → ref_eq x y ≡ ref_eq y x
    symm x y =
        elim (same_or_not x y) [
          | inl e ↦ is_same x y e ∙ sym (is_same y x (sym e))
          | inr n ↦ is_other x y n ∙ sym (is_other y x (λ e. n (sym e)))
        ]

each_other : (a : Ref) (refs : List Ref) → Lacks refs a → AllByRecursion (λ y. ref_eq a y ≡ false) refs
each_other a [] n = tt
each_other a (q ∷ refs) n = (is_other a q (λ e. n (Contains-head q refs a (sym e))), each_other a refs (λ h. n (Contains-cons q refs a h)))

few : (s : Store) (refs : List Ref) → IsDistinct ref_eq refs → ((r : Ref) → Contains refs r → Has s r) → length refs ≤ item_count s
few s refs d h =
    subst (λ n. length refs ≤ n) (length-all_from 0 s)
    (length-le_from_is_member refs_alike refs (all_from 0 s) d
    (λ q e. any-from (ref_eq q) (all_from 0 s) q (in_all s q (h q (Contains-from_any same_ref q refs e))) (is_same q q refl)))

-- ---- the rounds come to an end

record Chain (s : Store) (n : ℕ) (refs : List Ref) : Type 0 where
  list : List Ref
  count : length list ≡ suc n
  distinct : IsDistinct ref_eq list
  inside : (q : Ref) → Contains list q → Contains refs q
  items : (q : Ref) → Contains list q → Has s q

module _ (s : Store) (roots : List Ref) where
  abbrev round : ℕ → List Ref
  round n = rounds s n (begun s roots)

  -- where a round isn't the last, each one before it met an item more
  chain : (n : ℕ) (a b : Ref) → Contains (round n) a → Contains (frozen_next s a) b → Lacks (round n) b → Chain s n (round n)
  unfolding IsDistinct
  chain zero a b h g m = record {
    list = a ∷ [];
    count = refl;
    distinct = IsDistinct-cons ref_eq a [] tt tt;
    inside = λ q t. elim (Contains-cons_cases a [] q t) [ inl e ↦ subst (Contains (round 0)) e h | inr u ↦ absurd (Contains-none q u) ];
    items = λ q t. elim (Contains-cons_cases a [] q t) [ inl e ↦ subst (Has s) e (has_next s a b g) | inr u ↦ absurd (Contains-none q u) ];
  }
  chain (suc n) a b h g m =
      elim (has_or_lacks (round n) a) [
        | inl t ↦ absurd (m (Contains-with_refs_new (flat_map (frozen_next s) (round n)) (round n) b (in_one (frozen_next s) (round n) a b t g)))
        | inr l ↦ elim (Contains-with_refs_cases (flat_map (frozen_next s) (round n)) (round n) a h) [
          | inl t ↦ absurd (l t)
          | inr t ↦ let u = of_one (frozen_next s) (round n) a t in longer l (chain n u.0 a u.1 u.2 l)
        ]
      ]
    where
      longer : Lacks (round n) a → Chain s n (round n) → Chain s (suc n) (round (suc n))
      longer l c = record {
        list = a ∷ c.list;
        count = ap suc c.count;
        distinct = IsDistinct-cons ref_eq a c.list (each_other a c.list (λ t. l (c.inside a t))) c.distinct;
        inside = λ q t. elim (Contains-cons_cases a c.list q t) [
          | inl e ↦ subst (Contains (round (suc n))) e h
          | inr u ↦ Contains-with_refs_old (flat_map (frozen_next s) (round n)) (round n) q (c.inside q u)
        ];
        items = λ q t. elim (Contains-cons_cases a c.list q t) [ inl e ↦ subst (Has s) e (has_next s a b g) | inr u ↦ c.items q u ];
      }

  abbrev last : List Ref
  last = round (item_count s)

  closed : (a b : Ref) → Contains last a → Contains (frozen_next s a) b → Contains last b
  closed a b h g =
      elim (has_or_lacks last b) [
        | inl t ↦ t
        | inr l ↦
            let c = chain (item_count s) a b h g l in
            absurd (omega (arith, few s c.list c.distinct c.items, c.count))
      ]

  begun_in : (n : ℕ) (b : Ref) → Contains roots b → Contains (round n) b
  begun_in zero b h = Contains-with_refs_new roots [] b h
  begun_in (suc n) b h = Contains-with_refs_old (flat_map (frozen_next s) (round n)) (round n) b (begun_in n b h)

  all_reached : (b : Ref) → Reaches (frozen_next s) roots b → Contains last b
  all_reached b r = by r.steps b r.walk
    where
      by : (n : ℕ) (b : Ref) → Walk (frozen_next s) r.from b n → Contains last b
      by zero b w = subst (Contains last) w (begun_in (item_count s) r.from r.start)
      by (suc n) b w = closed w.0 b (by n w.0 w.1) w.2

pub freezing_is_computed : FreezingIsComputed
freezing_is_computed old new value f =
    f.is
    ∙ same-marks f.frozen (last old roots) old (λ r h. all_reached old roots r ((f.exact r).0 h)) (λ r h. (f.exact r).1 (only_reached old roots (item_count old) r h))
    ∙ ap (λ refs. all_marked old refs) (sym (are_rounds old (item_count old) (with_refs [] roots)))
  where
    roots : List Ref
    roots = refs_of (value ∷ [])
