-- Marks may be put in any order, and each as often as one likes.
use Rattle.std.proofs.Common.{◌≡◌, ℕ, zero, suc, true, Some, None, Option, List, [], ◌∷◌, refl, slice_get, ap, subst, ◌∙◌, sym, inl, inr}
use Rattle.std.specs.Prelude.{slice_set}
use Rattle.std.specs.List.{Contains}
use Rattle.std.specs.Option.{option_map_or}
use Rattle.ob_items.specs.Item.{Item}
use Rattle.ob_items.specs.Items.{marked_at}
use Rattle.ob_items.specs.Region.{Cells, marked}
use Rattle.ob_items.specs.declared.value.Ref.{Ref}
use Rattle.ob_values.specs.Freeze.{all_marked}
use Rattle.ob_values.specs.Store.{Store, region_of, with_mark, with_region}
use Rattle.ob_values.proofs.SeenLemmas.{Contains-cons_cases, Contains-cons, Contains-head, Contains-none}

-- one element made anew
abbrev pub once : {A : Type 0} → (A → A) → List A → ℕ → List A
once f [] at = []
once f (x ∷ xs) zero = f x ∷ xs
once f (x ∷ xs) (suc at) = x ∷ once f xs at

once-comm : {A : Type 0} (f g : A → A) → ((x : A) → f (g x) ≡ g (f x)) → (xs : List A) (i j : ℕ) → once f (once g xs i) j ≡ once g (once f xs j) i
once-comm f g h [] i j = refl
once-comm f g h (x ∷ xs) zero zero = ap (λ y. y ∷ xs) (h x)
once-comm f g h (x ∷ xs) zero (suc j) = refl
once-comm f g h (x ∷ xs) (suc i) zero = refl
once-comm f g h (x ∷ xs) (suc i) (suc j) = ap (λ ys. x ∷ ys) (once-comm f g h xs i j)

once-twice : {A : Type 0} (f : A → A) → ((x : A) → f (f x) ≡ f x) → (xs : List A) (i : ℕ) → once f (once f xs i) i ≡ once f xs i
once-twice f h [] i = refl
once-twice f h (x ∷ xs) zero = ap (λ y. y ∷ xs) (h x)
once-twice f h (x ∷ xs) (suc i) = ap (λ ys. x ∷ ys) (once-twice f h xs i)

-- ---- the item at a place of a region

abbrev frozen : Item → Item
frozen item = record { frozen = true; body = item.body }

once-items : (items : List Item) (at : ℕ) → marked_at items at ≡ once frozen items at
once-items [] at = refl
once-items (x ∷ xs) zero = refl
once-items (x ∷ xs) (suc at) = by (slice_get xs at) (once-items xs at)
  where
    by : (o : Option Item) → option_map_or (λ item. slice_set xs at (frozen item)) o xs ≡ once frozen xs at
        → option_map_or (λ item. slice_set (x ∷ xs) (suc at) (frozen item)) o (x ∷ xs) ≡ x ∷ once frozen xs at
    by None h = ap (λ ys. x ∷ ys) h
    by (Some item) h = ap (λ ys. x ∷ ys) h

abbrev cells : ℕ → Cells → Cells
cells at c = record { items = once frozen c.items at; elements = c.elements; literals = c.literals }

once-marked : (c : Cells) (at : ℕ) → marked c at ≡ cells at c
once-marked c at = ap (λ items. record { items = items; elements = c.elements; literals = c.literals }) (once-items c.items at)

cells-comm : (i j : ℕ) (c : Cells) → cells i (cells j c) ≡ cells j (cells i c)
cells-comm i j c = ap (λ items. record { items = items; elements = c.elements; literals = c.literals }) (once-comm frozen frozen (λ x. refl) c.items j i)

cells-twice : (i : ℕ) (c : Cells) → cells i (cells i c) ≡ cells i c
cells-twice i c = ap (λ items. record { items = items; elements = c.elements; literals = c.literals }) (once-twice frozen (λ x. refl) c.items i)

-- ---- the region of a key

abbrev open_cells : ℕ → Option Cells → Option Cells
open_cells at None = None
open_cells at (Some c) = Some (cells at c)

open-comm : (i j : ℕ) (o : Option Cells) → open_cells i (open_cells j o) ≡ open_cells j (open_cells i o)
open-comm i j None = refl
open-comm i j (Some c) = ap (λ d. Some d) (cells-comm i j c)

open-twice : (i : ℕ) (o : Option Cells) → open_cells i (open_cells i o) ≡ open_cells i o
open-twice i None = refl
open-twice i (Some c) = ap (λ d. Some d) (cells-twice i c)

-- the mark put by key and place
abbrev placed : Store → ℕ → ℕ → Store
placed s key at = option_map_or (λ c. with_region s key (marked c at)) (region_of s key) s

once-placed : (s : Store) (key at : ℕ) → placed s key at ≡ once (open_cells at) s key
once-placed [] key at = refl
once-placed (None ∷ s) zero at = refl
once-placed (Some c ∷ s) zero at = ap (λ d. Some d ∷ s) (once-marked c at)
once-placed (o ∷ s) (suc key) at = by (region_of s key) (once-placed s key at)
  where
    by : (p : Option Cells) → option_map_or (λ c. with_region s key (marked c at)) p s ≡ once (open_cells at) s key
        → option_map_or (λ c. with_region (o ∷ s) (suc key) (marked c at)) p (o ∷ s) ≡ o ∷ once (open_cells at) s key
    by None h = ap (λ ys. o ∷ ys) h
    by (Some c) h = ap (λ ys. o ∷ ys) h

abbrev mark : Store → Ref → Store
mark s r = once (open_cells r.item) s r.region.0

is-mark : (s : Store) (r : Ref) → with_mark s r ≡ mark s r
is-mark s r = once-placed s r.region.0 r.item

apart : (s : Store) (k l i j : ℕ) → once (open_cells i) (once (open_cells j) s l) k ≡ once (open_cells j) (once (open_cells i) s k) l
apart s k l i j = once-comm (open_cells i) (open_cells j) (open-comm i j) s l k

mark-comm : (s : Store) (a b : Ref) → with_mark (with_mark s a) b ≡ with_mark (with_mark s b) a
mark-comm s a b =
    is-mark (with_mark s a) b ∙ ap (λ t. mark t b) (is-mark s a) ∙ apart s b.region.0 a.region.0 b.item a.item
    ∙ sym (ap (λ t. mark t a) (is-mark s b)) ∙ sym (is-mark (with_mark s b) a)

mark-twice : (s : Store) (r : Ref) → with_mark (with_mark s r) r ≡ with_mark s r
mark-twice s r =
    is-mark (with_mark s r) r ∙ ap (λ t. mark t r) (is-mark s r) ∙ once-twice (open_cells r.item) (open-twice r.item) s r.region.0 ∙ sym (is-mark s r)

-- ---- marks at many

marks-past : (refs : List Ref) (s : Store) (r : Ref) → all_marked (with_mark s r) refs ≡ with_mark (all_marked s refs) r
marks-past [] s r = refl
marks-past (q ∷ refs) s r = ap (λ t. all_marked t refs) (mark-comm s r q) ∙ marks-past refs (with_mark s q) r

-- a mark that comes later anyway changes nothing
marks-absorb : (refs : List Ref) (s : Store) (r : Ref) → Contains refs r → all_marked (with_mark s r) refs ≡ all_marked s refs
marks-absorb [] s r h = absurd (Contains-none r h)
marks-absorb (q ∷ refs) s r h =
    elim (Contains-cons_cases q refs r h) [
      | inl e ↦ subst (λ x. all_marked (with_mark s x) (q ∷ refs) ≡ all_marked s (q ∷ refs)) e (ap (λ t. all_marked t refs) (mark-twice s q))
      | inr t ↦ ap (λ u. all_marked u refs) (mark-comm s r q) ∙ marks-absorb refs (with_mark s q) r t
    ]

marks-within : (more refs : List Ref) (s : Store) → ((r : Ref) → Contains more r → Contains refs r) → all_marked (all_marked s more) refs ≡ all_marked s refs
marks-within [] refs s h = refl
marks-within (q ∷ more) refs s h =
    marks-within more refs (with_mark s q) (λ r c. h r (Contains-cons q more r c)) ∙ marks-absorb refs s q (h q (Contains-head q more q refl))

marks-swap : (more refs : List Ref) (s : Store) → all_marked (all_marked s more) refs ≡ all_marked (all_marked s refs) more
marks-swap [] refs s = refl
marks-swap (q ∷ more) refs s = marks-swap more refs (with_mark s q) ∙ ap (λ t. all_marked t more) (marks-past refs s q)

-- lists of the same references put the same marks
pub same-marks : (a b : List Ref) (s : Store) → ((r : Ref) → Contains a r → Contains b r) → ((r : Ref) → Contains b r → Contains a r) → all_marked s a ≡ all_marked s b
same-marks a b s to from = sym (marks-within b a s from) ∙ sym (marks-swap a b s) ∙ marks-within a b s to
