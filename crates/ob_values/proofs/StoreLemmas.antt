-- What is at a reference after a write of its region.
use Rattle.std.proofs.Common.{◌≡◌, ◌≢◌, ◌⊎◌, ℕ, zero, suc, ◌<◌, Some, None, [], ◌∷◌, slice_get, ap, ◌∙◌, sym, arith, length, inl, inr, ◌+◌, Option, IsSome, refl, is_some}
use Rattle.std.proofs.lemmas.Grind.{common_steps}
use Rattle.std.proofs.lemmas.List.{get_or-set_same, get_or-set_other}
use Rattle.std.proofs.lemmas.Option.{slice_get_past}
use Rattle.std.proofs.lemmas.Bool.{true≢false}
use Rattle.std.specs.Option.{option_map_or}
use Rattle.ob_items.specs.declared.value.Ref.{Ref}
use Rattle.ob_items.specs.declared.value.RegionKey.{RegionKey}
use Rattle.ob_items.specs.Item.{Item}
use Rattle.ob_items.specs.Region.{Cells, with_item}
use Rattle.ob_items.proofs.ListLemmas.{equal_or_not}
use Rattle.ob_values.specs.Store.{Store, region_of, item_of, with_region, with_new, elements_in}

within_key : (s : Store) (k : ℕ) (c : Cells) → region_of s k ≡ Some c → k < length s
within_key [] k c e = grind (arith, common_steps)
within_key (x ∷ xs) zero c e = omega arith
within_key (x ∷ xs) (suc k) c e = omega (arith, within_key xs k c e)

pub region_of-with_region_same : (s : Store) (k : ℕ) (c old : Cells) → region_of s k ≡ Some old → region_of (with_region s k c) k ≡ Some c
region_of-with_region_same s k c old e = get_or-set_same s k (Some c) None (within_key s k old e)

pub region_of-with_region_other : (s : Store) (k j : ℕ) (c : Cells) → j ≢ k → region_of (with_region s k c) j ≡ region_of s j
region_of-with_region_other s k j c n = get_or-set_other s k j (Some c) None n

-- the new store has this item at r, and all other items as they were
pub record Writes (old new : Store) (r : Ref) (item : Item) : Type 0 where
  pub changed : item_of new r ≡ Some item
  pub others : (b : Ref) → b ≢ r → item_of new b ≡ item_of old b

pub item_from_region : (s : Store) (r : Ref) (c : Cells) (item : Item) → region_of s r.region.0 ≡ Some c → slice_get c.items r.item ≡ Some item → item_of s r ≡ Some item
item_from_region s r c item p q = ap (λ o. option_map_or (λ (c : Cells). slice_get c.items r.item) o None) p ∙ q

ref_cases : (a b : Ref) → (a.region.0 ≢ b.region.0) ⊎ ((a.region.0 ≡ b.region.0) × ((a.item ≢ b.item) ⊎ (a ≡ b)))
ref_cases a b =
    elim (equal_or_not a.region.0 b.region.0) [
      | inr apart ↦ inl apart
      | inl same ↦ inr (same, elim (equal_or_not a.item b.item) [ inr apart ↦ inl apart | inl alike ↦ inr (λ i. record { region = record { 0 = same i }; item = alike i }) ])
    ]

pub same_or_not : (a b : Ref) → (a ≡ b) ⊎ (a ≢ b)
same_or_not a b =
    elim (ref_cases a b) [
      | inl apart ↦ inr (λ e. apart (ap (λ (x : Ref). x.region.0) e))
      | inr t ↦ elim t.1 [ inl apart ↦ inr (λ e. apart (ap (λ (x : Ref). x.item) e)) | inr same ↦ inl same ]
    ]

-- a write of a region that changes one of its items
pub Writes-with_region : (s : Store) (r : Ref) (c d : Cells) (item : Item) → region_of s r.region.0 ≡ Some c → slice_get d.items r.item ≡ Some item → ((i : ℕ) → i ≢ r.item → slice_get d.items i ≡ slice_get c.items i) → Writes s (with_region s r.region.0 d) r item
Writes-with_region s r c d item e at rest = record {
  changed = ap (λ o. option_map_or (λ (c : Cells). slice_get c.items r.item) o None) (region_of-with_region_same s r.region.0 d c e) ∙ at;
  others = others;
}
  where
    others : (b : Ref) → b ≢ r → item_of (with_region s r.region.0 d) b ≡ item_of s b
    others b n =
        elim (ref_cases b r) [
          | inl apart ↦ ap (λ o. option_map_or (λ (c : Cells). slice_get c.items b.item) o None) (region_of-with_region_other s r.region.0 b.region.0 d apart)
          | inr h ↦ elim h.1 [
            | inl apart ↦
                ap (λ k. item_of (with_region s r.region.0 d) (record { region = record { 0 = k }; item = b.item })) h.0
                ∙ ap (λ o. option_map_or (λ (c : Cells). slice_get c.items b.item) o None) (region_of-with_region_same s r.region.0 d c e)
                ∙ rest b.item apart
                ∙ sym (ap (λ o. option_map_or (λ (c : Cells). slice_get c.items b.item) o None) e)
                ∙ ap (λ k. item_of s (record { region = record { 0 = k }; item = b.item })) (sym h.0)
            | inr same ↦ absurd (n same)
          ]
        ]

-- a write of a region that changes none of its items
pub same_items : (s : Store) (k : ℕ) (c d : Cells) → region_of s k ≡ Some c → d.items ≡ c.items → (b : Ref) → item_of (with_region s k d) b ≡ item_of s b
same_items s k c d e items b =
    elim (equal_or_not b.region.0 k) [
      | inr apart ↦ ap (λ o. option_map_or (λ (c : Cells). slice_get c.items b.item) o None) (region_of-with_region_other s k b.region.0 d apart)
      | inl same ↦
          ap (λ j. option_map_or (λ (c : Cells). slice_get c.items b.item) (region_of (with_region s k d) j) None) same
          ∙ ap (λ o. option_map_or (λ (c : Cells). slice_get c.items b.item) o None) (region_of-with_region_same s k d c e)
          ∙ ap (λ xs. slice_get xs b.item) items
          ∙ sym (ap (λ o. option_map_or (λ (c : Cells). slice_get c.items b.item) o None) e)
          ∙ ap (λ j. option_map_or (λ (c : Cells). slice_get c.items b.item) (region_of s j) None) (sym same)
    ]

-- nothing is at the reference that the next item of a region gets
pub next_is_free : (s : Store) (key : RegionKey) (c : Cells) → region_of s key.0 ≡ Some c → item_of s (record { region = key; item = length c.items }) ≡ None
next_is_free s key c e = ap (λ o. option_map_or (λ (d : Cells). slice_get d.items (length c.items)) o None) e ∙ slice_get_past c.items (length c.items) (omega arith)

-- a write of a region that keeps its items where they are
pub more_items : (s : Store) (k : ℕ) (c d : Cells) → region_of s k ≡ Some c → ((at : ℕ) (item : Item) → slice_get c.items at ≡ Some item → slice_get d.items at ≡ Some item)
    → (b : Ref) (item : Item) → item_of s b ≡ Some item → item_of (with_region s k d) b ≡ Some item
more_items s k c d e keeps b item h =
    elim (equal_or_not b.region.0 k) [
      | inr apart ↦ ap (λ o. option_map_or (λ (c : Cells). slice_get c.items b.item) o None) (region_of-with_region_other s k b.region.0 d apart) ∙ h
      | inl same ↦
          let here : slice_get c.items b.item ≡ Some item =
          sym (ap (λ o. option_map_or (λ (c : Cells). slice_get c.items b.item) o None) e)
          ∙ ap (λ j. option_map_or (λ (c : Cells). slice_get c.items b.item) (region_of s j) None) (sym same) ∙ h in
          ap (λ j. option_map_or (λ (c : Cells). slice_get c.items b.item) (region_of (with_region s k d) j) None) same
          ∙ ap (λ o. option_map_or (λ (c : Cells). slice_get c.items b.item) o None) (region_of-with_region_same s k d c e)
          ∙ keeps b.item item here
    ]

-- a region with an item more
with_new-region : (s : Store) (key : RegionKey) (item : Item) (cost : ℕ) (c : Cells) → region_of s key.0 ≡ Some c → region_of (with_new s key item cost) key.0 ≡ Some (with_item c item cost)
with_new-region s key item cost c e =
    ap (λ o. region_of (option_map_or (λ (c : Cells). with_region s key.0 (with_item c item cost)) o s) key.0) e ∙ region_of-with_region_same s key.0 (with_item c item cost) c e

pub with_new-open : (s : Store) (key : RegionKey) (item : Item) (cost : ℕ) → IsSome (region_of s key.0) → IsSome (region_of (with_new s key item cost) key.0)
with_new-open s key item cost opened = by (region_of s key.0) refl
  where
    by : (o : Option Cells) → region_of s key.0 ≡ o → IsSome (region_of (with_new s key item cost) key.0)
    by None p = absurd (true≢false (sym opened ∙ ap is_some p))
    by (Some c) p = ap is_some (with_new-region s key item cost c p)

pub with_new-elements : (s : Store) (key : RegionKey) (item : Item) (cost : ℕ) → IsSome (region_of s key.0) → elements_in (with_new s key item cost) key ≡ elements_in s key + cost
with_new-elements s key item cost opened = by (region_of s key.0) refl
  where
    by : (o : Option Cells) → region_of s key.0 ≡ o → elements_in (with_new s key item cost) key ≡ elements_in s key + cost
    by None p = absurd (true≢false (sym opened ∙ ap is_some p))
    by (Some c) p =
        ap (λ o. option_map_or (λ (c : Cells). c.elements) o 0) (with_new-region s key item cost c p)
        ∙ sym (ap (λ o. option_map_or (λ (c : Cells). c.elements) o 0 + cost) p)
