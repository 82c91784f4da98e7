-- A store whose region at a key is changed: that region, and the others. The changes of one item.
use Rattle.std.proofs.Common.{◌≡◌, ◌≢◌, ℕ, Bool, false, List, Option, Some, None, slice_get, sym, refl, ap, ◌∙◌}
use Rattle.std.specs.Option.{option_map_or, option_map}
use Rattle.std.proofs.lemmas.Option.{none-some, same_Some}
use Rattle.ob_items.specs.Item.{Item}
use Rattle.ob_items.specs.Items.{at_item, is_frozen_at, with_body, changed}
use Rattle.ob_items.specs.Region.{Cells, rewritten}
use Rattle.ob_items.specs.declared.item.Body.{Body}
use Rattle.ob_items.specs.declared.value.Ref.{Ref}
use Rattle.ob_items.proofs.ListLemmas.{slice_get-set_same, slice_get-set_other}
use Rattle.ob_values.specs.Store.{Store, region_of, with_region, item_of, body_of, is_frozen, written}
use Rattle.ob_values.proofs.StoreLemmas.{region_of-with_region_same, region_of-with_region_other}

-- the store with f of the region at a key
abbrev pub updated : Store → ℕ → (Cells → Cells) → Store
updated s key f = option_map_or (λ c. with_region s key (f c)) (region_of s key) s

pub updated_at : (s : Store) (key : ℕ) (f : Cells → Cells) → region_of (updated s key f) key ≡ option_map f (region_of s key)
updated_at s key f = by (region_of s key) refl
  where
    by : (o : Option Cells) → region_of s key ≡ o → region_of (updated s key f) key ≡ option_map f (region_of s key)
    by None p = ap (λ o. region_of (option_map_or (λ c. with_region s key (f c)) o s) key) p ∙ p ∙ ap (option_map f) (sym p)
    by (Some c) p =
        ap (λ o. region_of (option_map_or (λ d. with_region s key (f d)) o s) key) p ∙ region_of-with_region_same s key (f c) c p ∙ ap (option_map f) (sym p)

pub updated_other : (s : Store) (key other : ℕ) (f : Cells → Cells) → other ≢ key → region_of (updated s key f) other ≡ region_of s other
updated_other s key other f apart = by (region_of s key) refl
  where
    by : (o : Option Cells) → region_of s key ≡ o → region_of (updated s key f) other ≡ region_of s other
    by None p = ap (λ o. region_of (option_map_or (λ c. with_region s key (f c)) o s) other) p
    by (Some c) p = ap (λ o. region_of (option_map_or (λ d. with_region s key (f d)) o s) other) p ∙ region_of-with_region_other s key other (f c) apart

-- an item of the region at a key
pub item_updated : (s : Store) (key : ℕ) (f : Cells → Cells) (r : Ref) → r.region.0 ≡ key
    → item_of (updated s key f) r ≡ option_map_or (λ c. slice_get (f c).items r.item) (region_of s key) None
item_updated s key f r e =
    ap (λ k. option_map_or (λ (c : Cells). slice_get c.items r.item) (region_of (updated s key f) k) None) e
    ∙ ap (λ o. option_map_or (λ (c : Cells). slice_get c.items r.item) o None) (updated_at s key f) ∙ by (region_of s key)
  where
    by : (o : Option Cells) → option_map_or (λ (c : Cells). slice_get c.items r.item) (option_map f o) None ≡ option_map_or (λ c. slice_get (f c).items r.item) o None
    by None = refl
    by (Some c) = refl

pub item_elsewhere : (s : Store) (key : ℕ) (f : Cells → Cells) (r : Ref) → r.region.0 ≢ key → item_of (updated s key f) r ≡ item_of s r
item_elsewhere s key f r apart = ap (λ o. option_map_or (λ (c : Cells). slice_get c.items r.item) o None) (updated_other s key r.region.0 f apart)

-- ---- the change of one item

module _ {X : Type 0} (read : Body → Option X) (make : X → Body) where
  pub changed_none : (items : List Item) (i : ℕ) → at_item read items i ≡ None → changed read make items i ≡ items
  changed_none items i e = ap (λ o. option_map_or (λ x. with_body items i (make x)) o items) e

  pub changed_same : (items : List Item) (i : ℕ) (item : Item) (x : X) → slice_get items i ≡ Some item → read item.body ≡ Some x
      → slice_get (changed read make items i) i ≡ Some (record { frozen = item.frozen; body = make x })
  changed_same items i item x p q =
      ap (λ o. slice_get (option_map_or (λ y. with_body items i (make y)) o items) i) (ap (λ o. option_map_or (λ (j : Item). read j.body) o None) p ∙ q)
      ∙ slice_get-set_same items i (record { frozen = is_frozen_at items i; body = make x }) item p
      ∙ ap (λ o. Some (record { frozen = option_map_or (λ (j : Item). j.frozen) o false; body = make x })) p

  pub changed_other : (items : List Item) (i j : ℕ) → j ≢ i → slice_get (changed read make items i) j ≡ slice_get items j
  changed_other items i j apart = by (at_item read items i) refl
    where
      by : (o : Option X) → at_item read items i ≡ o → slice_get (changed read make items i) j ≡ slice_get items j
      by None p = ap (λ o. slice_get (option_map_or (λ x. with_body items i (make x)) o items) j) p
      by (Some x) p =
          ap (λ o. slice_get (option_map_or (λ y. with_body items i (make y)) o items) j) p ∙ slice_get-set_other items i j (record { frozen = is_frozen_at items i; body = make x }) apart

  -- what is written stands there, under the mark that was there
  pub written_there : (s : Store) (r : Ref) (grows : Bool) (item : Item) (x : X) → item_of s r ≡ Some item → read item.body ≡ Some x
      → item_of (written read make s r grows) r ≡ Some (record { frozen = item.frozen; body = make x })
  written_there s r grows item x p q =
      item_updated s r.region.0 (λ c. rewritten read make c r.item grows) r refl ∙ by (region_of s r.region.0) p
    where
      by : (o : Option Cells) → option_map_or (λ (c : Cells). slice_get c.items r.item) o None ≡ Some item
          → option_map_or (λ (c : Cells). slice_get (changed read make c.items r.item) r.item) o None ≡ Some (record { frozen = item.frozen; body = make x })
      by None e = absurd (none-some item e)
      by (Some c) e = changed_same c.items r.item item x e q

-- the item of a body
pub item_by_body : (s : Store) (r : Ref) (body : Body) → body_of s r ≡ Some body → (item : Item) × (item_of s r ≡ Some item) × (item.body ≡ body)
item_by_body s r body e = in_region (region_of s r.region.0) refl e
  where
    at : (c : Cells) → region_of s r.region.0 ≡ Some c → (o : Option Item) → slice_get c.items r.item ≡ o → option_map_or (λ (item : Item). Some item.body) o None ≡ Some body
        → (item : Item) × (item_of s r ≡ Some item) × (item.body ≡ body)
    at c p None q f = absurd (none-some body f)
    at c p (Some item) q f = (item, ap (λ o. option_map_or (λ (d : Cells). slice_get d.items r.item) o None) p ∙ q, same_Some item.body body f)

    in_region : (o : Option Cells) → region_of s r.region.0 ≡ o → option_map_or (λ (c : Cells). at_item (λ b. Some b) c.items r.item) o None ≡ Some body
        → (item : Item) × (item_of s r ≡ Some item) × (item.body ≡ body)
    in_region None p f = absurd (none-some body f)
    in_region (Some c) p f = at c p (slice_get c.items r.item) refl f

pub body_by_item : (s : Store) (r : Ref) (item : Item) → item_of s r ≡ Some item → body_of s r ≡ Some item.body
body_by_item s r item e = in_region (region_of s r.region.0) e
  where
    in_region : (o : Option Cells) → option_map_or (λ (c : Cells). slice_get c.items r.item) o None ≡ Some item → option_map_or (λ (c : Cells). at_item (λ b. Some b) c.items r.item) o None ≡ Some item.body
    in_region None f = absurd (none-some item f)
    in_region (Some c) f = ap (λ o. option_map_or (λ (i : Item). Some i.body) o None) f

pub frozen_by_item : (s : Store) (r : Ref) (item : Item) → item_of s r ≡ Some item → is_frozen s r ≡ item.frozen
frozen_by_item s r item e = in_region (region_of s r.region.0) e
  where
    in_region : (o : Option Cells) → option_map_or (λ (c : Cells). slice_get c.items r.item) o None ≡ Some item → option_map_or (λ (c : Cells). is_frozen_at c.items r.item) o false ≡ item.frozen
    in_region None f = absurd (none-some item f)
    in_region (Some c) f = ap (λ o. option_map_or (λ (i : Item). i.frozen) o false) f
