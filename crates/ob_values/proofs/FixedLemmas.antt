-- What is frozen or never written stays as it is.
use Rattle.std.proofs.Common.{◌≡◌, ◌≢◌, ◌⊎◌, ℕ, Bool, true, false, Some, None, IsSome, List, [], ◌∷◌, refl, ap, subst, ◌∙◌, sym, inl, inr, Option, length, slice_get, slice_set, Result, Ok, Err, OnOk, OnErr, is_some, fold, arith, ◌+◌, ◌-◌, remove, reverse, IfOk}
use Rattle.std.proofs.lemmas.Bool.{true≢false}
use Rattle.std.proofs.lemmas.Option.{none-some, same_Some}
use Rattle.std.proofs.lemmas.List.{get_or-set_other}
use Rattle.std.specs.Option.{option_map_or}
use Rattle.ob_items.specs.declared.value.Ref.{Ref}
use Rattle.ob_items.specs.declared.value.RegionKey.{RegionKey}
use Rattle.ob_items.specs.declared.value.Value.{Value}
use Rattle.ob_items.specs.Item.{Item}
use Rattle.ob_items.specs.declared.item.Body.{Body}
use Rattle.ob_items.specs.Bodies.{array_of, properties_of, box_of, hooks_of, kept_of, after_take, kept_from}
use Rattle.ob_items.specs.Items.{at_item, is_frozen_at, with_body, fault_of, element_fault, property_fault, frozen_fault, hook_fault, with_element}
use Rattle.ob_items.specs.Properties.{Keyed, with_property}
use Rattle.ob_items.specs.declared.error.SetError.{SetError}
use Rattle.ob_items.specs.declared.error.SetError.TheVariants as S
use Rattle.ob_items.specs.declared.error.HookError.{HookError}
use Rattle.ob_items.specs.declared.error.HookError.TheVariants as H
use Rattle.ob_items.specs.declared.frame.Frame.{Frame}
use Rattle.ob_items.specs.declared.frame.Taken.{Taken}
use Rattle.ob_items.specs.declared.item.Body.TheVariants as B
use Rattle.ob_items.specs.Region.{Cells, no_cells, with_item, rewritten, marked}
use Rattle.ob_items.proofs.ListLemmas.{slice_get-set_same, slice_get-set_other, slice_get-push_within}
use Rattle.ob_values.specs.Fixed.{is_never_written, is_fixed, KeepsFixedAt, KeepsFixed}
use Rattle.ob_values.specs.Freeze.{Freezes}
use Rattle.ob_values.specs.Store.{Store, region_of, item_of, read_item, is_frozen, with_region, written, with_new, with_mark, Updates, with_literal_in}
use Rattle.ob_values.proofs.LiteralSound.{literal_stays}
use Rattle.ob_values.proofs.SoundLemmas.{opened_items}
use Rattle.ob_values.proofs.StoreLemmas.{Writes, same_or_not, Writes-with_region, item_from_region, same_items, more_items}

pub kept_as_it_is : (s n : Store) (r : Ref) → item_of n r ≡ item_of s r → KeepsFixedAt s n r
kept_as_it_is s n r e item is fixed = record { item = item; is = e ∙ is; body = refl; fixed = fixed }

pub KeepsFixed-same : (s n : Store) → ((r : Ref) → item_of n r ≡ item_of s r) → KeepsFixed s n
KeepsFixed-same s n same r = kept_as_it_is s n r (same r)

pub KeepsFixed-refl : (s n : Store) → n ≡ s → KeepsFixed s n
KeepsFixed-refl s n e = KeepsFixed-same s n (λ r. ap (λ (x : Store). item_of x r) e)

pub KeepsFixedAt-then : (s m n : Store) (r : Ref) → KeepsFixedAt s m r → KeepsFixedAt m n r → KeepsFixedAt s n r
KeepsFixedAt-then s m n r first second item is fixed =
    let a = first item is fixed in
    let b = second a.item a.is a.fixed in
    record { item = b.item; is = b.is; body = b.body ∙ a.body; fixed = b.fixed }

pub KeepsFixed-then : (s m n : Store) → KeepsFixed s m → KeepsFixed m n → KeepsFixed s n
KeepsFixed-then s m n first second r = KeepsFixedAt-then s m n r (first r) (second r)

-- after what may be refused
pub KeepsFixed-after : {T E : Type 0} (result : Result T E) (s m n : Store) → KeepsFixed s m → OnOk result (KeepsFixed m n) → OnOk result (KeepsFixed s n)
KeepsFixed-after (Ok t) s m n first second = KeepsFixed-then s m n first second
KeepsFixed-after (Err e) s m n first second = tt

-- the items stay, with more among them
pub KeepsFixed-more : (s n : Store) → ((r : Ref) (item : Item) → item_of s r ≡ Some item → item_of n r ≡ Some item) → KeepsFixed s n
KeepsFixed-more s n stays r item is fixed = record { item = item; is = stays r item is; body = refl; fixed = fixed }

frozen_is : (s : Store) (r : Ref) (item : Item) → item_of s r ≡ Some item → is_frozen s r ≡ item.frozen
frozen_is s r item is = by (region_of s r.region.0) refl
  where
    by : (o : Option Cells) → region_of s r.region.0 ≡ o → is_frozen s r ≡ item.frozen
    by None p = absurd (none-some item (sym (ap (λ o. option_map_or (λ (c : Cells). slice_get c.items r.item) o None) p) ∙ is))
    by (Some c) p =
        let here : slice_get c.items r.item ≡ Some item = sym (ap (λ o. option_map_or (λ (c : Cells). slice_get c.items r.item) o None) p) ∙ is in
        ap (λ o. option_map_or (λ (c : Cells). is_frozen_at c.items r.item) o false) p ∙ ap (λ o. option_map_or (λ (j : Item). j.frozen) o false) here

-- a write through `read`
module _ {X : Type 0} (read : Body → Option X) (make : X → Body) where
  -- the item that is read, and what the write makes of the store
  record IsWritten (s n : Store) (r : Ref) : Type 0 where
    pub old : Item
    pub new : Item
    pub value : X
    pub is : item_of s r ≡ Some old
    pub reads : read old.body ≡ Some value
    pub writes : Writes s n r new

  is_written : (s : Store) (r : Ref) (grows : Bool) → IsSome (read_item read s r) → IsWritten s (written read make s r grows) r
  is_written s r grows there = by (region_of s r.region.0) refl
    where
      by : (o : Option Cells) → region_of s r.region.0 ≡ o → IsWritten s (written read make s r grows) r
      by None p = absurd (true≢false (sym there ∙ ap (λ o. is_some (option_map_or (λ (c : Cells). at_item read c.items r.item) o None)) p))
      by (Some c) p = inner (slice_get c.items r.item) refl
        where
          here : is_some (at_item read c.items r.item) ≡ true
          here = sym (ap (λ o. is_some (option_map_or (λ (c : Cells). at_item read c.items r.item) o None)) p) ∙ there

          same : written read make s r grows ≡ with_region s r.region.0 (rewritten read make c r.item grows)
          same = ap (λ o. option_map_or (λ (c : Cells). with_region s r.region.0 (rewritten read make c r.item grows)) o s) p

          inner : (o : Option Item) → slice_get c.items r.item ≡ o → IsWritten s (written read make s r grows) r
          inner None q = absurd (true≢false (sym here ∙ ap (λ o. is_some (option_map_or (λ (item : Item). read item.body) o None)) q))
          inner (Some old) q = last (read old.body) refl
            where
              last : (o : Option X) → read old.body ≡ o → IsWritten s (written read make s r grows) r
              last None e = absurd (true≢false (sym here ∙ ap (λ o. is_some (option_map_or (λ (item : Item). read item.body) o None)) q ∙ ap is_some e))
              last (Some x) e =
                  let item : Item = record { frozen = old.frozen; body = make x } in
                  let d : Cells = rewritten read make c r.item grows in
                  let items : d.items ≡ slice_set c.items r.item item =
                  ap (λ o. option_map_or (λ (y : X). with_body c.items r.item (make y)) o c.items) (ap (λ o. option_map_or (λ (j : Item). read j.body) o None) q ∙ e)
                  ∙ ap (λ o. slice_set c.items r.item (record { frozen = option_map_or (λ (j : Item). j.frozen) o false; body = make x })) q in
                  let w : Writes s (with_region s r.region.0 d) r item = Writes-with_region s r c d item p
                  (ap (λ xs. slice_get xs r.item) items ∙ slice_get-set_same c.items r.item item old q)
                  (λ k a. ap (λ xs. slice_get xs k) items ∙ slice_get-set_other c.items r.item k item a) in
                  record { old = old; new = item; value = x; is = item_from_region s r c old p q; reads = e; writes = subst (λ m. Writes s m r item) (sym same) w }

  -- all but the item that is written
  pub KeepsFixed-but : (s : Store) (r : Ref) (grows : Bool) → IsSome (read_item read s r) → (b : Ref) → b ≢ r → KeepsFixedAt s (written read make s r grows) b
  KeepsFixed-but s r grows there b apart = kept_as_it_is s (written read make s r grows) b ((is_written s r grows there).writes.others b apart)

  module _ (open_kind : (b : Body) (x : X) → read b ≡ Some x → is_never_written b ≡ false) where
    pub KeepsFixed-written : (s : Store) (r : Ref) (grows : Bool) → IsSome (read_item read s r) → is_frozen s r ≡ false → KeepsFixed s (written read make s r grows)
    KeepsFixed-written s r grows there thawed b =
        elim (same_or_not b r) [
          | inr apart ↦ KeepsFixed-but s r grows there b apart
          | inl e ↦ λ item is fixed. absurd (true≢false (sym fixed ∙ not_fixed item (sym (ap (item_of s) e) ∙ is)))
        ]
      where
        t : IsWritten s (written read make s r grows) r
        t = is_written s r grows there

        not_fixed : (item : Item) → item_of s r ≡ Some item → is_fixed item ≡ false
        not_fixed item is =
            let same : item ≡ t.old = same_Some item t.old (sym is ∙ t.is) in
            let cold : item.frozen ≡ false = sym (frozen_is s r item is) ∙ thawed in
            let kind : is_never_written item.body ≡ false = ap (λ (j : Item). is_never_written j.body) same ∙ open_kind t.old.body t.value t.reads in
            grind (arith, cold, kind)

    -- a write that may be refused
    pub KeepsFixed-result : {T E : Type 0} (result : Result T E) (s n : Store) (r : Ref) (grows : Bool) → IsSome (read_item read s r)
        → OnOk result (is_frozen s r ≡ false) → OnOk result (n ≡ written read make s r grows) → OnErr result (n ≡ s) → KeepsFixed s n
    KeepsFixed-result (Ok t) s n r grows there thawed ok err = subst (λ m. KeepsFixed s m) (sym ok) (KeepsFixed-written s r grows there thawed)
    KeepsFixed-result (Err e) s n r grows there thawed ok err = KeepsFixed-refl s n err

    -- a write that may be of a frozen item
    pub KeepsFixed-either : (s n : Store) (r : Ref) (grows : Bool) → IsSome (read_item read s r) → n ≡ written read make s r grows
        → (b : Ref) → (b ≢ r) ⊎ (is_frozen s r ≡ false) → KeepsFixedAt s n b
    KeepsFixed-either s n r grows there e b which =
        subst (λ m. KeepsFixedAt s m b) (sym e) (elim which [ inl apart ↦ KeepsFixed-but s r grows there b apart | inr thawed ↦ KeepsFixed-written s r grows there thawed b ])

-- ---- a write that is done is not of a frozen item

thawed : {T E : Type 0} (result : Result T E) (frozen : Bool) (fault : Option E) (why : E) → (frozen ≡ true → fault ≡ Some why) → fault_of result ≡ fault → OnOk result (frozen ≡ false)
thawed (Err e) frozen fault why says h = tt
thawed (Ok t) false fault why says h = refl
thawed (Ok t) true fault why says h = absurd (none-some why (h ∙ says refl))

pub thawed-element : {T : Type 0} (result : Result T SetError) (frozen : Bool) (count index elements : ℕ)
    → (result ≡ Err S.NoMemory) ⊎ (fault_of result ≡ element_fault frozen count index elements) → OnOk result (frozen ≡ false)
thawed-element (Err e) frozen count index elements h = tt
thawed-element (Ok t) frozen count index elements (inl e) = absurd (none-some S.NoMemory (ap fault_of e))
thawed-element (Ok t) frozen count index elements (inr e) =
    thawed (Ok t) frozen (element_fault frozen count index elements) S.Frozen (λ f. ap (λ b. element_fault b count index elements) f) e

pub thawed-property : {T : Type 0} (result : Result T SetError) (frozen is_new : Bool) (elements : ℕ)
    → (result ≡ Err S.NoMemory) ⊎ (fault_of result ≡ property_fault frozen is_new elements) → OnOk result (frozen ≡ false)
thawed-property (Err e) frozen is_new elements h = tt
thawed-property (Ok t) frozen is_new elements (inl e) = absurd (none-some S.NoMemory (ap fault_of e))
thawed-property (Ok t) frozen is_new elements (inr e) =
    thawed (Ok t) frozen (property_fault frozen is_new elements) S.Frozen (λ f. ap (λ b. property_fault b is_new elements) f) e

pub thawed-frozen : {T : Type 0} (result : Result T SetError) (frozen : Bool) → fault_of result ≡ frozen_fault frozen → OnOk result (frozen ≡ false)
thawed-frozen result frozen e = thawed result frozen (frozen_fault frozen) S.Frozen (λ f. ap frozen_fault f) e

pub thawed-hook : {T : Type 0} (result : Result T HookError) (frozen : Bool) (hooks : ℕ) → fault_of result ≡ hook_fault frozen hooks → OnOk result (frozen ≡ false)
thawed-hook result frozen hooks e = thawed result frozen (hook_fault frozen hooks) H.Frozen (λ f. ap (λ b. hook_fault b hooks) f) e

-- ---- the kinds that calls write

pub array_kind : (b : Body) (x : List Value) → array_of b ≡ Some x → is_never_written b ≡ false
array_kind (B.Array values) x e = refl
array_kind _ x e = absurd (none-some x e)

pub object_kind : (b : Body) (x : Keyed) → properties_of b ≡ Some x → is_never_written b ≡ false
object_kind (B.Object properties) x e = refl
object_kind _ x e = absurd (none-some x e)

pub box_kind : (b : Body) (x : Option Value) → box_of b ≡ Some x → is_never_written b ≡ false
box_kind (B.Box value) x e = refl
box_kind _ x e = absurd (none-some x e)

pub hooks_kind : (b : Body) (x : ℕ) → hooks_of b ≡ Some x → is_never_written b ≡ false
hooks_kind (B.Invalidation hooks) x e = refl
hooks_kind _ x e = absurd (none-some x e)

pub kept_kind : (b : Body) (x : Taken) → kept_of b ≡ Some x → is_never_written b ≡ false
kept_kind (B.Generator kept) x e = refl
kept_kind _ x e = absurd (none-some x e)

-- ---- marks, new items and regions

pub KeepsFixed-mark : (s : Store) (r : Ref) → KeepsFixed s (with_mark s r)
KeepsFixed-mark s r = by (region_of s r.region.0) refl
  where
    by : (o : Option Cells) → region_of s r.region.0 ≡ o → KeepsFixed s (with_mark s r)
    by None p = KeepsFixed-refl s (with_mark s r) (ap (λ o. option_map_or (λ (c : Cells). with_region s r.region.0 (marked c r.item)) o s) p)
    by (Some c) p = inner (slice_get c.items r.item) refl
      where
        n : Store
        n = with_region s r.region.0 (marked c r.item)

        same : with_mark s r ≡ n
        same = ap (λ o. option_map_or (λ (c : Cells). with_region s r.region.0 (marked c r.item)) o s) p

        inner : (o : Option Item) → slice_get c.items r.item ≡ o → KeepsFixed s (with_mark s r)
        inner None q =
            let items : (marked c r.item).items ≡ c.items = ap (λ o. option_map_or (λ (j : Item). slice_set c.items r.item (record { frozen = true; body = j.body })) o c.items) q in
            subst (KeepsFixed s) (sym same) (KeepsFixed-same s n (same_items s r.region.0 c (marked c r.item) p items))
        inner (Some old) q = subst (KeepsFixed s) (sym same) all
          where
            now : Item
            now = record { frozen = true; body = old.body }

            items : (marked c r.item).items ≡ slice_set c.items r.item now
            items = ap (λ o. option_map_or (λ (j : Item). slice_set c.items r.item (record { frozen = true; body = j.body })) o c.items) q

            w : Writes s n r now
            w =
                Writes-with_region s r c (marked c r.item) now p
                (ap (λ xs. slice_get xs r.item) items ∙ slice_get-set_same c.items r.item now old q)
                (λ k a. ap (λ xs. slice_get xs k) items ∙ slice_get-set_other c.items r.item k now a)

            all : KeepsFixed s n
            all b =
                elim (same_or_not b r) [
                  | inr apart ↦ kept_as_it_is s n b (w.others b apart)
                  | inl e ↦ λ item is fixed. record {
                    item = now;
                    is = ap (item_of n) e ∙ w.changed;
                    body = ap (λ (j : Item). j.body) (same_Some old item (sym (item_from_region s r c old p q) ∙ ap (item_of s) (sym e) ∙ is));
                    fixed = refl;
                  }
                ]

pub KeepsFixed-marks : (refs : List Ref) (s : Store) → KeepsFixed s (fold with_mark s refs)
KeepsFixed-marks [] s = KeepsFixed-refl s s refl
KeepsFixed-marks (r ∷ refs) s = KeepsFixed-then s (with_mark s r) (fold with_mark s (r ∷ refs)) (KeepsFixed-mark s r) (KeepsFixed-marks refs (with_mark s r))

pub KeepsFixed-freeze : {T E : Type 0} (result : Result T E) (s n : Store) (value : Value) → OnOk result (Freezes s n value) → OnErr result (n ≡ s) → KeepsFixed s n
KeepsFixed-freeze (Ok t) s n value ok err = subst (λ m. KeepsFixed s m) (sym ok.is) (KeepsFixed-marks ok.frozen s)
KeepsFixed-freeze (Err e) s n value ok err = KeepsFixed-refl s n err

pub KeepsFixed-item : (s : Store) (key : RegionKey) (item : Item) (cost : ℕ) → KeepsFixed s (with_new s key item cost)
KeepsFixed-item s key item cost = by (region_of s key.0) refl
  where
    by : (o : Option Cells) → region_of s key.0 ≡ o → KeepsFixed s (with_new s key item cost)
    by None p = KeepsFixed-refl s (with_new s key item cost) (ap (λ o. option_map_or (λ (c : Cells). with_region s key.0 (with_item c item cost)) o s) p)
    by (Some c) p =
        subst (λ m. KeepsFixed s m) (sym (ap (λ o. option_map_or (λ (c : Cells). with_region s key.0 (with_item c item cost)) o s) p))
        (KeepsFixed-more s (with_region s key.0 (with_item c item cost)) (more_items s key.0 c (with_item c item cost) p (λ at j h. slice_get-push_within c.items item j at h)))

pub KeepsFixed-new : {T E : Type 0} (result : Result T E) (s n : Store) (key : RegionKey) (item : Item) (cost : ℕ) → OnOk result (n ≡ with_new s key item cost) → OnOk result (KeepsFixed s n)
KeepsFixed-new (Err e) s n key item cost ok = tt
KeepsFixed-new (Ok t) s n key item cost ok = subst (λ m. KeepsFixed s m) (sym ok) (KeepsFixed-item s key item cost)

pub KeepsFixed-literal : {T E : Type 0} (result : Result T E) (s n : Store) (key : RegionKey) (units : List ℕ) → OnOk result (n ≡ with_literal_in s key units) → OnOk result (KeepsFixed s n)
KeepsFixed-literal (Err e) s n key units ok = tt
KeepsFixed-literal (Ok t) s n key units ok = subst (λ m. KeepsFixed s m) (sym ok) (KeepsFixed-more s (with_literal_in s key units) (literal_stays s key units))

pub KeepsFixed-open : {E : Type 0} (result : Result RegionKey E) (s n : Store) → IfOk result (λ key. region_of s key.0 ≡ None) → IfOk result (λ key. Updates s n key.0 (Some no_cells)) → OnErr result (n ≡ s) → KeepsFixed s n
KeepsFixed-open (Ok key) s n fresh opened err = KeepsFixed-same s n (opened_items s n key.0 fresh opened)
KeepsFixed-open (Err e) s n fresh opened err = KeepsFixed-refl s n err

-- items outside a closed region
pub KeepsFixed-close : (s : Store) (key : RegionKey) (r : Ref) → r.region.0 ≢ key.0 → KeepsFixedAt s (slice_set s key.0 None) r
KeepsFixed-close s key r apart =
    kept_as_it_is s (slice_set s key.0 None) r (ap (λ o. option_map_or (λ (c : Cells). slice_get c.items r.item) o None) (get_or-set_other s key.0 r.region.0 None None apart))

-- ---- the calls that write

pub KeepsFixed-element : {T : Type 0} (result : Result T SetError) (s n : Store) (r : Ref) (i : ℕ) (v : Value) (grows : Bool) (count elements : ℕ) → IsSome (read_item array_of s r)
    → (result ≡ Err S.NoMemory) ⊎ (fault_of result ≡ element_fault (is_frozen s r) count i elements) → OnOk result (n ≡ written array_of (with_element i v) s r grows) → OnErr result (n ≡ s) → KeepsFixed s n
KeepsFixed-element result s n r i v grows count elements there fault =
    KeepsFixed-result array_of (with_element i v) array_kind result s n r grows there (thawed-element result (is_frozen s r) count i elements fault)

pub KeepsFixed-property : {T : Type 0} (result : Result T SetError) (s n : Store) (r : Ref) (key : List ℕ) (v : Value) (grows is_new : Bool) (elements : ℕ) → IsSome (read_item properties_of s r)
    → (result ≡ Err S.NoMemory) ⊎ (fault_of result ≡ property_fault (is_frozen s r) is_new elements)
    → OnOk result (n ≡ written properties_of (λ ps. B.Object (with_property ps key v)) s r grows) → OnErr result (n ≡ s) → KeepsFixed s n
KeepsFixed-property result s n r key v grows is_new elements there fault =
    KeepsFixed-result properties_of (λ ps. B.Object (with_property ps key v)) object_kind result s n r grows there (thawed-property result (is_frozen s r) is_new elements fault)

pub KeepsFixed-box : {T : Type 0} (result : Result T SetError) (s n : Store) (r : Ref) (v : Value) → IsSome (read_item box_of s r)
    → fault_of result ≡ frozen_fault (is_frozen s r) → OnOk result (n ≡ written box_of (λ _. B.Box (Some v)) s r false) → OnErr result (n ≡ s) → KeepsFixed s n
KeepsFixed-box result s n r v there fault =
    KeepsFixed-result box_of (λ _. B.Box (Some v)) box_kind result s n r false there (thawed-frozen result (is_frozen s r) fault)

pub KeepsFixed-remove : {T : Type 0} (result : Result T SetError) (s n : Store) (r : Ref) (i : ℕ) → IsSome (read_item array_of s r)
    → fault_of result ≡ frozen_fault (is_frozen s r) → OnOk result (n ≡ written array_of (λ values. B.Array (remove values i)) s r false) → OnErr result (n ≡ s) → KeepsFixed s n
KeepsFixed-remove result s n r i there fault =
    KeepsFixed-result array_of (λ values. B.Array (remove values i)) array_kind result s n r false there (thawed-frozen result (is_frozen s r) fault)

pub KeepsFixed-last : {T : Type 0} (result : Result T SetError) (s n : Store) (r : Ref) → IsSome (read_item array_of s r)
    → fault_of result ≡ frozen_fault (is_frozen s r) → OnOk result (n ≡ written array_of (λ values. B.Array (remove values (length values - 1))) s r false) → OnErr result (n ≡ s) → KeepsFixed s n
KeepsFixed-last result s n r there fault =
    KeepsFixed-result array_of (λ values. B.Array (remove values (length values - 1))) array_kind result s n r false there (thawed-frozen result (is_frozen s r) fault)

pub KeepsFixed-reverse : {T : Type 0} (result : Result T SetError) (s n : Store) (r : Ref) → IsSome (read_item array_of s r)
    → fault_of result ≡ frozen_fault (is_frozen s r) → OnOk result (n ≡ written array_of (λ values. B.Array (reverse values)) s r false) → OnErr result (n ≡ s) → KeepsFixed s n
KeepsFixed-reverse result s n r there fault =
    KeepsFixed-result array_of (λ values. B.Array (reverse values)) array_kind result s n r false there (thawed-frozen result (is_frozen s r) fault)

pub KeepsFixed-hook : {T : Type 0} (result : Result T HookError) (s n : Store) (r : Ref) (hooks : ℕ) → IsSome (read_item hooks_of s r)
    → fault_of result ≡ hook_fault (is_frozen s r) hooks → OnOk result (n ≡ written hooks_of (λ hooks. B.Invalidation (hooks + 1)) s r false) → OnErr result (n ≡ s) → KeepsFixed s n
KeepsFixed-hook result s n r hooks there fault =
    KeepsFixed-result hooks_of (λ hooks. B.Invalidation (hooks + 1)) hooks_kind result s n r false there (thawed-hook result (is_frozen s r) hooks fault)

pub KeepsFixed-take : (s n : Store) (r : Ref) → IsSome (read_item kept_of s r) → n ≡ written kept_of (λ kept. B.Generator (after_take kept)) s r false
    → (b : Ref) → (b ≢ r) ⊎ (is_frozen s r ≡ false) → KeepsFixedAt s n b
KeepsFixed-take s n r there e = KeepsFixed-either kept_of (λ kept. B.Generator (after_take kept)) kept_kind s n r false there e

pub KeepsFixed-put : (s n : Store) (r : Ref) (frame : Option Frame) → IsSome (read_item kept_of s r) → n ≡ written kept_of (λ _. B.Generator (kept_from frame)) s r false
    → (b : Ref) → (b ≢ r) ⊎ (is_frozen s r ≡ false) → KeepsFixedAt s n b
KeepsFixed-put s n r frame there e = KeepsFixed-either kept_of (λ _. B.Generator (kept_from frame)) kept_kind s n r false there e
