-- A run changes its own region alone, where all that it can reach outside is frozen or never written.
use Rattle.std.proofs.Common.{◌≡◌, ◌≢◌, ℕ, ◌+◌, Bool, false, IsTrue, Option, Some, None, List, [], ◌∷◌, slice_get, subst, sym, refl, ap, ◌∙◌, inl, inr}
use Rattle.std.proofs.lemmas.Option.{none-some, same_Some}
use Rattle.std.specs.Option.{option_map_or, option_map}
use Rattle.ob_items.specs.Bodies.{array_of, properties_of, box_of, hooks_of, kept_of}
use Rattle.ob_items.specs.Item.{Item}
use Rattle.ob_items.specs.Items.{live, at_item, is_frozen_at, with_body, changed}
use Rattle.ob_items.specs.Region.{Cells, with_item, rewritten, after_literal, literal_at, with_literal}
use Rattle.ob_items.specs.declared.item.Body.{Body}
use Rattle.ob_items.specs.declared.item.Body.TheVariants as B
use Rattle.ob_items.specs.declared.value.Ref.{Ref}
use Rattle.ob_items.proofs.ListLemmas.{equal_or_not}
use Rattle.ob_values.specs.Fixed.{is_fixed}
use Rattle.ob_values.specs.Store.{Store, region_of, item_of, body_of, is_frozen, read_item}
use Rattle.ob_actions.specs.World.{World}
use Rattle.ob_actions.proofs.Each.{each_at, each_append, each_set}
use Rattle.ob_actions.proofs.FixedStay.{ReadsWritten, never_array, never_object, never_box, never_hooks, never_kept, unfrozen_is_never}
use Rattle.ob_actions.proofs.Regions.{updated, updated_at, updated_other, changed_none, frozen_by_item}
use Rattle.ob_actions.proofs.StoreLaw.{StoreLaw}
use Rattle.ob_actions.specs.Within.{Each, GoodBody, IfThere, IsClosed, Reachable}

module _ (start : Store) (world : World) (outside : Ref → Type 0) (closed : IsClosed world.region.0 outside start) where
  own : ℕ
  own = world.region.0

  abbrev pub GoodItems : Cells → Type 0
  GoodItems c = Each (λ (item : Item). GoodBody (Reachable world.region.0 outside) item.body) c.items

  -- the other regions are as they were, and what stands in the own one leads to nothing else
  abbrev pub OwnAlone : Store → Type 0
  OwnAlone s = ((key : ℕ) → key ≢ world.region.0 → region_of s key ≡ region_of start key) × IfThere GoodItems (region_of s world.region.0)

  in_own : (s : Store) (f : Cells → Cells) → ((c : Cells) → region_of s world.region.0 ≡ Some c → GoodItems c → GoodItems (f c)) → OwnAlone s → OwnAlone (updated s world.region.0 f)
  in_own s f keeps h = (
    (λ key apart. updated_other s world.region.0 key f apart ∙ h.0 key apart),
    subst (λ o. IfThere GoodItems o) (sym (updated_at s world.region.0 f)) (by (region_of s world.region.0) refl h.1),
  )
    where
      by : (o : Option Cells) → region_of s world.region.0 ≡ o → IfThere GoodItems o → IfThere GoodItems (option_map f o)
      by None p k = tt
      by (Some c) p k = keeps c p k

  -- a change that leaves its region as it is
  unchanged : (s : Store) (key : ℕ) (f : Cells → Cells) → ((c : Cells) → region_of s key ≡ Some c → f c ≡ c) → (j : ℕ) → region_of (updated s key f) j ≡ region_of s j
  unchanged s key f same j =
      elim (equal_or_not j key) [
        | inr apart ↦ updated_other s key j f apart
        | inl e ↦ ap (region_of (updated s key f)) e ∙ updated_at s key f ∙ by (region_of s key) refl ∙ ap (region_of s) (sym e)
      ]
    where
      by : (o : Option Cells) → region_of s key ≡ o → option_map f (region_of s key) ≡ region_of s key
      by None p = ap (option_map f) p ∙ sym p
      by (Some c) p = ap (option_map f) p ∙ ap Some (same c p) ∙ sym p

  elsewhere : (s : Store) (key : ℕ) (f : Cells → Cells) → ((c : Cells) → region_of s key ≡ Some c → f c ≡ c) → OwnAlone s → OwnAlone (updated s key f)
  elsewhere s key f same h =
      ((λ j apart. unchanged s key f same j ∙ h.0 j apart), subst (λ o. IfThere GoodItems o) (sym (unchanged s key f same world.region.0)) h.1)

  there_body : (b : Option Item) → IfThere (λ (item : Item). IsTrue (is_fixed item) × GoodBody (Reachable world.region.0 outside) item.body) b
      → IfThere (GoodBody (Reachable world.region.0 outside)) (option_map_or (λ (item : Item). Some item.body) b None)
  there_body None h = tt
  there_body (Some item) h = h.1

  good_at : (items : List Item) (i : ℕ) → Each (λ (item : Item). GoodBody (Reachable world.region.0 outside) item.body) items → IfThere (GoodBody (Reachable world.region.0 outside)) (at_item (λ b. Some b) items i)
  good_at items i h = by (slice_get items i) refl
    where
      by : (o : Option Item) → slice_get items i ≡ o → IfThere (GoodBody (Reachable world.region.0 outside)) (option_map_or (λ (item : Item). Some item.body) o None)
      by None e = tt
      by (Some item) e = each_at (λ (item : Item). GoodBody (Reachable world.region.0 outside) item.body) items i item h e

  in_region : (o : Option Cells) (i : ℕ) → IfThere GoodItems o → IfThere (GoodBody (Reachable world.region.0 outside)) (option_map_or (λ (c : Cells). at_item (λ b. Some b) c.items i) o None)
  in_region None i h = tt
  in_region (Some c) i h = good_at c.items i h

  item_there : (s : Store) (r : Ref) → body_of s r ≡ option_map_or (λ (item : Item). Some item.body) (item_of s r) None
  item_there s r = by (region_of s r.region.0)
    where
      by : (o : Option Cells) → option_map_or (λ (c : Cells). at_item (λ b. Some b) c.items r.item) o None ≡ option_map_or (λ (item : Item). Some item.body) (option_map_or (λ (c : Cells). slice_get c.items r.item) o None) None
      by None = refl
      by (Some c) = refl

  same_item : (s : Store) (r : Ref) → OwnAlone s → r.region.0 ≢ world.region.0 → item_of s r ≡ item_of start r
  same_item s r h apart = ap (λ o. option_map_or (λ (c : Cells). slice_get c.items r.item) o None) (h.0 r.region.0 apart)

  outside_only : (r : Ref) → Reachable world.region.0 outside r → r.region.0 ≢ world.region.0 → outside r
  outside_only r (inl e) apart = absurd (apart e)
  outside_only r (inr o) apart = o

  inside : (s : Store) → OwnAlone s → (r : Ref) → Reachable world.region.0 outside r → IfThere (GoodBody (Reachable world.region.0 outside)) (body_of s r)
  inside s h r g =
      elim (equal_or_not r.region.0 world.region.0) [
        | inl e ↦ subst (λ k. IfThere (GoodBody (Reachable world.region.0 outside)) (option_map_or (λ (c : Cells). at_item (λ b. Some b) c.items r.item) (region_of s k) None)) (sym e) (in_region (region_of s world.region.0) r.item h.1)
        | inr apart ↦ subst (λ o. IfThere (GoodBody (Reachable world.region.0 outside)) o) (sym (item_there s r))
            (there_body (item_of s r) (subst (λ o. IfThere (λ (item : Item). IsTrue (is_fixed item) × GoodBody (Reachable world.region.0 outside) item.body) o) (sym (same_item s r h apart)) (closed r (outside_only r g apart))))
      ]

  -- ---- writes

  module _ {X : Type 0} (read : Body → Option X) (make : X → Body) (never : ReadsWritten read) where
    -- an item outside is not written
    none_outside : (s : Store) (r : Ref) → OwnAlone s → Reachable world.region.0 outside r → r.region.0 ≢ world.region.0 → is_frozen s r ≡ false → read_item read s r ≡ None
    none_outside s r h g apart cold = by (item_of s r) refl (subst (λ o. IfThere (λ (item : Item). IsTrue (is_fixed item) × GoodBody (Reachable world.region.0 outside) item.body) o) (sym (same_item s r h apart)) (closed r (outside_only r g apart)))
      where
        reads : read_item read s r ≡ option_map_or (λ (item : Item). read item.body) (item_of s r) None
        reads = at (region_of s r.region.0)
          where
            at : (o : Option Cells) → option_map_or (λ (c : Cells). at_item read c.items r.item) o None ≡ option_map_or (λ (item : Item). read item.body) (option_map_or (λ (c : Cells). slice_get c.items r.item) o None) None
            at None = refl
            at (Some c) = refl

        by : (o : Option Item) → item_of s r ≡ o → IfThere (λ (item : Item). IsTrue (is_fixed item) × GoodBody (Reachable world.region.0 outside) item.body) o → read_item read s r ≡ None
        by None e k = reads ∙ ap (λ o. option_map_or (λ (item : Item). read item.body) o None) e
        by (Some item) e k =
            reads ∙ ap (λ o. option_map_or (λ (item : Item). read item.body) o None) e ∙ never item.body (unfrozen_is_never item k.0 (sym (frozen_by_item s r item e) ∙ cold))

    in_cells : (s : Store) (r : Ref) (c : Cells) → region_of s r.region.0 ≡ Some c → read_item read s r ≡ at_item read c.items r.item
    in_cells s r c p = ap (λ o. option_map_or (λ (c : Cells). at_item read c.items r.item) o None) p

    -- nothing is read, so nothing is written
    nothing_written : (s : Store) (r : Ref) → OwnAlone s → read_item read s r ≡ None → OwnAlone (updated s r.region.0 (λ c. rewritten read make c r.item false))
    nothing_written s r h none =
        elsewhere s r.region.0 (λ c. rewritten read make c r.item false)
        (λ c p. ap (λ items. record { items = items; elements = c.elements; literals = c.literals }) (changed_none read make c.items r.item (sym (in_cells s r c p) ∙ none))) h

    good_changed : (items : List Item) (i : ℕ) → ((x : X) → at_item read items i ≡ Some x → GoodBody (Reachable world.region.0 outside) (make x))
        → Each (λ (item : Item). GoodBody (Reachable world.region.0 outside) item.body) items → Each (λ (item : Item). GoodBody (Reachable world.region.0 outside) item.body) (changed read make items i)
    good_changed items i good h = by (at_item read items i) refl
      where
        by : (o : Option X) → at_item read items i ≡ o → Each (λ (item : Item). GoodBody (Reachable world.region.0 outside) item.body) (option_map_or (λ x. with_body items i (make x)) o items)
        by None e = h
        by (Some x) e = each_set (λ (item : Item). GoodBody (Reachable world.region.0 outside) item.body) items i (record { frozen = is_frozen_at items i; body = make x }) h (good x e)

    own_written : (s : Store) (r : Ref) (grows : Bool) → OwnAlone s → r.region.0 ≡ world.region.0 → ((x : X) → read_item read s r ≡ Some x → GoodBody (Reachable world.region.0 outside) (make x))
        → OwnAlone (updated s r.region.0 (λ c. rewritten read make c r.item grows))
    own_written s r grows h e good =
        subst (λ k. OwnAlone (updated s k (λ c. rewritten read make c r.item grows))) (sym e)
        (in_own s (λ c. rewritten read make c r.item grows) (λ c p k. good_changed c.items r.item (λ x q. good x (in_cells s r c (ap (region_of s) e ∙ p) ∙ q)) k) h)

    written_alone : (s : Store) (r : Ref) → OwnAlone s → Reachable world.region.0 outside r → is_frozen s r ≡ false → ((x : X) → GoodBody (Reachable world.region.0 outside) (make x))
        → OwnAlone (updated s r.region.0 (λ c. rewritten read make c r.item false))
    written_alone s r h g cold good =
        elim (equal_or_not r.region.0 world.region.0) [
          | inl e ↦ own_written s r false h e (λ x _. good x)
          | inr apart ↦ nothing_written s r h (none_outside s r h g apart cold)
        ]

    -- where an item of the kind stands there
    there_alone : (s : Store) (r : Ref) (grows : Bool) (x : X) → OwnAlone s → Reachable world.region.0 outside r → is_frozen s r ≡ false → read_item read s r ≡ Some x → GoodBody (Reachable world.region.0 outside) (make x)
        → OwnAlone (updated s r.region.0 (λ c. rewritten read make c r.item grows))
    there_alone s r grows x h g cold is good =
        elim (equal_or_not r.region.0 world.region.0) [
          | inl e ↦ own_written s r grows h e (λ y q. subst (λ z. GoodBody (Reachable world.region.0 outside) (make z)) (same_Some x y (sym is ∙ q)) good)
          | inr apart ↦ absurd (none-some x (sym (none_outside s r h g apart cold) ∙ is))
        ]

  read_in : {X : Type 0} (read : Body → Option X) (s : Store) (r : Ref) (b : Body) → body_of s r ≡ Some b → read_item read s r ≡ read b
  read_in {X} read s r b e = by (region_of s r.region.0) e
    where
      at : (o : Option Item) → option_map_or (λ (item : Item). Some item.body) o None ≡ Some b → option_map_or (λ (item : Item). read item.body) o None ≡ read b
      at None f = absurd (none-some b f)
      at (Some item) f = ap read (same_Some item.body b f)

      by : (o : Option Cells) → option_map_or (λ (c : Cells). at_item (λ b. Some b) c.items r.item) o None ≡ Some b → option_map_or (λ (c : Cells). at_item read c.items r.item) o None ≡ read b
      by None f = absurd (none-some b f)
      by (Some c) f = at (slice_get c.items r.item) f

  good_literal : (o : Option ℕ) (c : Cells) (units : List ℕ) → GoodItems c → GoodItems (option_map_or (λ at. c) o (with_literal c units))
  good_literal None c units h = each_append (λ (item : Item). GoodBody (Reachable world.region.0 outside) item.body) c.items (live (B.Text units) ∷ []) h (tt, tt)
  good_literal (Some at) c units h = h

  pub own_law : StoreLaw OwnAlone (Reachable world.region.0 outside) world
  own_law = record {
    fresh = λ s q. inl refl;
    news = λ s body cost g q. in_own s (λ c. with_item c (live body) cost)
        (λ c p h. each_append (λ (item : Item). GoodBody (Reachable world.region.0 outside) item.body) c.items (live body ∷ []) h (g, tt)) q;
    literal_good = λ s units q. inl refl;
    literals = λ s units q. in_own s (λ c. after_literal c units) (λ c p h. good_literal (literal_at c units) c units h) q;
    counted = λ k s q. in_own s (λ c. record { items = c.items; elements = c.elements + k; literals = c.literals }) (λ c p h. h) q;
    inside = inside;
    arrays = λ s r make grows values q g cold is good. there_alone array_of make never_array s r grows values q g cold (read_in array_of s r (B.Array values) is) good;
    objects = λ s r make grows properties q g cold is good. there_alone properties_of make never_object s r grows properties q g cold (read_in properties_of s r (B.Object properties) is) good;
    boxes = λ s r v q g good cold. written_alone box_of (λ _. B.Box (Some v)) never_box s r q g cold (λ _. good);
    hooks = λ s r q g cold. written_alone hooks_of (λ n. B.Invalidation (n + 1)) never_hooks s r q g cold (λ _. tt);
    kepts = λ s r k q g cold. written_alone kept_of (λ _. B.Generator k) never_kept s r q g cold (λ _. tt);
  }
