-- What plain data becomes is sound.
use Rattle.std.proofs.Common.{◌≡◌, ◌⊎◌, ℕ, false, List, [], ◌∷◌, ◌++◌, ap, subst, ◌∙◌, sym, inl, inr, IsTrue, Result, Ok, Err, IfOk, OnOk, ◌+◌, ◌<◌, length, drop, get_or, map, add-one, rules}
use Rattle.std.proofs.lemmas.List.Elements.{Contains-append_cases, Contains-append_left, Contains-append_right, Contains-push_cases}
use Rattle.std.proofs.lemmas.List.Sums.{sum_by-cons}
use Rattle.std.proofs.Math.Seq.{drop-cons}
use Rattle.std.specs.List.{Contains}
use Rattle.std.specs.Prelude.{fold, sum}
use Rattle.ob_base.specs.PlainData.{elements, prop_elements}
use Rattle.ob_base.specs.declared.plain.Plain.{Plain, the_lemmas}
use Rattle.ob_base.specs.declared.plain.PlainProp.{PlainProp}
use Rattle.ob_items.specs.Properties.{Keyed, values_of, with_property}
use Rattle.ob_items.specs.declared.value.Value.{Value}
use Rattle.ob_items.specs.declared.value.Value.TheVariants as V
use Rattle.ob_items.specs.declared.value.Ref.{Ref}
use Rattle.ob_items.specs.declared.value.RegionKey.{RegionKey}
use Rattle.ob_items.specs.declared.item.Body.{Body}
use Rattle.ob_values.specs.Placed.{PlacedItems, PlacedProps, placed, placed_prop, add_item, add_prop}
use Rattle.ob_values.specs.Reach.{Reaches}
use Rattle.ob_values.specs.Sound.{Pointer, AsValue, has_sort, pointers_inside, pointers_of, leads_to, IsSound, AddsItem, AddsValues}
use Rattle.ob_values.specs.Store.{Store}
use Rattle.ob_values.proofs.PointerLemmas.{more, property_cases}
use Rattle.ob_values.proofs.ReachLemmas.{Reaches-root}
use Rattle.ob_values.proofs.RootLemmas.{IsSound-fewer}
use Rattle.ob_values.proofs.SeenLemmas.{Contains-cons_cases, Contains-cons, Contains-head}

pub AddsValues-none : (s n : Store) → n ≡ s → AddsValues s n []
AddsValues-none s n e roots sound = subst (λ m. IsSound m roots) (sym e) sound

-- one value more, beside those before it
module _ (s m n : Store) (before after : List Value) (value : Value)
    (among : (w : Value) → Contains after w → Contains before w ⊎ (value ≡ w)) where
  pub AddsValues-more : AddsValues s m before → AddsValues m n (value ∷ []) → AddsValues s n after
  AddsValues-more old new roots sound =
      IsSound-fewer n (pointers_of (value ∷ []) ++ (pointers_of before ++ roots)) (pointers_of after ++ roots) within (new (pointers_of before ++ roots) (old roots sound))
    where
      within : (p : Pointer) → Contains (pointers_of after ++ roots) p → Contains (pointers_of (value ∷ []) ++ (pointers_of before ++ roots)) p
      within p h =
          elim (Contains-append_cases (pointers_of after) roots p h) [
            | inl a ↦ elim (more after before value among p a) [
              | inl b ↦ Contains-append_right (pointers_of (value ∷ [])) (pointers_of before ++ roots) p (Contains-append_left (pointers_of before) roots p b)
              | inr v ↦ Contains-append_left (pointers_of (value ∷ [])) (pointers_of before ++ roots) p v
            ]
            | inr r ↦ Contains-append_right (pointers_of (value ∷ [])) (pointers_of before ++ roots) p (Contains-append_right (pointers_of before) roots p r)
          ]

pub AddsValues-push : (s m n : Store) (before : List Value) (value : Value) → AddsValues s m before → AddsValues m n (value ∷ []) → AddsValues s n (before ++ value ∷ [])
AddsValues-push s m n before value = AddsValues-more s m n before (before ++ value ∷ []) value (λ w. Contains-push_cases before value w)

pub AddsValues-property : (s m n : Store) (before : Keyed) (key : List ℕ) (value : Value) → AddsValues s m (values_of before) → AddsValues m n (value ∷ [])
    → AddsValues s n (values_of (with_property before key value))
AddsValues-property s m n before key value = AddsValues-more s m n (values_of before) (values_of (with_property before key value)) value (λ w. property_cases before key value w)

-- an item that holds these values
pub AddsValues-item : (s m n : Store) (values : List Value) (body : Body) (r : Ref) → IsTrue (has_sort AsValue body) → pointers_inside false body ≡ pointers_of values
    → AddsValues s m values → AddsItem m n body r → AddsValues s n (V.Ref r ∷ [])
AddsValues-item s m n values body r right inside old item roots sound =
    IsSound-fewer n ((AsValue, r) ∷ pointers_of values ++ roots) ((AsValue, r) ∷ roots) within
    (item AsValue right (pointers_of values ++ roots) reached (old roots sound))
  where
    reached : (p : Pointer) → Contains (pointers_inside false body) p → Reaches (leads_to m) (pointers_of values ++ roots) p
    reached p h = Reaches-root (leads_to m) (pointers_of values ++ roots) p (Contains-append_left (pointers_of values) roots p (subst (λ ps. Contains ps p) inside h))

    within : (p : Pointer) → Contains ((AsValue, r) ∷ roots) p → Contains ((AsValue, r) ∷ pointers_of values ++ roots) p
    within p h =
        elim (Contains-cons_cases (AsValue, r) roots p h) [
          | inl e ↦ Contains-head (AsValue, r) (pointers_of values ++ roots) p e
          | inr t ↦ Contains-cons (AsValue, r) (pointers_of values ++ roots) p (Contains-append_right (pointers_of values) roots p t)
        ]

-- the same, where the item may not have been made
pub AddsValues-made : {E : Type 0} (result : Result Value E) (s m n : Store) (values : List Value) (body : Body) (r : Ref) → IsTrue (has_sort AsValue body)
    → pointers_inside false body ≡ pointers_of values → AddsValues s m values → IfOk result (λ v. v ≡ V.Ref r) → OnOk result (AddsItem m n body r) → IfOk result (λ v. AddsValues s n (v ∷ []))
AddsValues-made (Ok v) s m n values body r right inside old is item = subst (λ x. AddsValues s n (x ∷ [])) (sym is) (AddsValues-item s m n values body r right inside old item)
AddsValues-made (Err e) s m n values body r right inside old is item = tt

-- ---- one item or property more

pub placed_prop-is : (key : RegionKey) (p : PlainProp) → placed_prop key p ≡ (p.key, placed key p.value)
placed_prop-is key p = search (rules, the_lemmas)

pub prop_elements-is : (p : PlainProp) → prop_elements p ≡ elements p.value
prop_elements-is p = search (rules, the_lemmas)

next : {X : Type 0} (xs : List X) (i : ℕ) (d : X) → i < length xs → drop i xs ≡ get_or xs i d ∷ drop (i + 1) xs
next xs i d l = drop-cons xs i d l ∙ ap (λ k. get_or xs i d ∷ drop k xs) (sym (add-one i))

pub item-more : (key : RegionKey) (items : List Plain) (i : ℕ) (d : Plain) (before after : PlacedItems) → i < length items → after ≡ add_item before (placed key (get_or items i d))
    → fold add_item after (map (placed key) (drop (i + 1) items)) ≡ fold add_item before (map (placed key) (drop i items))
item-more key items i d before after l e =
    ap (λ a. fold add_item a (map (placed key) (drop (i + 1) items))) e ∙ sym (ap (λ xs. fold add_item before (map (placed key) xs)) (next items i d l))

pub prop-more : (key : RegionKey) (props : List PlainProp) (i : ℕ) (d : PlainProp) (before after : PlacedProps) → i < length props → after ≡ add_prop before (placed_prop key (get_or props i d))
    → fold add_prop after (map (placed_prop key) (drop (i + 1) props)) ≡ fold add_prop before (map (placed_prop key) (drop i props))
prop-more key props i d before after l e =
    ap (λ a. fold add_prop a (map (placed_prop key) (drop (i + 1) props))) e ∙ sym (ap (λ xs. fold add_prop before (map (placed_prop key) xs)) (next props i d l))

pub sum-next : {X : Type 0} (f : X → ℕ) (xs : List X) (i : ℕ) (d : X) → i < length xs → sum (map f (drop i xs)) ≡ f (get_or xs i d) + sum (map f (drop (i + 1) xs))
sum-next f xs i d l = ap (λ ys. sum (map f ys)) (next xs i d l) ∙ sum_by-cons (λ n. n) (f (get_or xs i d)) (map f (drop (i + 1) xs))
