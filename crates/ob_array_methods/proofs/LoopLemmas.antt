-- One element, and one literal more.
use Rattle.std.proofs.Common.{◌≡◌, ◌∙◌, ◌++◌, ◌+◌, ◌<◌, ◌==◌, ℕ, zero, suc, Bool, true, Option, Some, None, IsSome, List, [], ◌∷◌, refl, ap, sym, subst, length, drop, get_or, slice_get, slice_set, arith, add-one, append_assoc, Result, Ok, Err, IfOk, OnOk, inl, inr}
use Rattle.std.proofs.Math.Seq.{drop-cons}
use Rattle.std.proofs.lemmas.List.Elements.{Contains-append_cases, Contains-append_left, Contains-append_right}
use Rattle.std.proofs.lemmas.Bool.Decides.{nat_tests}
use Rattle.std.specs.Prelude.{fold, unwrap_or, if◌then◌else◌}
use Rattle.std.specs.List.{Contains}
use Rattle.std.specs.Option.{option_map_or}
use Rattle.ob_items.proofs.ListLemmas.{slice_get-set_same}
use Rattle.ob_items.specs.Bodies.{array_of}
use Rattle.ob_items.specs.Items.{at_item, is_frozen_at, with_body, with_element}
use Rattle.ob_items.specs.Properties.{Keyed, keys_of}
use Rattle.ob_items.specs.Region.{Cells, rewritten, after_literal, with_literal, literal_at}
use Rattle.ob_items.specs.declared.error.OpError.{OpError}
use Rattle.ob_items.specs.declared.item.Body.{Body}
use Rattle.ob_items.specs.declared.item.Body.TheVariants as B
use Rattle.ob_items.specs.Item.{Item}
use Rattle.ob_items.specs.declared.value.Ref.{Ref}
use Rattle.ob_items.specs.declared.value.RegionKey.{RegionKey}
use Rattle.ob_items.specs.declared.value.Value.{Value}
use Rattle.ob_items.specs.declared.value.Value.TheVariants as V
use Rattle.ob_values.specs.ArrayMethods.{elements_at, appended}
use Rattle.ob_values.specs.Effects.{Effect, Answers, answer_of, argument, gives_array, or_bad}
use Rattle.ob_values.specs.ObjectFunctions.{literals, with_literals, object_in, object_keys}
use Rattle.ob_values.specs.Operators.{AddsValue, limited}
use Rattle.ob_values.proofs.EffectLemmas.{answers-refused}
use Rattle.ob_values.specs.Reach.{Reaches}
use Rattle.ob_values.specs.Sound.{Pointer, AsValue, leads_to, pointers_of, KeepsSound, AddsItem, AddsValues}
use Rattle.ob_values.specs.Store.{Store, region_of, read_item, count_in, written, with_region, elements_in, IsOpen, literal_ref, with_literal_in}
use Rattle.ob_values.specs.declared.done.Done.{Done}
use Rattle.ob_values.proofs.PlacedLemmas.{AddsValues-push, AddsValues-item}
use Rattle.ob_values.proofs.ReachLemmas.{Reaches-root}
use Rattle.ob_values.proofs.RootLemmas.{IsSound-reached, IsSound-fewer}
use Rattle.ob_values.proofs.SeenLemmas.{Contains-none, Contains-cons, Contains-head}
use Rattle.ob_values.proofs.StoreLemmas.{region_of-with_region_same}
use Rattle.ob_array_methods.proofs.ResultLemmas.{pointer_in}

next : {X : Type 0} (xs : List X) (i : ℕ) (d : X) → i < length xs → drop i xs ≡ get_or xs i d ∷ drop (i + 1) xs
next xs i d l = drop-cons xs i d l ∙ ap (λ k. get_or xs i d ∷ drop k xs) (sym (add-one i))

-- ---- appending

count_body : (o : Option (List Value)) → option_map_or length o 0 ≡ length (unwrap_or o [])
count_body None = refl
count_body (Some values) = refl

count_by : (o : Option Cells) (at : ℕ) → option_map_or (λ c. option_map_or length (at_item array_of c.items at) 0) o 0 ≡ length (unwrap_or (option_map_or (λ c. at_item array_of c.items at) o None) [])
count_by None at = refl
count_by (Some c) at = count_body (at_item array_of c.items at)

pub count-is : (s : Store) (r : Ref) → count_in s r ≡ length (elements_at s r)
count-is s r = count_by (region_of s r.region.0) r.item

same : (n : ℕ) → (n == n) ≡ true
same n = grind (arith, nat_tests)

-- a write at the length appends
pub appended-is : (s n : Store) (r : Ref) (index : ℕ) (value : Value) → index ≡ length (elements_at s r) → n ≡ written array_of (with_element index value) s r (index == count_in s r) → n ≡ appended r s value
appended-is s n r index value at e =
    let is : index ≡ count_in s r = at ∙ sym (count-is s r) in
    e ∙ ap (λ k. written array_of (with_element k value) s r (k == count_in s r)) is ∙ ap (written array_of (with_element (count_in s r) value) s r) (same (count_in s r))

-- a write leaves an array an array
module _ (g : List Value → List Value) (at : ℕ) where
  array_body : (b : Body) → IsSome (array_of b) → IsSome (option_map_or (λ x. array_of (B.Array (g x))) (array_of b) None)
  array_body (B.Array values) h = refl
  array_body _ h = h

  changed_item : (items : List Item) (o : Option Item) → slice_get items at ≡ o → IsSome (option_map_or (λ item. array_of item.body) o None)
      → IsSome (at_item array_of (option_map_or (λ x. with_body items at (B.Array (g x))) (option_map_or (λ item. array_of item.body) o None) items) at)
  changed_item items None e h = absurd cc
  changed_item items (Some item) e h = by (array_of item.body) h
    where
      by : (x : Option (List Value)) → IsSome x → IsSome (at_item array_of (option_map_or (λ y. with_body items at (B.Array (g y))) x items) at)
      by None k = absurd cc
      by (Some values) k =
          subst (λ o. IsSome (option_map_or (λ i. array_of i.body) o None))
          (sym (slice_get-set_same items at (record { frozen = is_frozen_at items at; body = B.Array (g values) }) item e)) refl

pub written-array : (s n : Store) (r : Ref) (g : List Value → List Value) (grows : Bool) → IsSome (read_item array_of s r) → n ≡ written array_of (λ values. B.Array (g values)) s r grows → IsSome (read_item array_of n r)
written-array s n r g grows there e = subst (λ m. IsSome (read_item array_of m r)) (sym e) (by (region_of s r.region.0) refl there)
  where
    by : (o : Option Cells) → region_of s r.region.0 ≡ o → IsSome (option_map_or (λ c. at_item array_of c.items r.item) o None)
        → IsSome (read_item array_of (option_map_or (λ c. with_region s r.region.0 (rewritten array_of (λ values. B.Array (g values)) c r.item grows)) o s) r)
    by None f h = absurd cc
    by (Some c) f h =
        subst (λ o. IsSome (option_map_or (λ d. at_item array_of d.items r.item) o None))
        (sym (region_of-with_region_same s r.region.0 (rewritten array_of (λ values. B.Array (g values)) c r.item grows) c f))
        (changed_item g r.item c.items (slice_get c.items r.item) refl h)

pub element-array : (s n : Store) (r : Ref) (index : ℕ) (value : Value) (grows : Bool) → IsSome (read_item array_of s r) → n ≡ written array_of (with_element index value) s r grows → IsSome (read_item array_of n r)
element-array s n r index value grows = written-array s n r (λ values. if index == length values then values ++ value ∷ [] else slice_set values index value) grows

pub append-more : (r : Ref) (values : List Value) (i : ℕ) (d : Value) (before after : Store) → i < length values → after ≡ appended r before (get_or values i d)
    → fold (appended r) after (drop (i + 1) values) ≡ fold (appended r) before (drop i values)
append-more r values i d before after l e =
    ap (λ m. fold (appended r) m (drop (i + 1) values)) e ∙ sym (ap (λ xs. fold (appended r) before xs) (next values i d l))

-- one step more, with a value that is among those used
pub keeps-more : (s m n : Store) (values : List Value) (v : Value) → Contains values v → KeepsSound s m (pointers_of values) → KeepsSound m n (pointers_of (v ∷ [])) → KeepsSound s n (pointers_of values)
keeps-more s m n values v among first second roots reached sound =
    IsSound-fewer n (pointers_of values ++ roots) roots (λ p h. Contains-append_right (pointers_of values) roots p h)
    (second (pointers_of values ++ roots) (λ p h. Reaches-root _ (pointers_of values ++ roots) p (Contains-append_left (pointers_of values) roots p (pointer_in values v p among h)))
    (first (pointers_of values ++ roots) (λ p h. Reaches-root _ (pointers_of values ++ roots) p (Contains-append_left (pointers_of values) roots p h))
    (IsSound-reached s roots (pointers_of values ++ roots) all sound)))
  where
    all : (p : Pointer) → Contains (pointers_of values ++ roots) p → Reaches (leads_to s) roots p
    all p h = elim (Contains-append_cases (pointers_of values) roots p h) [ inl u ↦ reached p u | inr r ↦ Reaches-root _ roots p r ]

-- ---- literals

pub with_literal_in-opened : (s n : Store) (key : RegionKey) (units : List ℕ) → IsOpen s key → n ≡ with_literal_in s key units → IsOpen n key
with_literal_in-opened s n key units there e = subst (λ m. IsOpen m key) (sym e) (by (region_of s key.0) refl there)
  where
    by : (o : Option Cells) → region_of s key.0 ≡ o → IsSome o → IsOpen (option_map_or (λ c. with_region s key.0 (after_literal c units)) o s) key
    by None f h = absurd cc
    by (Some c) f h = subst IsSome (sym (region_of-with_region_same s key.0 (after_literal c units) c f)) refl

pub literals-more : (region : RegionKey) (texts : List (List ℕ)) (i : ℕ) (d : List ℕ) (s n : Store) (values more : List Value) → i < length texts
    → n ≡ with_literal_in s region (get_or texts i d) → more ≡ values ++ V.Ref (literal_ref s region (get_or texts i d)) ∷ []
    → more ++ literals region n (drop (i + 1) texts) ≡ values ++ literals region s (drop i texts)
literals-more region texts i d s n values more l e f =
    (λ k. f k ++ literals region (e k) (drop (i + 1) texts))
    ∙ append_assoc values (V.Ref (literal_ref s region (get_or texts i d)) ∷ []) (literals region (with_literal_in s region (get_or texts i d)) (drop (i + 1) texts))
    ∙ ap (λ xs. values ++ literals region s xs) (sym (next texts i d l))

pub with_literals-more : (region : RegionKey) (texts : List (List ℕ)) (i : ℕ) (d : List ℕ) (s n : Store) → i < length texts → n ≡ with_literal_in s region (get_or texts i d)
    → with_literals region n (drop (i + 1) texts) ≡ with_literals region s (drop i texts)
with_literals-more region texts i d s n l e =
    ap (λ m. with_literals region m (drop (i + 1) texts)) e ∙ ap (λ xs. with_literals region s xs) (sym (next texts i d l))

pub adds-literal : (s m n : Store) (values more : List Value) (units : List ℕ) (r : Ref) → more ≡ values ++ V.Ref r ∷ [] → AddsValues s m values → AddsItem m n (B.Text units) r → AddsValues s n more
adds-literal s m n values more units r e old item =
    subst (AddsValues s n) (sym e) (AddsValues-push s m n values (V.Ref r) old (λ roots sound. item AsValue refl roots (λ p h. absurd (Contains-none p h)) sound))

-- a new array of values that were made before
pub adds-listed : (result : Result Done OpError) (s m n : Store) (r : Ref) (used : List Pointer) (values : List Value) → IfOk result (λ done. done ≡ record { value = V.Ref r; steps = 0 })
    → OnOk result (AddsItem m n (B.Array values) r) → AddsValues s m values → IfOk result (λ done. AddsValue s n used done.value)
adds-listed (Err e) s m n r used values is item old = tt
adds-listed (Ok done) s m n r used values is item old =
    subst (λ (d : Done). AddsValue s n used d.value) (sym is) (λ roots reached sound. AddsValues-item s m n values (B.Array values) r refl refl old item roots sound)

pub Contains-get_or : {X : Type 0} (xs : List X) (i : ℕ) (d : X) → i < length xs → Contains xs (get_or xs i d)
Contains-get_or [] i d l = absurd (omega arith)
Contains-get_or (x ∷ xs) zero d l = Contains-head x xs x refl
Contains-get_or (x ∷ xs) (suc i) d l = Contains-cons x xs (get_or xs i d) (Contains-get_or xs i d (omega arith))

literal_elements : (c : Cells) (units : List ℕ) (o : Option ℕ) → (option_map_or (λ at. c) o (with_literal c units)).elements ≡ c.elements
literal_elements c units None = refl
literal_elements c units (Some at) = refl

pub with_literal_in-elements : (s n : Store) (key : RegionKey) (units : List ℕ) → IsOpen s key → n ≡ with_literal_in s key units → elements_in n key ≡ elements_in s key
with_literal_in-elements s n key units there e = ap (λ m. elements_in m key) e ∙ by (region_of s key.0) refl there
  where
    by : (o : Option Cells) → region_of s key.0 ≡ o → IsSome o → elements_in (option_map_or (λ c. with_region s key.0 (after_literal c units)) o s) key ≡ elements_in s key
    by None f h = absurd cc
    by (Some c) f h =
        ap (λ o. option_map_or (λ d. d.elements) o 0) (region_of-with_region_same s key.0 (after_literal c units) c f) ∙ literal_elements c units (literal_at c units)
        ∙ sym (ap (λ o. option_map_or (λ d. d.elements) o 0) f)

pub length-literals : (region : RegionKey) (s : Store) (texts : List (List ℕ)) → length (literals region s texts) ≡ length texts
length-literals region s [] = refl
length-literals region s (units ∷ texts) = ap suc (length-literals region (with_literal_in s region units) texts)

-- the limits of `Object.keys`, by the number of the keys
pub keys-refused : (s : Store) (left : ℕ) (region : RegionKey) (args : List Value) (o : Keyed) (names : List (List ℕ)) (charged : Result (Unit {0}) OpError) (fault : OpError)
    → object_in s (argument args 0) ≡ Some o → names ≡ keys_of o → charged ≡ limited {X = Unit {0}} (elements_in s region) left (1 + length names) 0 tt → charged ≡ Err fault
    → Answers (Err fault) (answer_of s left (object_keys s region args))
keys-refused s left region args o names charged fault object keys test is =
    answers-refused s left (object_keys s region args) effect region (1 + length names) 0 fault
    (ap (λ v. or_bad v (λ k. Ok (gives_array (with_literals region s (keys_of k)) region (literals region s (keys_of k))))) object)
    (record {
      is = sym is ∙ test;
      region_is = refl;
      made_is = ap (λ n. 1 + n) (ap length keys ∙ sym (length-literals region s (keys_of o)));
      steps_is = refl;
    })
  where
    effect : Effect
    effect = gives_array (with_literals region s (keys_of o)) region (literals region s (keys_of o))
