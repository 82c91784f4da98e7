-- Arrays of two, one for each property.
use Rattle.std.proofs.Common.{◌≡◌, ◌∙◌, ◌++◌, ◌+◌, ◌*◌, ◌<◌, ℕ, arith, suc, Some, List, [], ◌∷◌, refl, ap, sym, subst, length, drop, get_or, add-one, append_assoc, Result, Ok, Err, IfOk, OnOk, inl, inr, map}
use Rattle.std.proofs.Math.Seq.{drop-cons}
use Rattle.std.proofs.lemmas.List.{map-append}
use Rattle.std.proofs.lemmas.List.Elements.{Contains-append_cases, Contains-append_left, Contains-append_right, Contains-get_or}
use Rattle.std.specs.List.{Contains}
use Rattle.ob_array_methods.specs.Pairs.{AddsMade}
use Rattle.ob_items.specs.Items.{live}
use Rattle.ob_items.specs.Properties.{Keyed, entries_of, values_of, index_entry, named_entry}
use Rattle.ob_items.specs.declared.error.OpError.{OpError}
use Rattle.ob_items.specs.declared.item.Body.TheVariants as B
use Rattle.ob_items.specs.declared.properties.Property.{Property}
use Rattle.ob_items.specs.declared.value.Ref.{Ref}
use Rattle.ob_items.specs.declared.value.RegionKey.{RegionKey}
use Rattle.ob_items.specs.declared.value.Value.{Value}
use Rattle.ob_items.specs.declared.value.Value.TheVariants as V
use Rattle.ob_values.specs.Effects.{Effect, Answers, answer_of, argument, gives_array, or_bad, with_parts}
use Rattle.ob_values.specs.ObjectFunctions.{object_entries, object_in, pairs, with_pair, with_pairs}
use Rattle.ob_values.specs.Operators.{AddsValue, limited}
use Rattle.ob_values.specs.Reach.{Reaches}
use Rattle.ob_values.specs.Sound.{Pointer, AsValue, leads_to, pointers_of, IsSound, AddsItem}
use Rattle.ob_values.specs.Store.{Store, IsOpen, elements_in, next_ref, literal_ref, with_literal_in}
use Rattle.ob_values.specs.declared.done.Done.{Done}
use Rattle.ob_values.proofs.EffectLemmas.{answers-refused}
use Rattle.ob_values.proofs.PointerLemmas.{from_values, to_values}
use Rattle.ob_values.proofs.ReachLemmas.{Reaches-root}
use Rattle.ob_values.proofs.RootLemmas.{IsSound-reached, IsSound-fewer}
use Rattle.ob_values.proofs.SeenLemmas.{Contains-none, Contains-cons, Contains-cons_cases, Contains-head}
use Rattle.ob_values.proofs.StoreLemmas.{with_new-open, with_new-elements}
use Rattle.ob_array_methods.proofs.LoopLemmas.{with_literal_in-opened, with_literal_in-elements}
use Rattle.ob_array_methods.proofs.ResultLemmas.{IsLed, pointer_in, value_led}

next : {X : Type 0} (xs : List X) (i : ℕ) (d : X) → i < length xs → drop i xs ≡ get_or xs i d ∷ drop (i + 1) xs
next xs i d l = drop-cons xs i d l ∙ ap (λ k. get_or xs i d ∷ drop k xs) (sym (add-one i))

-- ---- one pair

pub with_pair-opened : (s n : Store) (region : RegionKey) (p : Property) → IsOpen s region → n ≡ with_pair region s p → IsOpen n region
with_pair-opened s n region p opened e =
    subst (λ m. IsOpen m region) (sym e)
    (with_new-open (with_literal_in s region p.key) region (live (B.Array (V.Ref (literal_ref s region p.key) ∷ p.value ∷ []))) 3
    (with_literal_in-opened s (with_literal_in s region p.key) region p.key opened refl))

pub with_pair-elements : (s n : Store) (region : RegionKey) (p : Property) → IsOpen s region → n ≡ with_pair region s p → elements_in n region ≡ elements_in s region + 3
with_pair-elements s n region p opened e =
    ap (λ m. elements_in m region) e
    ∙ with_new-elements (with_literal_in s region p.key) region (live (B.Array (V.Ref (literal_ref s region p.key) ∷ p.value ∷ []))) 3
    (with_literal_in-opened s (with_literal_in s region p.key) region p.key opened refl)
    ∙ ap (λ k. k + 3) (with_literal_in-elements s (with_literal_in s region p.key) region p.key opened refl)

-- a literal and a value in a new array
pub adds-pair : (s m n : Store) (units : List ℕ) (key r : Ref) (value : Value) → AddsItem s m (B.Text units) key → AddsItem m n (B.Array (V.Ref key ∷ value ∷ [])) r
    → AddsValue s n (pointers_of (value ∷ [])) (V.Ref r)
adds-pair s m n units key r value text item roots reached sound =
    IsSound-fewer n ((AsValue, r) ∷ more) ((AsValue, r) ∷ roots) fewer (item AsValue refl more (λ p h. Reaches-root (leads_to m) more p (inside p h)) keyed)
  where
    held : List Pointer
    held = pointers_of (value ∷ []) ++ roots

    more : List Pointer
    more = (AsValue, key) ∷ held

    all : (p : Pointer) → Contains held p → Reaches (leads_to s) roots p
    all p h = elim (Contains-append_cases (pointers_of (value ∷ [])) roots p h) [ inl v ↦ reached p v | inr o ↦ Reaches-root (leads_to s) roots p o ]

    keyed : IsSound m more
    keyed = text AsValue refl held (λ p h. absurd (Contains-none p h)) (IsSound-reached s roots held all sound)

    inside : (p : Pointer) → Contains ((AsValue, key) ∷ pointers_of (value ∷ [])) p → Contains more p
    inside p h = elim (Contains-cons_cases (AsValue, key) (pointers_of (value ∷ [])) p h) [
      | inl e ↦ Contains-head (AsValue, key) held p e
      | inr t ↦ Contains-cons (AsValue, key) held p (Contains-append_left (pointers_of (value ∷ [])) roots p t)
    ]

    fewer : (p : Pointer) → Contains ((AsValue, r) ∷ roots) p → Contains ((AsValue, r) ∷ more) p
    fewer p h = elim (Contains-cons_cases (AsValue, r) roots p h) [
      | inl e ↦ Contains-head (AsValue, r) more p e
      | inr t ↦ Contains-cons (AsValue, r) more p (Contains-cons (AsValue, key) held p (Contains-append_right (pointers_of (value ∷ [])) roots p t))
    ]

-- ---- one pair more

pub pairs-more : (region : RegionKey) (properties : List Property) (i : ℕ) (d : Property) (s n : Store) (values more : List Value) → i < length properties
    → n ≡ with_pair region s (get_or properties i d) → more ≡ values ++ V.Ref (next_ref (with_literal_in s region (get_or properties i d).key) region) ∷ []
    → more ++ pairs region n (drop (i + 1) properties) ≡ values ++ pairs region s (drop i properties)
pairs-more region properties i d s n values more l e f =
    (λ k. f k ++ pairs region (e k) (drop (i + 1) properties))
    ∙ append_assoc values (V.Ref (next_ref (with_literal_in s region (get_or properties i d).key) region) ∷ []) (pairs region (with_pair region s (get_or properties i d)) (drop (i + 1) properties))
    ∙ ap (λ xs. values ++ pairs region s xs) (sym (next properties i d l))

pub with_pairs-more : (region : RegionKey) (properties : List Property) (i : ℕ) (d : Property) (s n : Store) → i < length properties → n ≡ with_pair region s (get_or properties i d)
    → with_pairs region n (drop (i + 1) properties) ≡ with_pairs region s (drop i properties)
with_pairs-more region properties i d s n l e =
    ap (λ m. with_pairs region m (drop (i + 1) properties)) e ∙ ap (λ xs. with_pairs region s xs) (sym (next properties i d l))

pub length-pairs : (region : RegionKey) (s : Store) (properties : List Property) → length (pairs region s properties) ≡ length properties
length-pairs region s [] = refl
length-pairs region s (p ∷ properties) = ap suc (length-pairs region (with_pair region s p) properties)

-- ---- what is sound

pub made-none : (s : Store) (used : List Pointer) → AddsMade s s used []
made-none s used roots reached sound = sound

pub made-more : (s m n : Store) (used own : List Pointer) (values more : List Value) (value : Value) → ((p : Pointer) → Contains own p → Contains used p) → more ≡ values ++ value ∷ []
    → AddsMade s m used values → AddsValue m n own value → AddsMade s n used more
made-more s m n used own values more value within e old adds =
    subst (AddsMade s n used) (sym e) (λ roots reached sound.
    IsSound-fewer n (pointers_of (value ∷ []) ++ (pointers_of values ++ (used ++ roots))) (pointers_of (values ++ value ∷ []) ++ roots) (fewer roots)
    (adds (pointers_of values ++ (used ++ roots))
    (λ p h. Reaches-root (leads_to m) (pointers_of values ++ (used ++ roots)) p
    (Contains-append_right (pointers_of values) (used ++ roots) p (Contains-append_left used roots p (within p h))))
    (old (used ++ roots) (λ p h. Reaches-root (leads_to s) (used ++ roots) p (Contains-append_left used roots p h))
    (IsSound-reached s roots (used ++ roots) (all roots reached) sound))))
  where
    all : (roots : List Pointer) → ((p : Pointer) → Contains used p → Reaches (leads_to s) roots p) → (p : Pointer) → Contains (used ++ roots) p → Reaches (leads_to s) roots p
    all roots reached p h = elim (Contains-append_cases used roots p h) [ inl u ↦ reached p u | inr r ↦ Reaches-root (leads_to s) roots p r ]

    values_cases : (roots : List Pointer) (p : Pointer) (v : Value) → Contains (values ++ value ∷ []) v → Contains (pointers_of (v ∷ [])) p
        → Contains (pointers_of (value ∷ []) ++ (pointers_of values ++ (used ++ roots))) p
    values_cases roots p v c h = elim (Contains-append_cases values (value ∷ []) v c) [
      | inl o ↦ Contains-append_right (pointers_of (value ∷ [])) (pointers_of values ++ (used ++ roots)) p (Contains-append_left (pointers_of values) (used ++ roots) p (pointer_in values v p o h))
      | inr t ↦ Contains-append_left (pointers_of (value ∷ [])) (pointers_of values ++ (used ++ roots)) p (pointer_in (value ∷ []) v p t h)
    ]

    fewer : (roots : List Pointer) (p : Pointer) → Contains (pointers_of (values ++ value ∷ []) ++ roots) p → Contains (pointers_of (value ∷ []) ++ (pointers_of values ++ (used ++ roots))) p
    fewer roots p h = elim (Contains-append_cases (pointers_of (values ++ value ∷ [])) roots p h) [
      | inl a ↦ let t = from_values (values ++ value ∷ []) p a in values_cases roots p t.0 t.1 (to_values (t.0 ∷ []) t.0 p (Contains-head t.0 [] t.0 refl) t.2)
      | inr r ↦ Contains-append_right (pointers_of (value ∷ [])) (pointers_of values ++ (used ++ roots)) p
          (Contains-append_right (pointers_of values) (used ++ roots) p (Contains-append_right used roots p r))
    ]

Contains-map : {X Y : Type 0} (f : X → Y) (xs : List X) (x : X) → Contains xs x → Contains (map f xs) (f x)
Contains-map f [] x h = absurd (Contains-none x h)
Contains-map f (y ∷ xs) x h = elim (Contains-cons_cases y xs x h) [ inl e ↦ Contains-head (f y) (map f xs) (f x) (ap f e) | inr t ↦ Contains-cons (f y) (map f xs) (f x) (Contains-map f xs x t) ]

-- the value of a property is among those of all
pub value_among : (properties : List Property) (i : ℕ) (d : Property) (p : Pointer) → i < length properties → Contains (pointers_of ((get_or properties i d).value ∷ [])) p
    → Contains (pointers_of (map (λ (q : Property). q.value) properties)) p
value_among properties i d p l h =
    pointer_in (map (λ (q : Property). q.value) properties) (get_or properties i d).value p
    (Contains-map (λ (q : Property). q.value) properties (get_or properties i d) (Contains-get_or properties i d l)) h

index_values : (xs : List (ℕ × Value)) → map (λ (q : Property). q.value) (map index_entry xs) ≡ map (λ (e : ℕ × Value). e.1) xs
index_values [] = refl
index_values (x ∷ xs) = ap (λ ys. x.1 ∷ ys) (index_values xs)

named_values : (xs : List (List ℕ × Value)) → map (λ (q : Property). q.value) (map named_entry xs) ≡ map (λ (e : List ℕ × Value). e.1) xs
named_values [] = refl
named_values (x ∷ xs) = ap (λ ys. x.1 ∷ ys) (named_values xs)

entry_values : (o : Keyed) → map (λ (q : Property). q.value) (entries_of o) ≡ values_of o
entry_values o =
    map-append (λ (q : Property). q.value) (map index_entry o.indices) (map named_entry o.named)
    ∙ (λ k. index_values o.indices k ++ named_values o.named k)

-- a new array of arrays of two, of the properties of an object that is the first argument
pub adds-entries : (result : Result Done OpError) (s m n : Store) (r : Ref) (args : List Value) (o : Keyed) (properties : List Property) (values : List Value)
    → IfOk result (λ done. done ≡ record { value = V.Ref r; steps = 0 }) → OnOk result (AddsItem m n (B.Array values) r) → object_in s (argument args 0) ≡ Some o → properties ≡ entries_of o
    → AddsMade s m (pointers_of (map (λ (q : Property). q.value) properties)) values → IfOk result (λ done. AddsValue s n (pointers_of args) done.value)
adds-entries (Err e) s m n r args o properties values is item object entries made = tt
adds-entries (Ok done) s m n r args o properties values is item object entries made =
    subst (λ (d : Done). AddsValue s n (pointers_of args) d.value) (sym is) (λ roots reached sound.
    IsSound-fewer n ((AsValue, r) ∷ (pointers_of values ++ roots)) ((AsValue, r) ∷ roots) (fewer roots)
    (item AsValue refl (pointers_of values ++ roots) (λ p h. Reaches-root (leads_to m) (pointers_of values ++ roots) p (Contains-append_left (pointers_of values) roots p h))
    (made roots (λ p h. led p h roots reached) sound)))
  where
    led : (q : Pointer) → Contains (pointers_of (map (λ (q : Property). q.value) properties)) q → IsLed s (pointers_of args) q
    led q h = value_led s args o q object (subst (λ vs. Contains (pointers_of vs) q) (ap (map (λ (q : Property). q.value)) entries ∙ entry_values o) h)

    fewer : (roots : List Pointer) (p : Pointer) → Contains ((AsValue, r) ∷ roots) p → Contains ((AsValue, r) ∷ (pointers_of values ++ roots)) p
    fewer roots p h = elim (Contains-cons_cases (AsValue, r) roots p h) [
      | inl e ↦ Contains-head (AsValue, r) (pointers_of values ++ roots) p e
      | inr t ↦ Contains-cons (AsValue, r) (pointers_of values ++ roots) p (Contains-append_right (pointers_of values) roots p t)
    ]

-- ---- the limits of `Object.entries`, by the number of the properties
pub entries-refused : (s : Store) (left : ℕ) (region : RegionKey) (args : List Value) (o : Keyed) (properties : List Property) (count : ℕ) (charged : Result (Unit {0}) OpError) (fault : OpError)
    → object_in s (argument args 0) ≡ Some o → properties ≡ entries_of o → count ≡ length properties → charged ≡ limited {X = Unit {0}} (elements_in s region) left (4 * count + 1) 0 tt → charged ≡ Err fault
    → Answers (Err fault) (answer_of s left (object_entries s region args))
entries-refused s left region args o properties count charged fault object entries counted test is =
    answers-refused s left (object_entries s region args) effect region (4 * count + 1) 0 fault
    (ap (λ v. or_bad v (λ k. Ok (with_parts (3 * length (entries_of k)) (gives_array (with_pairs region s (entries_of k)) region (pairs region s (entries_of k)))))) object)
    (record {
      is = sym is ∙ test;
      region_is = refl;
      made_is = cost count (length (entries_of o)) (length (pairs region s (entries_of o))) (counted ∙ ap length entries) (length-pairs region s (entries_of o));
      steps_is = refl;
    })
  where
    effect : Effect
    effect = with_parts (3 * length (entries_of o)) (gives_array (with_pairs region s (entries_of o)) region (pairs region s (entries_of o)))

    cost : (a b c : ℕ) → a ≡ b → c ≡ b → 4 * a + 1 ≡ 3 * b + (1 + c)
    cost a b c e f = omega arith
