-- What the results of methods lead to: values that were reached before, and new items.
use Rattle.std.proofs.Common.{◌≡◌, ℕ, zero, suc, Bool, Option, Some, None, List, [], ◌∷◌, ◌++◌, refl, sym, subst, inl, inr, slice_get, take, drop, Result, Ok, Err, IfOk, OnOk}
use Rattle.std.proofs.lemmas.List.Elements.{Contains-append_cases}
use Rattle.std.specs.Prelude.{unwrap_or}
use Rattle.std.specs.List.{Contains, slice_range}
use Rattle.std.specs.Option.{option_map_or}
use Rattle.ob_items.specs.Bodies.{array_of, properties_of}
use Rattle.ob_items.specs.Items.{at_item}
use Rattle.ob_items.specs.Properties.{Keyed, values_of}
use Rattle.ob_items.specs.Region.{Cells}
use Rattle.ob_items.specs.declared.error.OpError.{OpError}
use Rattle.ob_items.specs.declared.item.Body.{Body}
use Rattle.ob_items.specs.declared.item.Body.TheVariants as B
use Rattle.ob_items.specs.Item.{Item}
use Rattle.ob_items.specs.declared.value.Ref.{Ref}
use Rattle.ob_items.specs.declared.value.Value.{Value}
use Rattle.ob_items.specs.declared.value.Value.TheVariants as V
use Rattle.ob_values.specs.ArrayMethods.{elements_at}
use Rattle.ob_values.specs.Effects.{argument}
use Rattle.ob_values.specs.Operators.{AddsValue}
use Rattle.ob_values.specs.ObjectFunctions.{object_in}
use Rattle.ob_values.specs.Reach.{Reaches}
use Rattle.ob_values.specs.Sound.{Pointer, AsValue, pointers_inside, pointers_from, pointers_of, leads_to, KeepsSound, AddsItem}
use Rattle.ob_values.specs.Store.{Store, region_of, read_item}
use Rattle.ob_values.specs.declared.done.Done.{Done}
use Rattle.ob_values.proofs.PointerLemmas.{from_values, to_values}
use Rattle.ob_values.proofs.ReachLemmas.{Reaches-root, Reaches-step}
use Rattle.ob_values.proofs.RootLemmas.{IsSound-reached}
use Rattle.ob_values.proofs.SeenLemmas.{Contains-at, Contains-cons_cases, Contains-cons, Contains-head, Contains-none}

-- the pointer is reached wherever these are
abbrev pub IsLed : Store → List Pointer → Pointer → Type 0
IsLed s used q = (roots : List Pointer) → ((p : Pointer) → Contains used p → Reaches (leads_to s) roots p) → Reaches (leads_to s) roots q

-- ---- values that were there

-- a store that keeps what is sound, and a value that is reached
pub adds-reached : (s n : Store) (used : List Pointer) (value : Value) → KeepsSound s n [] → ((q : Pointer) → Contains (pointers_of (value ∷ [])) q → IsLed s used q) → AddsValue s n used value
adds-reached s n used value kept led roots reached sound =
    kept (pointers_of (value ∷ []) ++ roots) (λ p h. absurd (Contains-none p h)) (IsSound-reached s roots (pointers_of (value ∷ []) ++ roots) all sound)
  where
    all : (p : Pointer) → Contains (pointers_of (value ∷ []) ++ roots) p → Reaches (leads_to s) roots p
    all p h =
        elim (Contains-append_cases (pointers_of (value ∷ [])) roots p h) [
          | inl v ↦ led p v roots reached
          | inr r ↦ Reaches-root (leads_to s) roots p r
        ]

-- a pointer among the values, by the value that holds it
pub pointer_in : (values : List Value) (v : Value) (q : Pointer) → Contains values v → Contains (pointers_of (v ∷ [])) q → Contains (pointers_of values) q
pointer_in values v q among h =
    let t = from_values (v ∷ []) q h in
    elim (Contains-cons_cases v [] t.0 t.1) [
      | inl e ↦ to_values values t.0 q (subst (Contains values) e among) t.2
      | inr n ↦ absurd (Contains-none t.0 n)
    ]

inside_array : (f : Bool) (b : Body) (q : Pointer) → Contains (pointers_of (unwrap_or (array_of b) [])) q → Contains (pointers_inside f b) q
inside_array f (B.Array values) q h = h
inside_array f _ q h = absurd (Contains-none q h)

at_array : (o : Option Item) (q : Pointer) → Contains (pointers_of (unwrap_or (option_map_or (λ item. array_of item.body) o None) [])) q → Contains (pointers_from o) q
at_array None q h = h
at_array (Some item) q h = inside_array item.frozen item.body q h

in_array : (o : Option Cells) (at : ℕ) (q : Pointer) → Contains (pointers_of (unwrap_or (option_map_or (λ c. at_item array_of c.items at) o None) [])) q
    → Contains (pointers_from (option_map_or (λ c. slice_get c.items at) o None)) q
in_array None at q h = h
in_array (Some c) at q h = at_array (slice_get c.items at) q h

-- an array leads to its elements
pub element_led : (s : Store) (r : Ref) (q : Pointer) → Contains (pointers_of (elements_at s r)) q → IsLed s ((AsValue, r) ∷ []) q
element_led s r q h roots reached =
    Reaches-step (leads_to s) roots (AsValue, r) q (reached (AsValue, r) (Contains-head (AsValue, r) [] (AsValue, r) refl)) (in_array (region_of s r.region.0) r.item q h)

inside_object : (f : Bool) (b : Body) (o : Keyed) (q : Pointer) → properties_of b ≡ Some o → Contains (pointers_of (values_of o)) q → Contains (pointers_inside f b) q
inside_object f (B.Object properties) o q e h = let same : o ≡ properties = cc in subst (λ k. Contains (pointers_of (values_of k)) q) same h
inside_object f _ o q e h = absurd cc

at_object : (x : Option Item) (o : Keyed) (q : Pointer) → option_map_or (λ item. properties_of item.body) x None ≡ Some o → Contains (pointers_of (values_of o)) q → Contains (pointers_from x) q
at_object None o q e h = absurd cc
at_object (Some item) o q e h = inside_object item.frozen item.body o q e h

in_object : (x : Option Cells) (at : ℕ) (o : Keyed) (q : Pointer) → option_map_or (λ c. at_item properties_of c.items at) x None ≡ Some o → Contains (pointers_of (values_of o)) q
    → Contains (pointers_from (option_map_or (λ c. slice_get c.items at) x None)) q
in_object None at o q e h = absurd cc
in_object (Some c) at o q e h = at_object (slice_get c.items at) o q e h

argument_in : (args : List Value) (q : Pointer) → Contains (pointers_of (argument args 0 ∷ [])) q → Contains (pointers_of args) q
argument_in [] q h = absurd (Contains-none q h)
argument_in (a ∷ args) q h = pointer_in (a ∷ args) a q (Contains-head a args a refl) h

object_by : (s : Store) (args : List Value) (v : Value) (o : Keyed) (q : Pointer) → argument args 0 ≡ v → object_in s v ≡ Some o → Contains (pointers_of (values_of o)) q → IsLed s (pointers_of args) q
object_by s args (V.Ref r) o q first e h roots reached =
    Reaches-step (leads_to s) roots (AsValue, r) q
    (reached (AsValue, r) (argument_in args (AsValue, r) (subst (λ v. Contains (pointers_of (v ∷ [])) (AsValue, r)) (sym first) (Contains-head (AsValue, r) [] (AsValue, r) refl))))
    (in_object (region_of s r.region.0) r.item o q e h)
object_by s args _ o q first e h roots reached = absurd cc

-- an object that is the first argument leads to its values
pub value_led : (s : Store) (args : List Value) (o : Keyed) (q : Pointer) → object_in s (argument args 0) ≡ Some o → Contains (pointers_of (values_of o)) q → IsLed s (pointers_of args) q
value_led s args o q e h = object_by s args (argument args 0) o q refl e h

-- an element of an array, or undefined
taken_in : (x : Option (List Value)) (k : List Value → ℕ) (q : Pointer) → Contains (pointers_of (unwrap_or (option_map_or (λ values. slice_get values (k values)) x None) V.Undefined ∷ [])) q
    → Contains (pointers_of (unwrap_or x [])) q
taken_in None k q h = absurd (Contains-none q h)
taken_in (Some values) k q h = by (slice_get values (k values)) refl h
  where
    by : (o : Option Value) → slice_get values (k values) ≡ o → Contains (pointers_of (unwrap_or o V.Undefined ∷ [])) q → Contains (pointers_of values) q
    by None e g = absurd (Contains-none q g)
    by (Some v) e g = pointer_in values v q (Contains-at values (k values) v e) g

-- what is taken out of an array
pub adds-taken : (s n : Store) (r : Ref) (k : List Value → ℕ) (value : Value) → KeepsSound s n [] → value ≡ unwrap_or (option_map_or (λ values. slice_get values (k values)) (read_item array_of s r) None) V.Undefined
    → AddsValue s n ((AsValue, r) ∷ []) value
adds-taken s n r k value kept e =
    adds-reached s n ((AsValue, r) ∷ []) value kept (λ q h. element_led s r q (taken_in (read_item array_of s r) k q (subst (λ v. Contains (pointers_of (v ∷ [])) q) e h)))

-- the array itself
pub adds-itself : (s n : Store) (r : Ref) → KeepsSound s n [] → AddsValue s n ((AsValue, r) ∷ []) (V.Ref r)
adds-itself s n r kept = adds-reached s n ((AsValue, r) ∷ []) (V.Ref r) kept (λ q h roots reached. reached q h)

-- ---- new arrays

pub adds-array : (result : Result Done OpError) (s n : Store) (r : Ref) (used : List Pointer) (values : List Value) → IfOk result (λ done. done ≡ record { value = V.Ref r; steps = 0 })
    → OnOk result (AddsItem s n (B.Array values) r) → ((q : Pointer) → Contains (pointers_of values) q → IsLed s used q) → IfOk result (λ done. AddsValue s n used done.value)
adds-array (Err e) s n r used values is item led = tt
adds-array (Ok done) s n r used values is item led =
    subst (λ (d : Done). AddsValue s n used d.value) (sym is) (λ roots reached sound. item AsValue refl roots (λ p h. led p h roots reached) sound)

from_take : (i : ℕ) (xs : List Value) (w : Value) → Contains (take i xs) w → Contains xs w
from_take zero xs w h = absurd (Contains-none w h)
from_take (suc i) [] w h = absurd (Contains-none w h)
from_take (suc i) (x ∷ xs) w h = elim (Contains-cons_cases x (take i xs) w h) [ inl e ↦ Contains-head x xs w e | inr t ↦ Contains-cons x xs w (from_take i xs w t) ]

from_drop : (i : ℕ) (xs : List Value) (w : Value) → Contains (drop i xs) w → Contains xs w
from_drop zero xs w h = h
from_drop (suc i) [] w h = absurd (Contains-none w h)
from_drop (suc i) (x ∷ xs) w h = Contains-cons x xs w (from_drop i xs w h)

-- a part of an array leads to nothing else
pub part_led : (s : Store) (r : Ref) (values : List Value) (from to : ℕ) (q : Pointer) → values ≡ slice_range (elements_at s r) from to → Contains (pointers_of values) q → IsLed s ((AsValue, r) ∷ []) q
part_led s r values from to q e h =
    let t = from_values (slice_range (elements_at s r) from to) q (subst (λ vs. Contains (pointers_of vs) q) e h) in
    element_led s r q (to_values (elements_at s r) t.0 q (from_drop from (elements_at s r) t.0 (from_take _ (drop from (elements_at s r)) t.0 t.1)) t.2)
