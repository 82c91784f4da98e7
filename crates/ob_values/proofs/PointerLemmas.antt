-- What the item that a call writes leads to.
use Rattle.std.proofs.Common.{◌≡◌, ◌⊎◌, ℕ, zero, suc, ◌+◌, ◌-◌, Bool, true, false, cond, Some, None, IsSome, List, [], ◌∷◌, ◌++◌, refl, ap, subst, ◌∙◌, sym, inl, inr, Option, length, slice_set, take, drop, remove, reverse, ◌==◌, nat_eq, map, Result, OnOk, OnErr}
use Rattle.std.proofs.lemmas.List.{reverse-append}
use Rattle.std.proofs.lemmas.Option.{none-some, same_Some}
use Rattle.std.proofs.lemmas.List.Elements.{Contains-append_cases, Contains-append_left, Contains-append_right, Contains-push_cases}
use Rattle.std.specs.declared.cmp.Ordering.{Ordering}
use Rattle.std.specs.declared.cmp.Ordering.TheVariants.{Less, Equal, Greater}
use Rattle.std.specs.Ordering.{nat_cmp, match_ordering}
use Rattle.std.specs.Option.{option_map_or}
use Rattle.std.specs.List.{Contains, cons_option}
use Rattle.std.specs.Cmp.Lexicographic.{pointwise}
use Rattle.std.specs.BTreeMap as tree
use Rattle.indexmap.specs.IndexMap as table
use Rattle.ob_items.specs.IndexText.{index_in}
use Rattle.ob_items.specs.Properties.{Keyed, values_of, with_property}
use Rattle.ob_items.specs.Bodies.{array_of, properties_of, box_of, hooks_of, kept_of, after_take, kept_from}
use Rattle.ob_items.specs.Items.{with_element}
use Rattle.ob_items.specs.declared.value.Value.{Value}
use Rattle.ob_items.specs.declared.value.Ref.{Ref}
use Rattle.ob_items.specs.declared.frame.Frame.{Frame}
use Rattle.ob_items.specs.declared.frame.Taken.{Taken}
use Rattle.ob_items.specs.declared.frame.Taken.TheVariants as T
use Rattle.ob_items.specs.declared.item.Body.{Body}
use Rattle.ob_items.specs.declared.item.Body.TheVariants as B
use Rattle.ob_values.specs.Store.{Store, read_item, written}
use Rattle.ob_values.specs.Sound.{Sort, AsValue, AsBox, AsText, AsInputs, AsInvalidation, Pointer, has_sort, pointers_inside, pointers_of, pointer_of, pointers_of_kept, KeepsSound}
use Rattle.ob_values.proofs.SeenLemmas.{Contains-cons_cases, Contains-cons, Contains-head, Contains-none}
use Rattle.ob_values.proofs.SoundLemmas.{KeepsSound-result, KeepsSound-written}

option_cases : {X : Type 0} (o : Option X) (xs : List X) (b : X) → Contains (cons_option o xs) b → (o ≡ Some b) ⊎ Contains xs b
option_cases None xs b h = inr h
option_cases (Some x) xs b h = elim (Contains-cons_cases x xs b h) [ inl e ↦ inl (ap Some e) | inr t ↦ inr t ]

option_head : {X : Type 0} (o : Option X) (xs : List X) (b : X) → o ≡ Some b → Contains (cons_option o xs) b
option_head None xs b e = absurd (none-some b e)
option_head (Some x) xs b e = Contains-head x xs b (same_Some x b e)

option_tail : {X : Type 0} (o : Option X) (xs : List X) (b : X) → Contains xs b → Contains (cons_option o xs) b
option_tail None xs b h = h
option_tail (Some x) xs b h = Contains-cons x xs b h

pub from_values : (xs : List Value) (q : Pointer) → Contains (pointers_of xs) q → (v : Value) × Contains xs v × (pointer_of v ≡ Some q)
from_values [] q h = absurd (Contains-none q h)
from_values (x ∷ xs) q h =
    elim (option_cases (pointer_of x) (pointers_of xs) q h) [
      | inl e ↦ (x, Contains-head x xs x refl, e)
      | inr t ↦ let u = from_values xs q t in (u.0, Contains-cons x xs u.0 u.1, u.2)
    ]

pub to_values : (xs : List Value) (v : Value) (q : Pointer) → Contains xs v → pointer_of v ≡ Some q → Contains (pointers_of xs) q
to_values [] v q h e = absurd (Contains-none v h)
to_values (x ∷ xs) v q h e =
    elim (Contains-cons_cases x xs v h) [
      | inl same ↦ option_head (pointer_of x) (pointers_of xs) q (ap pointer_of same ∙ e)
      | inr t ↦ option_tail (pointer_of x) (pointers_of xs) q (to_values xs v q t e)
    ]

-- values that are among the old ones or are the new one lead to no more
pub more : (xs ys : List Value) (v : Value) → ((w : Value) → Contains xs w → Contains ys w ⊎ (v ≡ w)) → (q : Pointer) → Contains (pointers_of xs) q → Contains (pointers_of ys) q ⊎ Contains (pointers_of (v ∷ [])) q
more xs ys v among q h =
    let t = from_values xs q h in
    elim (among t.0 t.1) [ inl o ↦ inl (to_values ys t.0 q o t.2) | inr e ↦ inr (option_head (pointer_of v) [] q (ap pointer_of e ∙ t.2)) ]

set_cases : (xs : List Value) (i : ℕ) (v w : Value) → Contains (slice_set xs i v) w → Contains xs w ⊎ (v ≡ w)
set_cases [] i v w h = inl h
set_cases (x ∷ xs) zero v w h = elim (Contains-cons_cases v xs w h) [ inl e ↦ inr e | inr t ↦ inl (Contains-cons x xs w t) ]
set_cases (x ∷ xs) (suc i) v w h =
    elim (Contains-cons_cases x (slice_set xs i v) w h) [
      | inl e ↦ inl (Contains-head x xs w e)
      | inr t ↦ elim (set_cases xs i v w t) [ inl u ↦ inl (Contains-cons x xs w u) | inr e ↦ inr e ]
    ]

element_cases : (xs : List Value) (i : ℕ) (v w : Value) → Contains (cond (i == length xs) (xs ++ v ∷ []) (slice_set xs i v)) w → Contains xs w ⊎ (v ≡ w)
element_cases xs i v w =
    elim (i == length xs) as (λ t. Contains (cond t (xs ++ v ∷ []) (slice_set xs i v)) w → Contains xs w ⊎ (v ≡ w)) [ true ↦ Contains-push_cases xs v w | false ↦ set_cases xs i v w ]

from_take : (i : ℕ) (xs : List Value) (w : Value) → Contains (take i xs) w → Contains xs w
from_take zero xs w h = absurd (Contains-none w h)
from_take (suc i) [] w h = absurd (Contains-none w h)
from_take (suc i) (x ∷ xs) w h = elim (Contains-cons_cases x (take i xs) w h) [ inl e ↦ Contains-head x xs w e | inr t ↦ Contains-cons x xs w (from_take i xs w t) ]

from_drop : (i : ℕ) (xs : List Value) (w : Value) → Contains (drop i xs) w → Contains xs w
from_drop zero xs w h = h
from_drop (suc i) [] w h = absurd (Contains-none w h)
from_drop (suc i) (x ∷ xs) w h = Contains-cons x xs w (from_drop i xs w h)

remove_cases : (xs : List Value) (i : ℕ) (w : Value) → Contains (remove xs i) w → Contains xs w
remove_cases xs i w h = elim (Contains-append_cases (take i xs) (drop (suc i) xs) w h) [ inl t ↦ from_take i xs w t | inr t ↦ from_drop (suc i) xs w t ]

reverse_cases : (xs : List Value) (w : Value) → Contains (reverse xs) w → Contains xs w
reverse_cases [] w h = absurd (Contains-none w h)
reverse_cases (x ∷ xs) w h =
    elim (Contains-push_cases (reverse xs) x w (subst (λ l. Contains l w) (reverse-append (x ∷ []) xs) h)) [
      | inl t ↦ Contains-cons x xs w (reverse_cases xs w t)
      | inr e ↦ Contains-head x xs w e
    ]

fewer : (xs ys : List Value) → ((w : Value) → Contains xs w → Contains ys w) → (q : Pointer) → Contains (pointers_of xs) q → Contains (pointers_of ys) q ⊎ Contains [] q
fewer xs ys among q h = let t = from_values xs q h in inl (to_values ys t.0 q (among t.0 t.1) t.2)

tree_cases : (es : List (ℕ × Value)) (k : ℕ) (v w : Value) → Contains (map (λ e. e.1) (tree.insert_entry nat_cmp es k v)) w → Contains (map (λ e. e.1) es) w ⊎ (v ≡ w)
tree_cases [] k v w h = elim (Contains-cons_cases v [] w h) [ inl e ↦ inr e | inr t ↦ inl t ]
tree_cases (e ∷ es) k v w h = by (nat_cmp k e.0) (tree_cases es k v w) h
  where
    rest : List Value
    rest = map (λ e. e.1) es

    by : (o : Ordering) → (Contains (map (λ e. e.1) (tree.insert_entry nat_cmp es k v)) w → Contains rest w ⊎ (v ≡ w))
        → Contains (map (λ e. e.1) (match_ordering o ((k, v) ∷ e ∷ es) ((e.0, v) ∷ es) (e ∷ tree.insert_entry nat_cmp es k v))) w → Contains (e.1 ∷ rest) w ⊎ (v ≡ w)
    by Less before g = elim (Contains-cons_cases v (e.1 ∷ rest) w g) [ inl same ↦ inr same | inr t ↦ inl t ]
    by Equal before g = elim (Contains-cons_cases v rest w g) [ inl same ↦ inr same | inr t ↦ inl (Contains-cons e.1 rest w t) ]
    by Greater before g =
        elim (Contains-cons_cases e.1 (map (λ e. e.1) (tree.insert_entry nat_cmp es k v)) w g) [
          | inl same ↦ inl (Contains-head e.1 rest w same)
          | inr t ↦ elim (before t) [ inl u ↦ inl (Contains-cons e.1 rest w u) | inr same ↦ inr same ]
        ]

table_cases : (es : List (List ℕ × Value)) (k : List ℕ) (v w : Value) → Contains (map (λ e. e.1) (table.insert_entry (pointwise nat_eq) es k v)) w → Contains (map (λ e. e.1) es) w ⊎ (v ≡ w)
table_cases [] k v w h = elim (Contains-cons_cases v [] w h) [ inl e ↦ inr e | inr t ↦ inl t ]
table_cases (e ∷ es) k v w h = by (pointwise nat_eq k e.0) (table_cases es k v w) h
  where
    rest : List Value
    rest = map (λ e. e.1) es

    by : (b : Bool) → (Contains (map (λ e. e.1) (table.insert_entry (pointwise nat_eq) es k v)) w → Contains rest w ⊎ (v ≡ w))
        → Contains (map (λ e. e.1) (cond b ((e.0, v) ∷ es) (e ∷ table.insert_entry (pointwise nat_eq) es k v))) w → Contains (e.1 ∷ rest) w ⊎ (v ≡ w)
    by true before g = elim (Contains-cons_cases v rest w g) [ inl same ↦ inr same | inr t ↦ inl (Contains-cons e.1 rest w t) ]
    by false before g =
        elim (Contains-cons_cases e.1 (map (λ e. e.1) (table.insert_entry (pointwise nat_eq) es k v)) w g) [
          | inl same ↦ inl (Contains-head e.1 rest w same)
          | inr t ↦ elim (before t) [ inl u ↦ inl (Contains-cons e.1 rest w u) | inr same ↦ inr same ]
        ]

pub property_cases : (p : Keyed) (key : List ℕ) (v w : Value) → Contains (values_of (with_property p key v)) w → Contains (values_of p) w ⊎ (v ≡ w)
property_cases p key v w = by (index_in key)
  where
    indices : List Value
    indices = map (λ e. e.1) p.indices

    named : List Value
    named = map (λ e. e.1) p.named

    by : (o : Option ℕ) → Contains (values_of (option_map_or (λ n. record { indices = tree.insert_entry nat_cmp p.indices n v; named = p.named }) o
        (record { indices = p.indices; named = table.insert_entry (pointwise nat_eq) p.named key v }))) w → Contains (values_of p) w ⊎ (v ≡ w)
    by (Some n) h =
        elim (Contains-append_cases (map (λ e. e.1) (tree.insert_entry nat_cmp p.indices n v)) named w h) [
          | inl t ↦ elim (tree_cases p.indices n v w t) [ inl u ↦ inl (Contains-append_left indices named w u) | inr same ↦ inr same ]
          | inr t ↦ inl (Contains-append_right indices named w t)
        ]
    by None h =
        elim (Contains-append_cases indices (map (λ e. e.1) (table.insert_entry (pointwise nat_eq) p.named key v)) w h) [
          | inl t ↦ inl (Contains-append_left indices named w t)
          | inr t ↦ elim (table_cases p.named key v w t) [ inl u ↦ inl (Contains-append_right indices named w u) | inr same ↦ inr same ]
        ]

array_is : (b : Body) (x : List Value) → array_of b ≡ Some x → b ≡ B.Array x
array_is (B.Array values) x e = ap B.Array (same_Some values x e)
array_is _ x e = absurd (none-some x e)

object_is : (b : Body) (x : Keyed) → properties_of b ≡ Some x → b ≡ B.Object x
object_is (B.Object properties) x e = ap B.Object (same_Some properties x e)
object_is _ x e = absurd (none-some x e)

box_is : (b : Body) (x : Option Value) → box_of b ≡ Some x → b ≡ B.Box x
box_is (B.Box value) x e = ap B.Box (same_Some value x e)
box_is _ x e = absurd (none-some x e)

hooks_is : (b : Body) (x : ℕ) → hooks_of b ≡ Some x → b ≡ B.Invalidation x
hooks_is (B.Invalidation hooks) x e = ap B.Invalidation (same_Some hooks x e)
hooks_is _ x e = absurd (none-some x e)

kept_is : (b : Body) (x : Taken) → kept_of b ≡ Some x → b ≡ B.Generator x
kept_is (B.Generator kept) x e = ap B.Generator (same_Some kept x e)
kept_is _ x e = absurd (none-some x e)

array_sorts : (x y : List Value) (t : Sort) → has_sort t (B.Array x) ≡ has_sort t (B.Array y)
array_sorts x y AsValue = refl
array_sorts x y AsBox = refl
array_sorts x y AsText = refl
array_sorts x y AsInputs = refl
array_sorts x y AsInvalidation = refl

object_sorts : (x y : Keyed) (t : Sort) → has_sort t (B.Object x) ≡ has_sort t (B.Object y)
object_sorts x y AsValue = refl
object_sorts x y AsBox = refl
object_sorts x y AsText = refl
object_sorts x y AsInputs = refl
object_sorts x y AsInvalidation = refl

box_sorts : (x y : Option Value) (t : Sort) → has_sort t (B.Box x) ≡ has_sort t (B.Box y)
box_sorts x y AsValue = refl
box_sorts x y AsBox = refl
box_sorts x y AsText = refl
box_sorts x y AsInputs = refl
box_sorts x y AsInvalidation = refl

hooks_sorts : (x y : ℕ) (t : Sort) → has_sort t (B.Invalidation x) ≡ has_sort t (B.Invalidation y)
hooks_sorts x y AsValue = refl
hooks_sorts x y AsBox = refl
hooks_sorts x y AsText = refl
hooks_sorts x y AsInputs = refl
hooks_sorts x y AsInvalidation = refl

kept_sorts : (x y : Taken) (t : Sort) → has_sort t (B.Generator x) ≡ has_sort t (B.Generator y)
kept_sorts x y AsValue = refl
kept_sorts x y AsBox = refl
kept_sorts x y AsText = refl
kept_sorts x y AsInputs = refl
kept_sorts x y AsInvalidation = refl

pub KeepsSound-element : {E : Type 0} (result : Result (Unit {0}) E) (s n : Store) (r : Ref) (i : ℕ) (v : Value) (grows : Bool) → IsSome (read_item array_of s r)
    → OnOk result (n ≡ written array_of (with_element i v) s r grows) → OnErr result (n ≡ s) → KeepsSound s n (pointers_of (v ∷ []))
KeepsSound-element result s n r i v grows =
    KeepsSound-result array_of B.Array (with_element i v) (pointers_of (v ∷ [])) array_is (λ x. array_sorts (cond (i == length x) (x ++ v ∷ []) (slice_set x i v)) x)
    (λ x f q h. more (cond (i == length x) (x ++ v ∷ []) (slice_set x i v)) x v (element_cases x i v) q h) result s n r grows

pub KeepsSound-property : {E : Type 0} (result : Result (Unit {0}) E) (s n : Store) (r : Ref) (key : List ℕ) (v : Value) (grows : Bool) → IsSome (read_item properties_of s r)
    → OnOk result (n ≡ written properties_of (λ ps. B.Object (with_property ps key v)) s r grows) → OnErr result (n ≡ s) → KeepsSound s n (pointers_of (v ∷ []))
KeepsSound-property result s n r key v grows =
    KeepsSound-result properties_of B.Object (λ ps. B.Object (with_property ps key v)) (pointers_of (v ∷ [])) object_is (λ x. object_sorts (with_property x key v) x)
    (λ x f q h. more (values_of (with_property x key v)) (values_of x) v (property_cases x key v) q h) result s n r grows

pub KeepsSound-box : {E : Type 0} (result : Result (Unit {0}) E) (s n : Store) (r : Ref) (v : Value) → IsSome (read_item box_of s r)
    → OnOk result (n ≡ written box_of (λ _. B.Box (Some v)) s r false) → OnErr result (n ≡ s) → KeepsSound s n (pointers_of (v ∷ []))
KeepsSound-box result s n r v =
    KeepsSound-result box_of B.Box (λ _. B.Box (Some v)) (pointers_of (v ∷ [])) box_is (λ x. box_sorts (Some v) x) (λ x f q h. inr h) result s n r false

pub KeepsSound-remove : {E : Type 0} (result : Result (Option Value) E) (s n : Store) (r : Ref) (i : ℕ) → IsSome (read_item array_of s r)
    → OnOk result (n ≡ written array_of (λ values. B.Array (remove values i)) s r false) → OnErr result (n ≡ s) → KeepsSound s n []
KeepsSound-remove result s n r i =
    KeepsSound-result array_of B.Array (λ values. B.Array (remove values i)) [] array_is (λ x. array_sorts (remove x i) x)
    (λ x f q h. fewer (remove x i) x (remove_cases x i) q h) result s n r false

pub KeepsSound-last : {E : Type 0} (result : Result (Option Value) E) (s n : Store) (r : Ref) → IsSome (read_item array_of s r)
    → OnOk result (n ≡ written array_of (λ values. B.Array (remove values (length values - 1))) s r false) → OnErr result (n ≡ s) → KeepsSound s n []
KeepsSound-last result s n r =
    KeepsSound-result array_of B.Array (λ values. B.Array (remove values (length values - 1))) [] array_is (λ x. array_sorts (remove x (length x - 1)) x)
    (λ x f q h. fewer (remove x (length x - 1)) x (remove_cases x (length x - 1)) q h) result s n r false

pub KeepsSound-reverse : {E : Type 0} (result : Result (Unit {0}) E) (s n : Store) (r : Ref) → IsSome (read_item array_of s r)
    → OnOk result (n ≡ written array_of (λ values. B.Array (reverse values)) s r false) → OnErr result (n ≡ s) → KeepsSound s n []
KeepsSound-reverse result s n r =
    KeepsSound-result array_of B.Array (λ values. B.Array (reverse values)) [] array_is (λ x. array_sorts (reverse x) x)
    (λ x f q h. fewer (reverse x) x (reverse_cases x) q h) result s n r false

pub KeepsSound-hook : {E : Type 0} (result : Result (Unit {0}) E) (s n : Store) (r : Ref) → IsSome (read_item hooks_of s r)
    → OnOk result (n ≡ written hooks_of (λ hooks. B.Invalidation (hooks + 1)) s r false) → OnErr result (n ≡ s) → KeepsSound s n []
KeepsSound-hook result s n r =
    KeepsSound-result hooks_of B.Invalidation (λ hooks. B.Invalidation (hooks + 1)) [] hooks_is (λ x. hooks_sorts (x + 1) x) (λ x f q h. inl h) result s n r false

take_inside : (x : Taken) (f : Bool) (q : Pointer) → Contains (pointers_inside f (B.Generator (after_take x))) q → Contains (pointers_inside f (B.Generator x)) q ⊎ Contains [] q
take_inside (T.Held frame) true q h = inr h
take_inside (T.Held frame) false q h = inr h
take_inside T.Runs true q h = inr h
take_inside T.Runs false q h = inr h
take_inside T.Ended true q h = inr h
take_inside T.Ended false q h = inr h

pub KeepsSound-take : (s n : Store) (r : Ref) → IsSome (read_item kept_of s r) → n ≡ written kept_of (λ kept. B.Generator (after_take kept)) s r false → KeepsSound s n []
KeepsSound-take s n r there e =
    subst (λ m. KeepsSound s m []) (sym e)
    (KeepsSound-written kept_of B.Generator (λ kept. B.Generator (after_take kept)) [] kept_is (λ x. kept_sorts (after_take x) x) take_inside s r false there)

put_inside : (frame : Option Frame) (x : Taken) (f : Bool) (q : Pointer) → Contains (pointers_inside f (B.Generator (kept_from frame))) q → Contains (pointers_inside f (B.Generator x)) q ⊎ Contains (pointers_of_kept (kept_from frame)) q
put_inside frame x true q h = absurd (Contains-none q h)
put_inside frame x false q h = inr h

pub KeepsSound-put : (s n : Store) (r : Ref) (frame : Option Frame) → IsSome (read_item kept_of s r) → n ≡ written kept_of (λ _. B.Generator (kept_from frame)) s r false → KeepsSound s n (pointers_of_kept (kept_from frame))
KeepsSound-put s n r frame there e =
    subst (λ m. KeepsSound s m (pointers_of_kept (kept_from frame))) (sym e)
    (KeepsSound-written kept_of B.Generator (λ _. B.Generator (kept_from frame)) (pointers_of_kept (kept_from frame)) kept_is (λ x. kept_sorts (kept_from frame) x) (put_inside frame) s r false there)
