-- Errors, and the texts of their messages.
use Rattle.std.proofs.Common.{◌≡◌, ℕ, Bool, false, refl, inl, inr, Some, None, List, [], ◌∷◌, ◌++◌, ap, subst, ◌∙◌, sym, Option, slice_get, IsSome, Result, Ok, Err, IfOk}
use Rattle.std.specs.Prelude.{is_some, IsTrue}
use Rattle.std.proofs.lemmas.Bool.{true≢false}
use Rattle.std.proofs.lemmas.List.Elements.{Contains-append_cases, Contains-append_left, Contains-append_right}
use Rattle.std.specs.Option.{option_map_or}
use Rattle.std.specs.List.{Contains}
use Rattle.ob_items.specs.declared.value.Ref.{Ref}
use Rattle.ob_items.specs.declared.value.RegionKey.{RegionKey}
use Rattle.ob_items.specs.declared.value.Value.{Value}
use Rattle.ob_items.specs.Item.{Item}
use Rattle.ob_items.specs.declared.item.Body.{Body}
use Rattle.ob_items.specs.declared.item.Body.TheVariants as B
use Rattle.ob_items.specs.Bodies.{text_of}
use Rattle.ob_items.specs.Items.{at_item}
use Rattle.ob_items.specs.Region.{Cells, literal_at, with_literal, after_literal}
use Rattle.ob_values.specs.declared.done.Done.{Done}
use Rattle.ob_values.specs.Operators.{AddsValue}
use Rattle.ob_values.specs.Reach.{Reaches}
use Rattle.ob_values.specs.Sound.{Pointer, AsText, has_sort, pointers_inside, pointers_of, pointers_from, leads_to, IsRight, AddsSound}
use Rattle.ob_values.specs.Store.{Store, region_of, item_of, read_item, elements_in, with_region, with_literal_in, IsOpen}
use Rattle.ob_values.proofs.LiteralSound.{IsSound-cons}
use Rattle.ob_values.proofs.ReachLemmas.{Reaches-root}
use Rattle.ob_values.proofs.RootLemmas.{IsSound-fewer}
use Rattle.ob_values.proofs.SeenLemmas.{Contains-cons_cases, Contains-cons, Contains-head, Contains-none}
use Rattle.ob_values.proofs.StoreLemmas.{region_of-with_region_same}

-- ---- a literal adds no elements, and its region stays open

literal_region : (s : Store) (key : RegionKey) (units : List ℕ) (c : Cells) → region_of s key.0 ≡ Some c → region_of (with_literal_in s key units) key.0 ≡ Some (after_literal c units)
literal_region s key units c e =
    ap (λ o. region_of (option_map_or (λ (c : Cells). with_region s key.0 (after_literal c units)) o s) key.0) e ∙ region_of-with_region_same s key.0 (after_literal c units) c e

literal_elements : (c : Cells) (units : List ℕ) → (after_literal c units).elements ≡ c.elements
literal_elements c units = by (literal_at c units)
  where
    by : (o : Option ℕ) → (option_map_or (λ k. c) o (with_literal c units)).elements ≡ c.elements
    by None = refl
    by (Some k) = refl

pub open_with_literal : (s : Store) (key : RegionKey) (units : List ℕ) → IsOpen s key → IsOpen (with_literal_in s key units) key
open_with_literal s key units opened = by (region_of s key.0) refl
  where
    by : (o : Option Cells) → region_of s key.0 ≡ o → IsOpen (with_literal_in s key units) key
    by None p = absurd (true≢false (sym opened ∙ ap is_some p))
    by (Some c) p = ap is_some (literal_region s key units c p)

pub elements_with_literal : (s : Store) (key : RegionKey) (units : List ℕ) → IsOpen s key → elements_in (with_literal_in s key units) key ≡ elements_in s key
elements_with_literal s key units opened = by (region_of s key.0) refl
  where
    by : (o : Option Cells) → region_of s key.0 ≡ o → elements_in (with_literal_in s key units) key ≡ elements_in s key
    by None p = absurd (true≢false (sym opened ∙ ap is_some p))
    by (Some c) p =
        ap (λ o. option_map_or (λ (c : Cells). c.elements) o 0) (literal_region s key units c p) ∙ literal_elements c units
        ∙ sym (ap (λ o. option_map_or (λ (c : Cells). c.elements) o 0) p)

-- ---- a text is sound as a message

-- the item of a text
record TextItem (s : Store) (r : Ref) : Type 0 where
  item : Item
  is : item_of s r ≡ Some item
  text : IsSome (text_of item.body)

item_in : (c : Cells) (s : Store) (r : Ref) → region_of s r.region.0 ≡ Some c → IsSome (at_item text_of c.items r.item) → TextItem s r
item_in c s r e h = by (slice_get c.items r.item) refl
  where
    by : (o : Option Item) → slice_get c.items r.item ≡ o → TextItem s r
    by None q = absurd (true≢false (sym h ∙ ap (λ o. is_some (option_map_or (λ (item : Item). text_of item.body) o None)) q))
    by (Some item) q = record {
      item = item;
      is = ap (λ o. option_map_or (λ (c : Cells). slice_get c.items r.item) o None) e ∙ q;
      text = sym (ap (λ o. is_some (option_map_or (λ (item : Item). text_of item.body) o None)) q) ∙ h;
    }

text_item : (s : Store) (r : Ref) → IsSome (read_item text_of s r) → TextItem s r
text_item s r h = by (region_of s r.region.0) refl
  where
    by : (o : Option Cells) → region_of s r.region.0 ≡ o → TextItem s r
    by None p = absurd (true≢false (sym h ∙ ap (λ o. is_some (option_map_or (λ (c : Cells). at_item text_of c.items r.item) o None)) p))
    by (Some c) p = item_in c s r p (sym (ap (λ o. is_some (option_map_or (λ (c : Cells). at_item text_of c.items r.item) o None)) p) ∙ h)

text_sort : (b : Body) → IsSome (text_of b) → IsTrue (has_sort AsText b)
text_sort (B.Text units) h = refl
text_sort _ h = absurd (true≢false (sym h))

text_leads : (b : Body) (frozen : Bool) → IsSome (text_of b) → pointers_inside frozen b ≡ []
text_leads (B.Text units) frozen h = refl
text_leads _ frozen h = absurd (true≢false (sym h))

pub text_is_sound : (s : Store) (r : Ref) → IsSome (read_item text_of s r) → AddsSound s s [] (AsText, r)
text_is_sound s r h roots reached sound =
    let t = text_item s r h in
    let right : IsRight s (AsText, r) = ap (λ o. option_map_or (λ (j : Item). has_sort AsText j.body) o false) t.is ∙ text_sort t.item.body t.text in
    let leads : leads_to s (AsText, r) ≡ [] = ap pointers_from t.is ∙ text_leads t.item.body t.item.frozen t.text in
    IsSound-cons s (AsText, r) roots right (λ q c. absurd (Contains-none q (subst (λ l. Contains l q) leads c))) sound

-- an error with a message that is sound
pub message_sound : (s m n : Store) (message : Pointer) (value : Value) → AddsSound s m [] message → AddsValue m n (message ∷ []) value → AddsValue s n [] value
message_sound s m n message value first adds roots reached sound =
    IsSound-fewer n (pointers_of (value ∷ []) ++ (message ∷ roots)) (pointers_of (value ∷ []) ++ roots) within
    (adds (message ∷ roots) among (first roots (λ p c. absurd (Contains-none p c)) sound))
  where
    among : (p : Pointer) → Contains (message ∷ []) p → Reaches (leads_to m) (message ∷ roots) p
    among p c = elim (Contains-cons_cases message [] p c) [
      | inl e ↦ Reaches-root (leads_to m) (message ∷ roots) p (Contains-head message roots p e)
      | inr t ↦ absurd (Contains-none p t)
    ]

    within : (p : Pointer) → Contains (pointers_of (value ∷ []) ++ roots) p → Contains (pointers_of (value ∷ []) ++ (message ∷ roots)) p
    within p c = elim (Contains-append_cases (pointers_of (value ∷ [])) roots p c) [
      | inl a ↦ Contains-append_left (pointers_of (value ∷ [])) (message ∷ roots) p a
      | inr t ↦ Contains-append_right (pointers_of (value ∷ [])) (message ∷ roots) p (Contains-cons message roots p t)
    ]

pub message_sound_if : {E : Type 0} (result : Result Done E) (s m n : Store) (message : Pointer) → AddsSound s m [] message → IfOk result (λ done. AddsValue m n (message ∷ []) done.value)
    → IfOk result (λ done. AddsValue s n [] done.value)
message_sound_if (Ok done) s m n message first adds = message_sound s m n message done.value first adds
message_sound_if (Err e) s m n message first adds = tt
