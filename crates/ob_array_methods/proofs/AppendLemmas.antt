-- Appending to an array that is not frozen, where there is room: nothing but memory refuses it, and it stays not frozen.
use Rattle.std.proofs.Common.{◌≡◌, ◌⊎◌, ◌∙◌, ◌+◌, ◌≤◌, ◌==◌, ◌&&◌, ℕ, Bool, true, false, Option, Some, None, IsSome, List, refl, ap, sym, slice_get, arith, Result, Err, nat_lt, inl, inr}
use Rattle.std.proofs.lemmas.Bool.Decides.{nat_tests}
use Rattle.std.proofs.lemmas.Option.{none-some, same_Some}
use Rattle.std.specs.Prelude.{if◌then◌else◌, length}
use Rattle.std.specs.Option.{option_map_or}
use Rattle.ob_items.proofs.ListLemmas.{slice_get-set_same}
use Rattle.ob_items.specs.Bodies.{array_of}
use Rattle.ob_items.specs.Items.{at_item, is_frozen_at, changed, with_body, with_element, fault_of, element_fault}
use Rattle.ob_items.specs.Region.{Cells, rewritten}
use Rattle.ob_items.specs.declared.error.SetError.{SetError}
use Rattle.ob_items.specs.declared.error.SetError.TheVariants as S
use Rattle.ob_items.specs.declared.item.Body.{Body}
use Rattle.ob_items.specs.Item.{Item}
use Rattle.ob_items.specs.declared.value.Ref.{Ref}
use Rattle.ob_items.specs.declared.value.Value.{Value}
use Rattle.ob_values.specs.ArrayMethods.{elements_at, appended}
use Rattle.ob_values.specs.Store.{Store, region_of, read_item, is_frozen, count_in, written, with_region, elements_in}
use Rattle.ob_values.proofs.StoreLemmas.{region_of-with_region_same}
use Rattle.ob_array_methods.proofs.LoopLemmas.{count-is}

-- ---- what refuses it

fault_by : (past at full : Bool) → past ≡ false → full ≡ false → (if past then Some S.PastEnd else if at && full then Some S.HeapFull else None) ≡ None
fault_by false false false p f = refl
fault_by false false true p f = refl
fault_by false true false p f = refl
fault_by false true true p f = cc
fault_by true at full p f = cc

within : (n k : ℕ) → n ≡ k → nat_lt k n ≡ false
within n k e = grind (arith, nat_tests)

fits : (n : ℕ) → n + 1 ≤ 50000 → nat_lt 50000 (n + 1) ≡ false
fits n h = grind (arith, nat_tests)

-- the length of an array that is not frozen is a place to write to
pub no_fault : (s : Store) (r : Ref) (index : ℕ) → is_frozen s r ≡ false → index ≡ length (elements_at s r) → elements_in s r.region + 1 ≤ 50000
    → element_fault (is_frozen s r) (count_in s r) index (elements_in s r.region) ≡ None
no_fault s r index thawed at room =
    ap (λ b. element_fault b (count_in s r) index (elements_in s r.region)) thawed
    ∙ fault_by (nat_lt (count_in s r) index) (index == count_in s r) (nat_lt 50000 (elements_in s r.region + 1))
    (within index (count_in s r) (at ∙ sym (count-is s r))) (fits (elements_in s r.region) room)

pub only_memory : {T : Type 0} (result : Result T SetError) (fault : SetError) (f : Option SetError) → result ≡ Err fault → (result ≡ Err S.NoMemory) ⊎ (fault_of result ≡ f) → f ≡ None → fault ≡ S.NoMemory
only_memory result fault f is (inl e) none = same_Some fault S.NoMemory (ap fault_of (sym is ∙ e))
only_memory result fault f is (inr e) none = absurd (none-some fault (sym (sym (ap fault_of is) ∙ e ∙ none)))

-- ---- what stays

module _ (make : List Value → Body) where
  frozen_items : (items : List Item) (at : ℕ) (o : Option Item) → slice_get items at ≡ o → is_frozen_at (changed array_of make items at) at ≡ is_frozen_at items at
  frozen_items items at None e = ap (λ p. is_frozen_at (option_map_or (λ x. with_body items at (make x)) (option_map_or (λ item. array_of item.body) p None) items) at) e
  frozen_items items at (Some item) e =
      ap (λ p. is_frozen_at (option_map_or (λ x. with_body items at (make x)) (option_map_or (λ i. array_of i.body) p None) items) at) e ∙ by (array_of item.body)
    where
      by : (x : Option (List Value)) → is_frozen_at (option_map_or (λ y. with_body items at (make y)) x items) at ≡ is_frozen_at items at
      by None = refl
      by (Some y) = ap (λ o. option_map_or (λ (i : Item). i.frozen) o false) (slice_get-set_same items at (record { frozen = is_frozen_at items at; body = make y }) item e)

  frozen_in : (s : Store) (r : Ref) (grows : Bool) → is_frozen (written array_of make s r grows) r ≡ is_frozen s r
  frozen_in s r grows = by (region_of s r.region.0) refl
    where
      by : (o : Option Cells) → region_of s r.region.0 ≡ o → is_frozen (written array_of make s r grows) r ≡ is_frozen s r
      by None f = ap (λ o. is_frozen (option_map_or (λ c. with_region s r.region.0 (rewritten array_of make c r.item grows)) o s) r) f
      by (Some c) f =
          ap (λ o. is_frozen (option_map_or (λ c. with_region s r.region.0 (rewritten array_of make c r.item grows)) o s) r) f
          ∙ ap (λ o. option_map_or (λ (d : Cells). is_frozen_at d.items r.item) o false) (region_of-with_region_same s r.region.0 (rewritten array_of make c r.item grows) c f)
          ∙ frozen_items c.items r.item (slice_get c.items r.item) refl
          ∙ sym (ap (λ o. option_map_or (λ (d : Cells). is_frozen_at d.items r.item) o false) f)

  elements_grown : (s : Store) (r : Ref) → IsSome (read_item array_of s r) → elements_in (written array_of make s r true) r.region ≡ elements_in s r.region + 1
  elements_grown s r there = by (region_of s r.region.0) refl there
    where
      by : (o : Option Cells) → region_of s r.region.0 ≡ o → IsSome (option_map_or (λ c. at_item array_of c.items r.item) o None)
          → elements_in (written array_of make s r true) r.region ≡ elements_in s r.region + 1
      by None f h = absurd cc
      by (Some c) f h =
          ap (λ o. elements_in (option_map_or (λ c. with_region s r.region.0 (rewritten array_of make c r.item true)) o s) r.region) f
          ∙ ap (λ o. option_map_or (λ (d : Cells). d.elements) o 0) (region_of-with_region_same s r.region.0 (rewritten array_of make c r.item true) c f)
          ∙ sym (ap (λ o. option_map_or (λ (d : Cells). d.elements) o 0 + 1) f)

pub appended-thawed : (s n : Store) (r : Ref) (value : Value) → n ≡ appended r s value → is_frozen s r ≡ false → is_frozen n r ≡ false
appended-thawed s n r value e thawed = ap (λ m. is_frozen m r) e ∙ frozen_in (with_element (count_in s r) value) s r true ∙ thawed

pub appended-elements : (s n : Store) (r : Ref) (value : Value) → IsSome (read_item array_of s r) → n ≡ appended r s value → elements_in n r.region ≡ elements_in s r.region + 1
appended-elements s n r value there e = ap (λ m. elements_in m r.region) e ∙ elements_grown (with_element (count_in s r) value) s r there
