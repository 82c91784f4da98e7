-- The literals of a region stay texts of their units.
use Rattle.std.proofs.Common.{◌≡◌, ◌⊎◌, ◌∙◌, ℕ, Some, None, Bool, true, false, cond, is_some, Option, Result, Ok, Err, OnOk, OnErr, IfOk, List, [], ◌∷◌, ◌++◌, refl, slice_get, slice_set, ap, sym, subst, arith, length, inl, inr, nat_eq}
use Rattle.std.proofs.lemmas.Bool.{true≢false}
use Rattle.std.proofs.lemmas.Grind.{common_steps}
use Rattle.std.specs.Cmp.Lexicographic.{pointwise}
use Rattle.std.specs.Map.{lookup}
use Rattle.std.specs.Option.{option_map_or}
use Rattle.indexmap.specs.IndexMap.{insert_entry}
use Rattle.ob_items.specs.Bodies.{text_of}
use Rattle.ob_items.specs.Items.{at_item, changed, with_body, marked_at, live}
use Rattle.ob_items.specs.Region.{AreLiterals}
use Rattle.ob_items.specs.Item.{Item}
use Rattle.ob_items.specs.declared.item.Body.{Body}
use Rattle.ob_items.specs.declared.item.Body.TheVariants as B
use Rattle.ob_items.proofs.DecimalLemmas.{same_text}
use Rattle.ob_items.proofs.ListLemmas.{slice_get-set_same, slice_get-set_other, slice_get-push_last, slice_get-push_within, equal_or_not}

pub none_is_not_some : {X : Type 0} (x : X) → None ≡ Some x → ⊥
none_is_not_some x e = true≢false (sym (ap is_some e))

module _ {X : Type 0} (read : Body → Option X) (make : X → Body) (plain : (units : List ℕ) → read (B.Text units) ≡ None) where
  not_text : (b : Body) (x : X) → read b ≡ Some x → text_of b ≡ None
  not_text (B.Text units) x e = absurd (none_is_not_some x (sym (plain units) ∙ e))
  not_text _ x e = refl

  no_text : (o : Option Item) (x : X) → option_map_or (λ item. read item.body) o None ≡ Some x → option_map_or (λ item. text_of item.body) o None ≡ None
  no_text None x e = refl
  no_text (Some item) x e = not_text item.body x e

  pub texts-changed : (items : List Item) (at k : ℕ) (units : List ℕ) → at_item text_of items k ≡ Some units → at_item text_of (changed read make items at) k ≡ Some units
  texts-changed items at k units h = by (at_item read items at) refl
    where
      by : (o : Option X) → at_item read items at ≡ o → at_item text_of (option_map_or (λ x. with_body items at (make x)) o items) k ≡ Some units
      by None p = h
      by (Some x) p =
          elim (equal_or_not k at) [
            | inl same ↦ absurd (none_is_not_some units (sym (no_text (slice_get items at) x p) ∙ ap (at_item text_of items) (sym same) ∙ h))
            | inr apart ↦ ap (λ o. option_map_or (λ (item : Item). text_of item.body) o None) (slice_get-set_other items at k _ apart) ∙ h
          ]

  pub AreLiterals-changed : (items : List Item) (at : ℕ) (ls : List (List ℕ × ℕ)) → AreLiterals items ls → AreLiterals (changed read make items at) ls
  unfolding AreLiterals
  AreLiterals-changed items at ls h units k e = texts-changed items at k units (h units k e)

  -- a write that may be refused
  pub AreLiterals-written : {T E : Type 0} (result : Result T E) (items new : List Item) (at : ℕ) (ls : List (List ℕ × ℕ)) → OnOk result (new ≡ changed read make items at) → OnErr result (new ≡ items) → AreLiterals items ls → AreLiterals new ls
  AreLiterals-written (Ok t) items new at ls ok err h = subst (λ xs. AreLiterals xs ls) (sym ok) (AreLiterals-changed items at ls h)
  AreLiterals-written (Err e) items new at ls ok err h = subst (λ xs. AreLiterals xs ls) (sym err) h

texts-marked : (items : List Item) (at k : ℕ) (units : List ℕ) → at_item text_of items k ≡ Some units → at_item text_of (marked_at items at) k ≡ Some units
texts-marked items at k units h = by (slice_get items at) refl
  where
    by : (o : Option Item) → slice_get items at ≡ o → at_item text_of (option_map_or (λ item. slice_set items at (record { frozen = true; body = item.body })) o items) k ≡ Some units
    by None p = h
    by (Some item) p =
        elim (equal_or_not k at) [
          | inl same ↦
              let here : text_of item.body ≡ Some units = sym (ap (λ o. option_map_or (λ (j : Item). text_of j.body) o None) p) ∙ ap (at_item text_of items) (sym same) ∙ h in
              ap (at_item text_of (slice_set items at (record { frozen = true; body = item.body }))) same
              ∙ ap (λ o. option_map_or (λ (j : Item). text_of j.body) o None) (slice_get-set_same items at (record { frozen = true; body = item.body }) item p) ∙ here
          | inr apart ↦ ap (λ o. option_map_or (λ (j : Item). text_of j.body) o None) (slice_get-set_other items at k _ apart) ∙ h
        ]

pub AreLiterals-marked : (items : List Item) (at : ℕ) (ls : List (List ℕ × ℕ)) → AreLiterals items ls → AreLiterals (marked_at items at) ls
unfolding AreLiterals
AreLiterals-marked items at ls h units k e = texts-marked items at k units (h units k e)

texts-push : (items : List Item) (item : Item) (k : ℕ) (units : List ℕ) → at_item text_of items k ≡ Some units → at_item text_of (items ++ item ∷ []) k ≡ Some units
texts-push items item k units h = by (slice_get items k) refl
  where
    by : (o : Option Item) → slice_get items k ≡ o → at_item text_of (items ++ item ∷ []) k ≡ Some units
    by None p = absurd (none_is_not_some units (sym (ap (λ o. option_map_or (λ (j : Item). text_of j.body) o None) p) ∙ h))
    by (Some old) p =
        ap (λ o. option_map_or (λ (j : Item). text_of j.body) o None) (slice_get-push_within items item old k p)
        ∙ sym (ap (λ o. option_map_or (λ (j : Item). text_of j.body) o None) p) ∙ h

pub AreLiterals-push : (items : List Item) (item : Item) (ls : List (List ℕ × ℕ)) → AreLiterals items ls → AreLiterals (items ++ item ∷ []) ls
unfolding AreLiterals
AreLiterals-push items item ls h units k e = texts-push items item k units (h units k e)

pub AreLiterals-none : (items : List Item) → AreLiterals items []
unfolding AreLiterals
AreLiterals-none items units k e = absurd (none_is_not_some k e)

some_inj : (a b : ℕ) → Some a ≡ Some b → a ≡ b
some_inj a b e = grind (arith, common_steps)

lookup-insert_entry : (ls : List (List ℕ × ℕ)) (q k : List ℕ) (v at : ℕ) → lookup (pointwise nat_eq q) (insert_entry (pointwise nat_eq) ls k v) ≡ Some at → ((q ≡ k) × (v ≡ at)) ⊎ (lookup (pointwise nat_eq q) ls ≡ Some at)
lookup-insert_entry [] q k v at e = by (pointwise nat_eq q k) refl e
  where
    by : (b : Bool) → pointwise nat_eq q k ≡ b → cond b (Some v) None ≡ Some at → ((q ≡ k) × (v ≡ at)) ⊎ (None ≡ Some at)
    by true p h = inl (same_text q k p, some_inj v at h)
    by false p h = inr h
lookup-insert_entry (x ∷ xs) q k v at e = by (pointwise nat_eq k x.0) (pointwise nat_eq q x.0) refl refl e (λ h. lookup-insert_entry xs q k v at h)
  where
    by : (b d : Bool) → pointwise nat_eq k x.0 ≡ b → pointwise nat_eq q x.0 ≡ d → lookup (pointwise nat_eq q) (cond b ((x.0, v) ∷ xs) (x ∷ insert_entry (pointwise nat_eq) xs k v)) ≡ Some at
        → (lookup (pointwise nat_eq q) (insert_entry (pointwise nat_eq) xs k v) ≡ Some at → ((q ≡ k) × (v ≡ at)) ⊎ (lookup (pointwise nat_eq q) xs ≡ Some at))
        → ((q ≡ k) × (v ≡ at)) ⊎ (cond d (Some x.1) (lookup (pointwise nat_eq q) xs) ≡ Some at)
    by true true p r h rest = inl (same_text q x.0 r ∙ sym (same_text k x.0 p), some_inj v at (sym (ap (λ c. cond c (Some v) (lookup (pointwise nat_eq q) xs)) r) ∙ h))
    by true false p r h rest = inr (sym (ap (λ c. cond c (Some v) (lookup (pointwise nat_eq q) xs)) r) ∙ h)
    by false true p r h rest = inr (sym (ap (λ c. cond c (Some x.1) (lookup (pointwise nat_eq q) (insert_entry (pointwise nat_eq) xs k v))) r) ∙ h)
    by false false p r h rest = rest (sym (ap (λ c. cond c (Some x.1) (lookup (pointwise nat_eq q) (insert_entry (pointwise nat_eq) xs k v))) r) ∙ h)

pub AreLiterals-added : (items : List Item) (ls : List (List ℕ × ℕ)) (units : List ℕ) → AreLiterals items ls → AreLiterals (items ++ live (B.Text units) ∷ []) (insert_entry (pointwise nat_eq) ls units (length items))
unfolding AreLiterals
AreLiterals-added items ls units h q k e =
    elim (lookup-insert_entry ls q units (length items) k e) [
      | inl t ↦
          ap (at_item text_of (items ++ live (B.Text units) ∷ [])) (sym t.1)
          ∙ ap (λ o. option_map_or (λ (j : Item). text_of j.body) o None) (slice_get-push_last items (live (B.Text units)))
          ∙ ap Some (sym t.0)
      | inr t ↦ texts-push items (live (B.Text units)) k q (h q k t)
    ]

-- the text of a literal that is there
pub text_of_literal : (items : List Item) (ls : List (List ℕ × ℕ)) (units : List ℕ) (at : ℕ) → AreLiterals items ls → lookup (pointwise nat_eq units) ls ≡ Some at → at_item text_of items at ≡ Some units
unfolding AreLiterals
text_of_literal items ls units at h e = h units at e

pub AreLiterals-after_add : {E : Type 0} (result : Result ℕ E) (items new : List Item) (ls ms : List (List ℕ × ℕ)) (units : List ℕ)
    → OnOk result (new ≡ items ++ live (B.Text units) ∷ []) → OnOk result (ms ≡ insert_entry (pointwise nat_eq) ls units (length items)) → OnErr result (new ≡ items) → OnErr result (ms ≡ ls)
    → AreLiterals items ls → AreLiterals new ms
AreLiterals-after_add (Ok at) items new ls ms units ok noted err unnoted h =
    subst (λ xs. AreLiterals xs ms) (sym ok) (subst (λ es. AreLiterals (items ++ live (B.Text units) ∷ []) es) (sym noted) (AreLiterals-added items ls units h))
AreLiterals-after_add (Err e) items new ls ms units ok noted err unnoted h =
    subst (λ xs. AreLiterals xs ms) (sym err) (subst (λ es. AreLiterals items es) (sym unnoted) h)

pub text_after_add : {E : Type 0} (result : Result ℕ E) (items new : List Item) (units : List ℕ)
    → IfOk result (λ at. at ≡ length items) → OnOk result (new ≡ items ++ live (B.Text units) ∷ []) → IfOk result (λ at. at_item text_of new at ≡ Some units)
text_after_add (Ok at) items new units place ok =
    ap (λ xs. at_item text_of xs at) ok ∙ ap (at_item text_of (items ++ live (B.Text units) ∷ [])) place
    ∙ ap (λ o. option_map_or (λ (j : Item). text_of j.body) o None) (slice_get-push_last items (live (B.Text units)))
text_after_add (Err e) items new units place ok = tt
