-- What stays sound where a region gets a literal.
use Rattle.std.proofs.Common.{◌≡◌, ◌⊎◌, ℕ, zero, suc, false, Some, None, List, [], ◌∷◌, refl, ap, subst, ◌∙◌, sym, inl, inr, Option, slice_get, Result, Ok, Err, OnOk, OnErr, IfOk}
use Rattle.std.proofs.lemmas.Bool.{true≢false}
use Rattle.std.proofs.lemmas.Option.{none-some, same_Some}
use Rattle.std.specs.Option.{option_map_or}
use Rattle.std.specs.List.{Contains}
use Rattle.ob_items.specs.declared.value.Ref.{Ref}
use Rattle.ob_items.specs.declared.value.RegionKey.{RegionKey}
use Rattle.ob_items.specs.Item.{Item}
use Rattle.ob_items.specs.declared.item.Body.{Body}
use Rattle.ob_items.specs.declared.item.Body.TheVariants as B
use Rattle.ob_items.specs.Bodies.{text_of}
use Rattle.ob_items.specs.Items.{at_item, live}
use Rattle.ob_items.specs.Region.{Cells, literal_at, with_literal, after_literal}
use Rattle.ob_items.proofs.ListLemmas.{slice_get-push_within}
use Rattle.ob_values.specs.Store.{Store, region_of, item_of, read_item, with_region, with_literal_in}
use Rattle.ob_values.specs.Reach.{Walk, Reaches}
use Rattle.ob_values.specs.Sound.{Pointer, has_sort, pointers_inside, pointers_from, leads_to, IsRight, IsSound, KeepsSound, AddsItem}
use Rattle.ob_values.proofs.SeenLemmas.{Contains-cons_cases, Contains-none}
use Rattle.ob_values.proofs.ReachLemmas.{Reaches-root, Reaches-step}
use Rattle.ob_values.proofs.StoreLemmas.{more_items}
use Rattle.ob_values.proofs.SoundLemmas.{KeepsSound-refl}

-- a pointer is sound beside roots that reach what it leads to
module _ (s : Store) (p : Pointer) (roots : List Pointer) (right : IsRight s p) (inside : (q : Pointer) → Contains (leads_to s p) q → Reaches (leads_to s) roots q) (sound : IsSound s roots) where
  reach_cons : (q : Pointer) → Reaches (leads_to s) (p ∷ roots) q → (q ≡ p) ⊎ Reaches (leads_to s) roots q
  reach_cons q h = by h.steps q h.walk
    where
      start : (x : Pointer) → Contains (p ∷ roots) x → (x ≡ p) ⊎ Reaches (leads_to s) roots x
      start x c = elim (Contains-cons_cases p roots x c) [ inl e ↦ inl (sym e) | inr t ↦ inr (Reaches-root (leads_to s) roots x t) ]

      step : (a q : Pointer) → (a ≡ p) ⊎ Reaches (leads_to s) roots a → Contains (leads_to s a) q → (q ≡ p) ⊎ Reaches (leads_to s) roots q
      step a q before l = elim before [ inl e ↦ inr (inside q (subst (λ x. Contains (leads_to s x) q) e l)) | inr t ↦ inr (Reaches-step (leads_to s) roots a q t l) ]

      by : (k : ℕ) (q : Pointer) → Walk (leads_to s) h.from q k → (q ≡ p) ⊎ Reaches (leads_to s) roots q
      by zero q e = subst (λ x. (x ≡ p) ⊎ Reaches (leads_to s) roots x) e (start h.from h.start)
      by (suc k) q t = step t.0 q (by k t.0 t.1) t.2

  pub IsSound-cons : IsSound s (p ∷ roots)
  IsSound-cons q h = elim (reach_cons q h) [ inl e ↦ subst (IsRight s) (sym e) right | inr t ↦ sound q t ]

-- where the items that were there stay, what was sound stays so
pub KeepsSound-more : (s n : Store) → ((b : Ref) (item : Item) → item_of s b ≡ Some item → item_of n b ≡ Some item) → KeepsSound s n []
KeepsSound-more s n stays roots reached sound q h =
    let before : Reaches (leads_to s) roots q = back h.steps q h.walk in
    ap (λ o. option_map_or (λ (j : Item). has_sort q.0 j.body) o false) (same q before) ∙ sound q before
  where
    same : (a : Pointer) → Reaches (leads_to s) roots a → item_of n a.1 ≡ item_of s a.1
    same a r = by (item_of s a.1) refl
      where
        by : (o : Option Item) → item_of s a.1 ≡ o → item_of n a.1 ≡ item_of s a.1
        by None e = absurd (true≢false (sym (sound a r) ∙ ap (λ o. option_map_or (λ (j : Item). has_sort a.0 j.body) o false) e))
        by (Some item) e = stays a.1 item e ∙ sym e

    back : (k : ℕ) (q : Pointer) → Walk (leads_to n) h.from q k → Reaches (leads_to s) roots q
    back zero q e = subst (Reaches (leads_to s) roots) e (Reaches-root (leads_to s) roots h.from h.start)
    back (suc k) q t =
        let before : Reaches (leads_to s) roots t.0 = back k t.0 t.1 in
        Reaches-step (leads_to s) roots t.0 q before (subst (λ o. Contains (pointers_from o) q) (same t.0 before) t.2)

literal_keeps : (c : Cells) (units : List ℕ) (at : ℕ) (item : Item) → slice_get c.items at ≡ Some item → slice_get (after_literal c units).items at ≡ Some item
literal_keeps c units at item h = by (literal_at c units)
  where
    by : (o : Option ℕ) → slice_get (option_map_or (λ k. c) o (with_literal c units)).items at ≡ Some item
    by None = slice_get-push_within c.items (live (B.Text units)) item at h
    by (Some k) = h

pub literal_stays : (s : Store) (key : RegionKey) (units : List ℕ) (b : Ref) (item : Item) → item_of s b ≡ Some item → item_of (with_literal_in s key units) b ≡ Some item
literal_stays s key units b item h = by (region_of s key.0) refl
  where
    by : (o : Option Cells) → region_of s key.0 ≡ o → item_of (with_literal_in s key units) b ≡ Some item
    by None p = ap (λ o. item_of (option_map_or (λ (c : Cells). with_region s key.0 (after_literal c units)) o s) b) p ∙ h
    by (Some c) p =
        ap (λ o. item_of (option_map_or (λ (c : Cells). with_region s key.0 (after_literal c units)) o s) b) p
        ∙ more_items s key.0 c (after_literal c units) p (literal_keeps c units) b item h

pub KeepsSound-literal : {E : Type 0} (result : Result Ref E) (s n : Store) (key : RegionKey) (units : List ℕ) → OnOk result (n ≡ with_literal_in s key units) → OnErr result (n ≡ s) → KeepsSound s n []
KeepsSound-literal (Ok r) s n key units ok err = subst (λ m. KeepsSound s m []) (sym ok) (KeepsSound-more s (with_literal_in s key units) (literal_stays s key units))
KeepsSound-literal (Err e) s n key units ok err = KeepsSound-refl s n [] err

text_body : (b : Body) (units : List ℕ) → text_of b ≡ Some units → b ≡ B.Text units
text_body (B.Text old) units e = ap B.Text (same_Some old units e)
text_body _ units e = absurd (none-some units e)

-- the item of a text
text_item : (s : Store) (r : Ref) (units : List ℕ) → read_item text_of s r ≡ Some units → (item : Item) × (item_of s r ≡ Some item) × (item.body ≡ B.Text units)
text_item s r units e = by (region_of s r.region.0) refl
  where
    by : (o : Option Cells) → region_of s r.region.0 ≡ o → (item : Item) × (item_of s r ≡ Some item) × (item.body ≡ B.Text units)
    by None p = absurd (none-some units (sym (ap (λ o. option_map_or (λ (c : Cells). at_item text_of c.items r.item) o None) p) ∙ e))
    by (Some c) p = inner (slice_get c.items r.item) refl
      where
        here : at_item text_of c.items r.item ≡ Some units
        here = sym (ap (λ o. option_map_or (λ (c : Cells). at_item text_of c.items r.item) o None) p) ∙ e

        inner : (o : Option Item) → slice_get c.items r.item ≡ o → (item : Item) × (item_of s r ≡ Some item) × (item.body ≡ B.Text units)
        inner None q = absurd (none-some units (sym (ap (λ o. option_map_or (λ (item : Item). text_of item.body) o None) q) ∙ here))
        inner (Some item) q = (
          item,
          ap (λ o. option_map_or (λ (c : Cells). slice_get c.items r.item) o None) p ∙ q,
          text_body item.body units (sym (ap (λ o. option_map_or (λ (item : Item). text_of item.body) o None) q) ∙ here),
        )

pub AddsItem-literal : {E : Type 0} (result : Result Ref E) (s n : Store) (key : RegionKey) (units : List ℕ) → OnOk result (n ≡ with_literal_in s key units) → OnErr result (n ≡ s)
    → IfOk result (λ r. read_item text_of n r ≡ Some units) → IfOk result (AddsItem s n (B.Text units))
AddsItem-literal {E} (Err e) s n key units ok err text = tt
AddsItem-literal {E} (Ok r) s n key units ok err text = λ sort right roots reached sound.
    let t = text_item n r units text in
    let kept : IsSound n roots = KeepsSound-literal {E = E} (Ok r) s n key units ok err roots (λ q h. absurd (Contains-none q h)) sound in
    let is_right : IsRight n (sort, r) =
    ap (λ o. option_map_or (λ (j : Item). has_sort sort j.body) o false) t.1 ∙ ap (has_sort sort) t.2 ∙ right in
    let leads : leads_to n (sort, r) ≡ [] = ap pointers_from t.1 ∙ ap (pointers_inside t.0.frozen) t.2 in
    IsSound-cons n (sort, r) roots is_right (λ q h. absurd (Contains-none q (subst (λ l. Contains l q) leads h))) kept
