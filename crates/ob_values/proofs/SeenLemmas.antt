-- What a search has met.
use Rattle.std.proofs.Common.{◌≡◌, ◌⊎◌, ℕ, zero, suc, ◌<◌, ◌≤◌, true, false, cond, Some, List, [], ◌∷◌, ◌++◌, refl, slice_get, ap, subst, ◌∙◌, arith, length, length-append, inl, inr}
use Rattle.std.proofs.lemmas.Grind.{common_steps}
use Rattle.std.proofs.lemmas.List.Elements.{Contains-append_left, Contains-push_cases, Contains-get_or, Contains-append_right}
use Rattle.std.proofs.lemmas.Bool.Decides.{nat_tests}
use Rattle.std.specs.List.{Contains, list_any}
use Rattle.indexmap.proofs.CallerLemmas.{Contains-insert_key}
use Rattle.ob_items.specs.declared.value.Ref.{Ref}
use Rattle.ob_values.specs.Values.{ref_eq}
use Rattle.ob_values.specs.Freeze.{with_ref, with_refs}

same_numbers : (a b c d : ℕ) → a ≡ b → c ≡ d → ◌≡◌ {A = Ref} (record { region = record { 0 = a }; item = c }) (record { region = record { 0 = b }; item = d })
same_numbers a b c d p q i = record { region = record { 0 = p i }; item = q i }

pub same_ref : (a b : Ref) → ref_eq a b ≡ true → a ≡ b
same_ref a b h = same_numbers a.region.0 b.region.0 a.item b.item (grind (arith, nat_tests)) (grind (arith, nat_tests))

pub Contains-with_ref_new : (rs : List Ref) (r : Ref) → Contains (with_ref rs r) r
Contains-with_ref_new rs r = Contains-insert_key ref_eq same_ref rs r

pub Contains-with_ref_old : (rs : List Ref) (r b : Ref) → Contains rs b → Contains (with_ref rs r) b
Contains-with_ref_old rs r b h =
    elim (list_any (ref_eq r) rs) as (λ t. Contains (cond t rs (rs ++ r ∷ [])) b) [ true ↦ h | false ↦ Contains-append_left rs (r ∷ []) b h ]

pub Contains-with_ref_cases : (rs : List Ref) (r b : Ref) → Contains (with_ref rs r) b → Contains rs b ⊎ (r ≡ b)
Contains-with_ref_cases rs r b =
    elim (list_any (ref_eq r) rs) as (λ t. Contains (cond t rs (rs ++ r ∷ [])) b → Contains rs b ⊎ (r ≡ b)) [
      | true ↦ λ h. inl h
      | false ↦ λ h. Contains-push_cases rs r b h
    ]

slice_get-append : {X : Type 0} (xs ys : List X) (i : ℕ) → i < length xs → slice_get (xs ++ ys) i ≡ slice_get xs i
slice_get-append [] ys i l = absurd (omega (arith, l))
slice_get-append (z ∷ zs) ys zero l = refl
slice_get-append (z ∷ zs) ys (suc i) l = slice_get-append zs ys i (omega arith)

slice_get-with_ref : (rs : List Ref) (r : Ref) (i : ℕ) → i < length rs → slice_get (with_ref rs r) i ≡ slice_get rs i
slice_get-with_ref rs r i l =
    elim (list_any (ref_eq r) rs) as (λ t. slice_get (cond t rs (rs ++ r ∷ [])) i ≡ slice_get rs i) [ true ↦ refl | false ↦ slice_get-append rs (r ∷ []) i l ]

length-with_ref-le : (rs : List Ref) (r : Ref) → length rs ≤ length (with_ref rs r)
length-with_ref-le rs r =
    elim (list_any (ref_eq r) rs) as (λ t. length rs ≤ length (cond t rs (rs ++ r ∷ []))) [ true ↦ omega arith | false ↦ omega (arith, length-append rs (r ∷ [])) ]

pub Contains-with_refs_old : (xs rs : List Ref) (b : Ref) → Contains rs b → Contains (with_refs rs xs) b
Contains-with_refs_old [] rs b h = h
Contains-with_refs_old (x ∷ xs) rs b h = Contains-with_refs_old xs (with_ref rs x) b (Contains-with_ref_old rs x b h)

pub slice_get-with_refs : (xs rs : List Ref) (i : ℕ) → i < length rs → slice_get (with_refs rs xs) i ≡ slice_get rs i
slice_get-with_refs [] rs i l = refl
slice_get-with_refs (x ∷ xs) rs i l = slice_get-with_refs xs (with_ref rs x) i (omega (arith, length-with_ref-le rs x)) ∙ slice_get-with_ref rs x i l

pub Contains-cons_cases : {X : Type 0} (x : X) (xs : List X) (b : X) → Contains (x ∷ xs) b → (x ≡ b) ⊎ Contains xs b
Contains-cons_cases x xs b (zero, l, e) = inl e
Contains-cons_cases x xs b (suc k, l, e) = inr (k, omega arith, e)

pub Contains-cons : {X : Type 0} (x : X) (xs : List X) (b : X) → Contains xs b → Contains (x ∷ xs) b
Contains-cons x xs b h = Contains-append_right (x ∷ []) xs b h

pub Contains-head : {X : Type 0} (x : X) (xs : List X) (b : X) → x ≡ b → Contains (x ∷ xs) b
Contains-head x xs b e = subst (Contains (x ∷ xs)) e (Contains-get_or (x ∷ xs) 0 x (omega arith))

pub Contains-none : {X : Type 0} (b : X) → Contains [] b → ⊥
Contains-none b h = omega (arith, h.1)

pub Contains-with_refs_new : (xs rs : List Ref) (b : Ref) → Contains xs b → Contains (with_refs rs xs) b
Contains-with_refs_new [] rs b h = absurd (omega (arith, h.1))
Contains-with_refs_new (x ∷ xs) rs b h =
    elim (Contains-cons_cases x xs b h) [
      | inl e ↦ Contains-with_refs_old xs (with_ref rs x) b (subst (λ y. Contains (with_ref rs x) y) e (Contains-with_ref_new rs x))
      | inr t ↦ Contains-with_refs_new xs (with_ref rs x) b t
    ]

pub Contains-with_refs_cases : (xs rs : List Ref) (b : Ref) → Contains (with_refs rs xs) b → Contains rs b ⊎ Contains xs b
Contains-with_refs_cases [] rs b h = inl h
Contains-with_refs_cases (x ∷ xs) rs b h =
    elim (Contains-with_refs_cases xs (with_ref rs x) b h) [
      | inl t ↦ elim (Contains-with_ref_cases rs x b t) [ inl u ↦ inl u | inr e ↦ inr (Contains-head x xs b e) ]
      | inr t ↦ inr (Contains-cons x xs b t)
    ]

pub within_at : {X : Type 0} (xs : List X) (i : ℕ) (x : X) → slice_get xs i ≡ Some x → i < length xs
within_at [] i x e = grind (arith, common_steps)
within_at (y ∷ ys) zero x e = omega arith
within_at (y ∷ ys) (suc i) x e = omega (arith, within_at ys i x e)

pub Contains-at : {X : Type 0} (xs : List X) (i : ℕ) (x : X) → slice_get xs i ≡ Some x → Contains xs x
Contains-at [] i x e = grind (arith, common_steps)
Contains-at (y ∷ ys) zero x e = Contains-head y ys x (cc)
Contains-at (y ∷ ys) (suc i) x e = Contains-cons y ys x (Contains-at ys i x e)

pub at_Contains : {X : Type 0} (xs : List X) (x : X) → Contains xs x → (i : ℕ) × (i < length xs) × (slice_get xs i ≡ Some x)
at_Contains [] x (k, l, e) = absurd (omega (arith, l))
at_Contains (y ∷ ys) x (zero, l, e) = (0, omega arith, ap Some e)
at_Contains (y ∷ ys) x (suc k, l, e) =
    let t = at_Contains ys x (k, omega arith, e) in (suc t.0, omega (arith, t.1), t.2)
