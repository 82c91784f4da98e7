-- A search finds exactly what is reached.
use Rattle.std.proofs.Common.{◌≡◌, ℕ, zero, suc, ◌+◌, ◌<◌, ◌≤◌, Some, List, [], refl, slice_get, ap, subst, ◌∙◌, sym, arith, length, inl, inr, Option}
use Rattle.std.proofs.lemmas.Bool.{cases_lt}
use Rattle.std.specs.List.{Contains}
use Rattle.ob_items.specs.declared.value.Ref.{Ref}
use Rattle.ob_values.specs.Reach.{Walk, Reaches}
use Rattle.ob_values.specs.Freeze.{with_refs}
use Rattle.ob_values.proofs.SeenLemmas.{Contains-with_refs_old, Contains-with_refs_new, Contains-with_refs_cases, slice_get-with_refs, within_at, Contains-at, at_Contains}

-- a search that has looked into the first `at` of those that it met
pub record IsSearch (next : Ref → List Ref) (roots seen : List Ref) (at : ℕ) : Type 0 where
  pub starts : (b : Ref) → Contains roots b → Contains seen b
  pub sound : (b : Ref) → Contains seen b → Reaches next roots b
  pub closed : (i : ℕ) (a b : Ref) → i < at → slice_get seen i ≡ Some a → Contains (next a) b → Contains seen b

pub Reaches-root : {N : Type 0} (next : N → List N) (roots : List N) (b : N) → Contains roots b → Reaches next roots b
Reaches-root next roots b h = record { from = b; start = h; steps = 0; walk = refl }

pub Reaches-step : {N : Type 0} (next : N → List N) (roots : List N) (a b : N) → Reaches next roots a → Contains (next a) b → Reaches next roots b
Reaches-step next roots a b r h = record { from = r.from; start = r.start; steps = suc r.steps; walk = (a, r.walk, h) }

module _ (next : Ref → List Ref) (roots : List Ref) where
  pub search-start : (seen : List Ref) → seen ≡ with_refs [] roots → IsSearch next roots seen 0
  search-start seen e = subst (λ l. IsSearch next roots l 0) (sym e) (record {
    starts = λ b h. Contains-with_refs_new roots [] b h;
    sound = λ b h. elim (Contains-with_refs_cases roots [] b h) [ inl t ↦ absurd (omega (arith, t.1)) | inr t ↦ Reaches-root next roots b t ];
    closed = λ i a b l. absurd (omega (arith, l));
  })

module _ (next : Ref → List Ref) (roots seen : List Ref) (at : ℕ) (search_ : IsSearch next roots seen at) where
  pub search-step : (a : Ref) (new : List Ref) → slice_get seen at ≡ Some a → new ≡ with_refs seen (next a) → IsSearch next roots new (at + 1)
  search-step a new e n = subst (λ l. IsSearch next roots l (at + 1)) (sym n) (record { starts = starts; sound = sound; closed = closed })
    where
      starts : (b : Ref) → Contains roots b → Contains (with_refs seen (next a)) b
      starts b h = Contains-with_refs_old (next a) seen b (search_.starts b h)

      sound : (b : Ref) → Contains (with_refs seen (next a)) b → Reaches next roots b
      sound b h = elim (Contains-with_refs_cases (next a) seen b h) [
        | inl t ↦ search_.sound b t
        | inr t ↦ Reaches-step next roots a b (search_.sound a (Contains-at seen at a e)) t
      ]

      closed : (i : ℕ) (x b : Ref) → i < at + 1 → slice_get (with_refs seen (next a)) i ≡ Some x → Contains (next x) b → Contains (with_refs seen (next a)) b
      closed i x b l g h =
          let w : at < length seen = within_at seen at a e in
          let old : slice_get seen i ≡ Some x = sym (slice_get-with_refs (next a) seen i (omega arith)) ∙ g in
          elim (cases_lt i at) [
            | inl lt ↦ Contains-with_refs_old (next a) seen b (search_.closed i x b lt old h)
            | inr ge ↦
                let same : i ≡ at = omega arith in
                let which : ◌≡◌ {A = Option Ref} (Some a) (Some x) = sym e ∙ ap (slice_get seen) (sym same) ∙ old in
                let here : x ≡ a = cc in
                Contains-with_refs_new (next a) seen b (subst (λ y. Contains (next y) b) here h)
          ]

  pub search-end : length seen ≤ at → (b : Ref) → Reaches next roots b → Contains seen b
  search-end l b r = by r.steps b r.walk
    where
      by : (n : ℕ) (b : Ref) → Walk next r.from b n → Contains seen b
      by zero b w = subst (Contains seen) w (search_.starts r.from r.start)
      by (suc n) b w =
          let t = at_Contains seen w.0 (by n w.0 w.1) in
          search_.closed t.0 w.0 b (omega (arith, t.1)) t.2 w.2
