-- Roots: what stays sound where they change. A caller has one list of all its roots, and these laws move values into it
-- and out of it.
use Rattle.std.proofs.Common.{◌≡◌, ◌⊎◌, ℕ, zero, suc, Some, List, [], ◌∷◌, ◌++◌, subst, sym, inl, inr}
use Rattle.std.proofs.lemmas.List.Elements.{Contains-append_cases}
use Rattle.std.specs.List.{Contains}
use Rattle.ob_items.specs.declared.value.Value.{Value}
use Rattle.ob_items.specs.Item.{Item}
use Rattle.ob_values.specs.Store.{Store, item_of}
use Rattle.ob_values.specs.Reach.{Walk, Reaches}
use Rattle.ob_values.specs.Sound.{Pointer, pointers_inside, pointers_from, pointers_of, leads_to, IsSound}
use Rattle.ob_values.proofs.ReachLemmas.{Reaches-root, Reaches-step}
use Rattle.ob_values.proofs.SeenLemmas.{Contains-cons_cases, Contains-none}
use Rattle.ob_values.proofs.PointerLemmas.{from_values, to_values}

module _ {N : Type 0} (next : N → List N) where
  -- what reached roots reach is reached
  pub Reaches-from : (roots new : List N) → ((r : N) → Contains new r → Reaches next roots r) → (b : N) → Reaches next new b → Reaches next roots b
  Reaches-from roots new reached b h = by h.steps b h.walk
    where
      by : (k : ℕ) (b : N) → Walk next h.from b k → Reaches next roots b
      by zero b e = subst (Reaches next roots) e (reached h.from h.start)
      by (suc k) b t = Reaches-step next roots t.0 b (by k t.0 t.1) t.2

  -- what is reached is reached from more roots
  pub Reaches-more : (roots more : List N) → ((r : N) → Contains roots r → Contains more r) → (b : N) → Reaches next roots b → Reaches next more b
  Reaches-more roots more within b h = Reaches-from more roots (λ r c. Reaches-root next more r (within r c)) b h

-- roots that are reached from sound ones are sound
pub IsSound-reached : (s : Store) (roots new : List Pointer) → ((p : Pointer) → Contains new p → Reaches (leads_to s) roots p) → IsSound s roots → IsSound s new
IsSound-reached s roots new reached sound p h = sound p (Reaches-from (leads_to s) roots new reached p h)

-- fewer roots
pub IsSound-fewer : (s : Store) (roots fewer : List Pointer) → ((p : Pointer) → Contains fewer p → Contains roots p) → IsSound s roots → IsSound s fewer
IsSound-fewer s roots fewer within = IsSound-reached s roots fewer (λ p h. Reaches-root (leads_to s) roots p (within p h))

-- all that the first or the second roots reach
Reaches-either : {N : Type 0} (next : N → List N) (a b : List N) (x : N) → Reaches next (a ++ b) x → Reaches next a x ⊎ Reaches next b x
Reaches-either {N} next a b x h = by h.steps x h.walk
  where
    by : (k : ℕ) (x : N) → Walk next h.from x k → Reaches next a x ⊎ Reaches next b x
    by zero x e =
        subst (λ y. Reaches next a y ⊎ Reaches next b y) e
        (elim (Contains-append_cases a b h.from h.start) [ inl l ↦ inl (Reaches-root next a h.from l) | inr r ↦ inr (Reaches-root next b h.from r) ])
    by (suc k) x t =
        elim (by k t.0 t.1) [ inl l ↦ inl (Reaches-step next a t.0 x l t.2) | inr r ↦ inr (Reaches-step next b t.0 x r t.2) ]

-- roots beside each other
pub IsSound-append : (s : Store) (a b : List Pointer) → IsSound s a → IsSound s b → IsSound s (a ++ b)
IsSound-append s a b left right p h = elim (Reaches-either (leads_to s) a b p h) [ inl l ↦ left p l | inr r ↦ right p r ]

-- what an item holds is reached where it is
pub Reaches-inside : (s : Store) (roots : List Pointer) (p q : Pointer) (item : Item) → Reaches (leads_to s) roots p → item_of s p.1 ≡ Some item
    → Contains (pointers_inside item.frozen item.body) q → Reaches (leads_to s) roots q
Reaches-inside s roots p q item r is h = Reaches-step (leads_to s) roots p q r (subst (λ o. Contains (pointers_from o) q) (sym is) h)

-- no roots
pub IsSound-none : (s : Store) → IsSound s []
IsSound-none s p h = absurd (Contains-none h.from h.start)

-- what a root leads to at once is reached
pub Reaches-value : (s : Store) (roots : List Value) (v : Value) → Contains roots v → (p : Pointer) → Contains (pointers_of (v ∷ [])) p → Reaches (leads_to s) (pointers_of roots) p
Reaches-value s roots v among p h =
    let t = from_values (v ∷ []) p h in
    Reaches-root (leads_to s) (pointers_of roots) p
    (elim (Contains-cons_cases v [] t.0 t.1) [ inl e ↦ to_values roots t.0 p (subst (Contains roots) e among) t.2 | inr n ↦ absurd (Contains-none t.0 n) ])
