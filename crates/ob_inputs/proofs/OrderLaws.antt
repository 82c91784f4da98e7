-- Filling in values in an order in which inputs stand first is recursion over inputs.
use Rattle.std.proofs.Common.{◌≡◌, Bool, true, false, ◌||◌, List, [], ◌∷◌, Some, if◌then◌else◌, inl, inr, ⊎_elim, sym, refl, ap, ◌∙◌}
use Rattle.std.specs.Prelude.{unwrap_or}
use Rattle.std.proofs.lemmas.Bool.{or_cases, or_left, or_right, cases_Bool, both_ways, cond-true, cond-false}
use Rattle.ob_inputs.specs.Same.{IsTest, is_in, at}
use Rattle.ob_inputs.specs.Paths.{circular, OnlyNodes}
use Rattle.ob_inputs.specs.Values.{by_inputs, LooksAt}
use Rattle.ob_inputs.specs.Orders.{known_at, filled, InOrder}
use Rattle.ob_inputs.proofs.ValueLaws as laws

module _ {K : Type 0} (same : K → K → Bool) (test : IsTest same) where
  -- the known values of nodes are those of `value`, and these nodes are known
  pub record Holds {A : Type 0} (value : K → A) (known : List (K × A)) (before : List K) : Type 0 where
    pub here : (u : K) → is_in same u before ≡ true → at same known u ≡ Some (value u)

  more : {A : Type 0} (value : K → A) (known : List (K × A)) (before : List K) (v : K) (x : A) → Holds value known before → x ≡ value v → Holds value ((v, x) ∷ known) (v ∷ before)
  more {A} value known before v x h e = record {
    here = λ u m. elim (cases_Bool (same u v)) [
      | inl t ↦ rw t (ap Some (e ∙ ap value (sym (test.exact u v t))))
      | inr n ↦ rw n (h.here u (⊎_elim (λ y. absurd (both_ways _ n y)) (λ r. r) (or_cases _ _ m)))
    ];
  }

  -- a node whose inputs are known gets its value
  right : {A : Type 0} (nodes : List K) (ins : K → List K) → OnlyNodes same nodes ins → (stop : K → A) (step : K → (K → A) → A) → LooksAt same ins step
      → (known : List (K × A)) (before : List K) → Holds (by_inputs same nodes ins stop step) known before
      → (w : K) → (circular same nodes ins w ≡ false → (u : K) → is_in same u (ins w) ≡ true → is_in same u before ≡ true)
      → (if circular same nodes ins w then stop w else step w (known_at same stop known)) ≡ by_inputs same nodes ins stop step w
  right {A} nodes ins only stop step looks known before h w need = elim (cases_Bool (circular same nodes ins w)) [
    | inl t ↦ cond-true _ _ _ t ∙ sym (cond-true _ _ _ t) ∙ sym (laws.unfolds same test nodes ins only stop step looks w)
    | inr f ↦
        cond-false _ _ _ f
        ∙ looks w (known_at same stop known) (by_inputs same nodes ins stop step) (λ u m. ap (λ o. unwrap_or o (stop u)) (h.here u (need f u m)))
        ∙ sym (cond-false _ _ _ f) ∙ sym (laws.unfolds same test nodes ins only stop step looks w)
  ]

  turn : (v w : K) (ws before : List K) → (is_in same v (w ∷ ws) || is_in same v before) ≡ true → (is_in same v ws || is_in same v (w ∷ before)) ≡ true
  turn v w ws before m = ⊎_elim
      (λ a. ⊎_elim (λ e. or_right (is_in same v ws) _ (or_left (same v w) (is_in same v before) e)) (λ r. or_left (is_in same v ws) _ r) (or_cases (same v w) (is_in same v ws) a))
      (λ b. or_right (is_in same v ws) _ (or_right (same v w) _ b))
      (or_cases (is_in same v (w ∷ ws)) (is_in same v before) m)

  -- the values of the nodes of a list in order are those of the recursion
  pub filled_holds : {A : Type 0} (nodes : List K) (ins : K → List K) → OnlyNodes same nodes ins → (stop : K → A) (step : K → (K → A) → A) → LooksAt same ins step
      → (known : List (K × A)) (before order : List K) → Holds (by_inputs same nodes ins stop step) known before → InOrder same ins (circular same nodes ins) before order
      → (v : K) → (is_in same v order || is_in same v before) ≡ true
      → at same (filled same (circular same nodes ins) stop step known order) v ≡ Some (by_inputs same nodes ins stop step v)
  filled_holds {A} nodes ins only stop step looks known before [] h o v m = h.here v m
  filled_holds {A} nodes ins only stop step looks known before (w ∷ ws) h o v m =
      filled_holds nodes ins only stop step looks ((w, if circular same nodes ins w then stop w else step w (known_at same stop known)) ∷ known) (w ∷ before) ws
      (more (by_inputs same nodes ins stop step) known before w _ h (right nodes ins only stop step looks known before h w o.0)) o.1 v (turn v w ws before m)

  -- from nothing that is known
  pub filled_from_nothing : {A : Type 0} (nodes : List K) (ins : K → List K) → OnlyNodes same nodes ins → (stop : K → A) (step : K → (K → A) → A) → LooksAt same ins step
      → (order : List K) → InOrder same ins (circular same nodes ins) [] order → (v : K) → is_in same v order ≡ true
      → at same (filled same (circular same nodes ins) stop step [] order) v ≡ Some (by_inputs same nodes ins stop step v)
  filled_from_nothing {A} nodes ins only stop step looks order o v m =
      filled_holds nodes ins only stop step looks [] [] order (record { here = λ u e. absurd (both_ways false refl e) }) o v (or_left _ _ m)
