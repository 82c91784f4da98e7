-- What a chain of places answers.
use Rattle.std.proofs.Common.{◌≡◌, ℕ, zero, suc, ◌+◌, ◌<◌, Bool, true, false, List, [], ◌∷◌, length, ◌⊎◌, refl, subst, sym, ◌∙◌, inl, inr, ⊎_elim, arith}
use Rattle.std.specs.List.{list_any}
use Rattle.std.specs.Set.{remove_key}
use Rattle.std.proofs.lemmas.Map.Made.{length-remove_key}
use Rattle.std.proofs.lemmas.Bool.{cases_Bool, cond-true, cond-false, or_cases, or_left, or_right, both_ways}
use Rattle.ob_inputs.specs.Same.{IsTest, is_in}
use Rattle.ob_inputs.specs.Chains.{Step, step_on, is_first, follow, LeadsInside}
use Rattle.ob_inputs.specs.Chains.Step.{answer, go}

gives_on : {K A : Type 0} (f : K → A) (Ok : K → Type 0) (Good : A → Type 0) → ((q : K) → Ok q → Good (f q)) → (s : Step K A)
    → ((a : A) → s ≡ answer a → Good a) → ((q : K) → s ≡ go q → Ok q) → Good (step_on f s)
gives_on {K} {A} f Ok Good rec (answer a) ends leads = ends a refl
gives_on {K} {A} f Ok Good rec (go q) ends leads = rec q (leads q refl)

-- Where each place that is met leads to a place, or to an answer, as it should, so does the chain.
pub follow_gives : {K A : Type 0} (same : K → K → Bool) (next : Bool → K → Step K A) (again : K → A) (Ok : K → Type 0) (Good : A → Type 0)
    → ((b : Bool) (p : K) (a : A) → Ok p → next b p ≡ answer a → Good a) → ((b : Bool) (p q : K) → Ok p → next b p ≡ go q → Ok q) → ((p : K) → Ok p → Good (again p))
    → (n : ℕ) (met : List K) (p : K) → Ok p → Good (follow same next again n met p)
unfolding follow
follow_gives {K} {A} same next again Ok Good ends leads back zero met p ok = back p ok
follow_gives {K} {A} same next again Ok Good ends leads back (suc n) met p ok = elim (cases_Bool (list_any (same p) met)) [
  | inl t ↦ subst Good (sym (cond-true (list_any (same p) met) _ _ t)) (back p ok)
  | inr f ↦ subst Good (sym (cond-false (list_any (same p) met) _ _ f))
      (gives_on (follow same next again n (p ∷ met)) Ok Good (λ q o. follow_gives same next again Ok Good ends leads back n (p ∷ met) q o) (next (is_first met) p)
      (λ a e. ends (is_first met) p a ok e) (λ q e. leads (is_first met) p q ok e))
]

module _ {K : Type 0} (same : K → K → Bool) (test : IsTest same) where
  -- taking one place away leaves the others
  others_stay : (p x : K) (xs : List K) → same x p ≡ false → is_in same x xs ≡ true → is_in same x (remove_key (same p) xs) ≡ true
  others_stay p x [] ne m = m
  others_stay p x (y ∷ ys) ne m = elim (cases_Bool (same p y)) [
    | inl t ↦ rw t (⊎_elim (λ e. absurd (both_ways _ ne (subst (λ z. same x z ≡ true) (sym (test.exact p y t)) e))) (λ r. r) (or_cases _ _ m))
    | inr f ↦ rw f (⊎_elim (λ e. or_left _ _ e) (λ r. or_right (same x y) _ (others_stay p x ys ne r)) (or_cases _ _ m))
  ]

  -- each place that one is led to is fresh or was met
  abbrev Covers : {A : Type 0} → (Bool → K → Step K A) → List K → List K → List K → Type 0
  Covers {A} next places fresh met = (q : K) → is_in same q places ≡ true → (is_in same q fresh ≡ true) ⊎ (is_in same q met ≡ true)

  step_same : {A : Type 0} (f g : K → A) (s : Step K A) → ((q : K) → s ≡ go q → f q ≡ g q) → step_on f s ≡ step_on g s
  step_same {A} f g (answer a) h = refl
  step_same {A} f g (go q) h = h q refl

  moved : (p q : K) (fresh met : List K) → (is_in same q fresh ≡ true) ⊎ (is_in same q met ≡ true) → (is_in same q (remove_key (same p) fresh) ≡ true) ⊎ (is_in same q (p ∷ met) ≡ true)
  moved p q fresh met (inr m) = inr (or_right (same q p) _ m)
  moved p q fresh met (inl m) = elim (cases_Bool (same q p)) [ inl t ↦ inr (or_left _ _ t) | inr f ↦ inl (others_stay p q fresh f m) ]

  unmet : (p : K) (fresh met : List K) → is_in same p met ≡ false → (is_in same p fresh ≡ true) ⊎ (is_in same p met ≡ true) → is_in same p fresh ≡ true
  unmet p fresh met f (inl a) = a
  unmet p fresh met f (inr b) = absurd (both_ways _ f b)

  -- with more turns than fresh places, a turn more gives the same
  pub follow_settled : {A : Type 0} (places : List K) (next : Bool → K → Step K A) (again : K → A) → LeadsInside same places next
      → (n : ℕ) (fresh met : List K) (p : K) → is_in same p places ≡ true
      → ((q : K) → is_in same q places ≡ true → (is_in same q fresh ≡ true) ⊎ (is_in same q met ≡ true)) → length fresh < n
      → follow same next again (suc n) met p ≡ follow same next again n met p
  unfolding follow
  follow_settled {A} places next again inside zero fresh met p here covers few = absurd (omega arith)
  follow_settled {A} places next again inside (suc n) fresh met p here covers few = elim (cases_Bool (list_any (same p) met)) [
    | inl t ↦ rw t refl
    | inr f ↦ rw f (step_same (follow same next again (suc n) (p ∷ met)) (follow same next again n (p ∷ met)) (next (is_first met) p)
        (λ q e. let r = length-remove_key (same p) fresh (unmet p fresh met f (covers p here)) in
        follow_settled places next again inside n (remove_key (same p) fresh) (p ∷ met) q (inside (is_first met) p q here e)
        (λ x i. moved p x fresh met (covers x i)) (omega (arith, r))))
  ]

  -- so as many turns as places and one are enough
  pub turns_enough : {A : Type 0} (places : List K) (next : Bool → K → Step K A) (again : K → A) → LeadsInside same places next
      → (p : K) → is_in same p places ≡ true → (more : ℕ)
      → follow same next again (more + suc (length places)) [] p ≡ follow same next again (suc (length places)) [] p
  turns_enough {A} places next again inside p here zero = subst (λ n. follow same next again n [] p ≡ follow same next again (suc (length places)) [] p) (omega arith) refl
  turns_enough {A} places next again inside p here (suc more) =
      subst (λ n. follow same next again n [] p ≡ follow same next again (suc (length places)) [] p) (omega arith)
      (follow_settled places next again inside (more + suc (length places)) places [] p here (λ q i. inl i) (omega arith) ∙ turns_enough places next again inside p here more)
