-- What finite maps give.
use Rattle.std.proofs.Common.{◌≡◌, Bool, true, false, List, [], ◌∷◌, ◌++◌, map, Option, Some, None, refl, ap, ◌∙◌, subst, sym, if◌then◌else◌, inl, inr, ⊎_elim}
use Rattle.std.specs.Prelude.{filter, option_map}
use Rattle.std.specs.Option.{option_map_or}
use Rattle.std.specs.List.{flat_map}
use Rattle.std.proofs.lemmas.Bool.{or_cases, or_parts, or_left, or_right, cases_Bool, both_ways, cond-true, cond-false}
use Rattle.ob_inputs.specs.Same.{is_in, at}
use Rattle.ob_base.specs.Labels.{Label, same_label}
use Rattle.ob_worlds.proofs.SameLaws.{label_are}
use Rattle.ob_worlds.proofs.OutcomeLaws.{In}

pub at_map : {A : Type 0} (f : Label → A) (ls : List Label) (k : Label) → In k ls → at same_label (map (λ l. (l, f l)) ls) k ≡ Some (f k)
at_map {A} f [] k h = absurd (both_ways false refl h)
at_map {A} f (l ∷ ls) k h = elim (cases_Bool (same_label k l)) [
  | inl t ↦ rw t (ap (λ x. Some (f x)) (sym (label_are k l t)))
  | inr n ↦ rw n (at_map f ls k (⊎_elim (λ e. absurd (both_ways _ n e)) (λ r. r) (or_cases _ _ h)))
]

pub at_values : {A B : Type 0} (g : A → B) (ps : List (Label × A)) (k : Label) → at same_label (map (λ (p : Label × A). (p.0, g p.1)) ps) k ≡ option_map g (at same_label ps k)
at_values {A} {B} g [] k = refl
at_values {A} {B} g (p ∷ ps) k = elim (cases_Bool (same_label k p.0)) [
  | inl t ↦ rw t refl
  | inr n ↦ rw n (at_values g ps k)
]

pub at_filter : {A : Type 0} (q : Label → Bool) (ps : List (Label × A)) (k : Label) → at same_label (filter (λ (p : Label × A). q p.0) ps) k ≡ (if q k then at same_label ps k else None)
at_filter {A} q [] k = let none : Option A = None in elim (cases_Bool (q k)) [ inl y ↦ sym (cond-true (q k) none none y) | inr y ↦ sym (cond-false (q k) none none y) ]
at_filter {A} q (p ∷ ps) k = elim (cases_Bool (same_label k p.0)) [
  | inl t ↦
      let e : q p.0 ≡ q k = ap q (sym (label_are k p.0 t)) in
      elim (cases_Bool (q k)) [
        | inl y ↦ rw (e ∙ y, y, t) refl
        | inr y ↦ rw (e ∙ y, y) (at_filter q ps k ∙ cond-false _ _ _ y)
      ]
  | inr n ↦ elim (cases_Bool (q p.0)) [
    | inl y ↦ rw (y, n) (at_filter q ps k)
    | inr y ↦ rw (y, n) (at_filter q ps k)
  ]
]

-- the entries that h gives something of
abbrev pub entries : {A B : Type 0} → (A → Option B) → List (Label × A) → List (Label × B)
entries {A} {B} g ps = flat_map (λ (p : Label × A). option_map_or (λ b. (p.0, b) ∷ []) (g p.1) []) ps

-- one entry more in front
entry_none : {B : Type 0} (k l : Label) (o : Option B) (rest : List (Label × B)) → (same_label k l ≡ true → o ≡ None) → at same_label rest k ≡ None
    → at same_label (option_map_or (λ b. (l, b) ∷ []) o [] ++ rest) k ≡ None
entry_none {B} k l None rest h r = r
entry_none {B} k l (Some b) rest h r = elim (cases_Bool (same_label k l)) [
  | inl t ↦ rw t (h t)
  | inr n ↦ rw n r
]

entry_some : {B : Type 0} (k l : Label) (o x : Option B) (rest : List (Label × B)) → (same_label k l ≡ true → o ≡ x) → (same_label k l ≡ false → at same_label rest k ≡ x)
    → (x ≡ None → at same_label rest k ≡ None) → at same_label (option_map_or (λ b. (l, b) ∷ []) o [] ++ rest) k ≡ x
entry_some {B} k l None x rest h r z = elim (cases_Bool (same_label k l)) [
  | inl t ↦ z (sym (h t)) ∙ h t
  | inr n ↦ r n
]
entry_some {B} k l (Some b) x rest h r z = elim (cases_Bool (same_label k l)) [
  | inl t ↦ rw t (h t)
  | inr n ↦ rw n (r n)
]

pub at_nothing : {A B : Type 0} (g : A → Option B) (f : Label → A) (ls : List Label) (k : Label) → g (f k) ≡ None → at same_label (entries g (map (λ l. (l, f l)) ls)) k ≡ None
at_nothing {A} {B} g f [] k h = refl
at_nothing {A} {B} g f (l ∷ ls) k h = entry_none k l (g (f l)) _ (λ t. ap (λ x. g (f x)) (sym (label_are k l t)) ∙ h) (at_nothing g f ls k h)

pub at_entries : {A B : Type 0} (g : A → Option B) (f : Label → A) (ls : List Label) (k : Label) → In k ls → at same_label (entries g (map (λ l. (l, f l)) ls)) k ≡ g (f k)
at_entries {A} {B} g f [] k h = absurd (both_ways false refl h)
at_entries {A} {B} g f (l ∷ ls) k h = entry_some k l (g (f l)) (g (f k)) _ (λ t. ap (λ x. g (f x)) (sym (label_are k l t)))
    (λ n. at_entries g f ls k (⊎_elim (λ e. absurd (both_ways _ n e)) (λ r. r) (or_cases _ _ h))) (at_nothing g f ls k)

pub in_filter : (p : Label → Bool) (ls : List Label) (k : Label) → In k ls → p k ≡ true → In k (filter p ls)
in_filter p [] k h y = h
in_filter p (l ∷ ls) k h y = elim (cases_Bool (p l)) [
  | inl t ↦ rw t (⊎_elim (λ e. or_left _ _ e) (λ r. or_right (same_label k l) _ (in_filter p ls k r y)) (or_cases _ _ h))
  | inr n ↦ rw n (⊎_elim (λ e. absurd (both_ways _ n (subst (λ x. p x ≡ true) (label_are k l e) y))) (λ r. in_filter p ls k r y) (or_cases _ _ h))
]

pub at_map_none : {A : Type 0} (f : Label → A) (ls : List Label) (k : Label) → is_in same_label k ls ≡ false → at same_label (map (λ l. (l, f l)) ls) k ≡ None
at_map_none {A} f [] k h = refl
at_map_none {A} f (l ∷ ls) k h = let p = or_parts (same_label k l) _ h in rw p.0 (at_map_none f ls k p.1)

pub from_filter : (p : Label → Bool) (ls : List Label) (k : Label) → In k (filter p ls) → In k ls × (p k ≡ true)
from_filter p [] k h = absurd (both_ways false refl h)
from_filter p (l ∷ ls) k h = elim (cases_Bool (p l)) [
  | inl t ↦ ⊎_elim (λ e. (or_left _ _ e, subst (λ x. p x ≡ true) (sym (label_are k l e)) t)) (λ r. let w = from_filter p ls k r in (or_right (same_label k l) _ w.0, w.1))
      (or_cases _ _ (subst (λ xs. In k xs) (cond-true (p l) _ _ t) h))
  | inr n ↦ let w = from_filter p ls k (subst (λ xs. In k xs) (cond-false (p l) _ _ n) h) in (or_right (same_label k l) _ w.0, w.1)
]
