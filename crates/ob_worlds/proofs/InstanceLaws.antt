-- The instances of notebooks: each stands below one that imports, and leads to those that it imports.
use Rattle.std.proofs.Common.{◌≡◌, ℕ, true, false, List, [], ◌∷◌, ◌++◌, map, Option, Some, ◌⊎◌, inl, inr, ⊎_elim, sym, refl, ap, ◌∙◌, subst}
use Rattle.std.specs.Prelude.{bytes_eq}
use Rattle.std.specs.Option.{option_map_or}
use Rattle.std.specs.List.{flat_map}
use Rattle.std.proofs.lemmas.Bool.{or_left, or_right, both_ways, cond-false}
use Rattle.ob_inputs.specs.Same.{IsTest, is_in}
use Rattle.ob_inputs.specs.Paths.{circular, OnlyNodes}
use Rattle.ob_inputs.specs.Values.{LooksAt}
use Rattle.ob_inputs.proofs.ValueLaws as laws
use Rattle.ob_worlds.specs.Modules.{Modules, With, ids, withs, with_at}
use Rattle.ob_worlds.specs.Instances.{with_sources, below, notebook_at}
use Rattle.ob_worlds.proofs.SameLaws.{bytes_are, bytes_self}

bytes_test : IsTest bytes_eq
bytes_test = record { exact = bytes_are; self = bytes_self }

-- x is an element
abbrev pub In : {X : Type 0} → X → List X → Type 0
In {X} x [] = ⊥
In {X} x (y ∷ ys) = (x ≡ y) ⊎ In x ys

pub in_left : {X : Type 0} (x : X) (xs ys : List X) → In x xs → In x (xs ++ ys)
in_left x [] ys m = elim m [ ]
in_left x (z ∷ xs) ys (inl e) = inl e
in_left x (z ∷ xs) ys (inr m) = inr (in_left x xs ys m)

pub in_right : {X : Type 0} (x : X) (xs ys : List X) → In x ys → In x (xs ++ ys)
in_right x [] ys m = m
in_right x (z ∷ xs) ys m = inr (in_right x xs ys m)

pub in_parts : {X : Type 0} (x : X) (xs ys : List X) → In x (xs ++ ys) → In x xs ⊎ In x ys
in_parts x [] ys m = inr m
in_parts x (z ∷ xs) ys (inl e) = inl (inl e)
in_parts x (z ∷ xs) ys (inr m) = ⊎_elim (λ a. inl (inr a)) (λ b. inr b) (in_parts x xs ys m)

pub in_map : {X Y : Type 0} (f : X → Y) (x : X) (xs : List X) → In x xs → In (f x) (map f xs)
in_map f x [] m = elim m [ ]
in_map f x (z ∷ xs) (inl e) = inl (ap f e)
in_map f x (z ∷ xs) (inr m) = inr (in_map f x xs m)

pub from_map : {X Y : Type 0} (f : X → Y) (y : Y) (xs : List X) → In y (map f xs) → (x : X) × In x xs × (y ≡ f x)
from_map f y [] m = elim m [ ]
from_map f y (z ∷ xs) (inl e) = (z, inl refl, e)
from_map f y (z ∷ xs) (inr m) = let r = from_map f y xs m in (r.0, inr r.1, r.2)

pub in_flat : {X Y : Type 0} (f : X → List Y) (x : X) (y : Y) (xs : List X) → In x xs → In y (f x) → In y (flat_map f xs)
in_flat f x y [] at m = elim at [ ]
in_flat f x y (z ∷ xs) (inl e) m = in_left y (f z) (flat_map f xs) (subst (λ z. In y (f z)) e m)
in_flat f x y (z ∷ xs) (inr at) m = in_right y (f z) (flat_map f xs) (in_flat f x y xs at m)

pub from_flat : {X Y : Type 0} (f : X → List Y) (y : Y) (xs : List X) → In y (flat_map f xs) → (x : X) × In x xs × In y (f x)
from_flat f y [] m = elim m [ ]
from_flat f y (z ∷ xs) m = ⊎_elim (λ a. (z, inl refl, a)) (λ b. let r = from_flat f y xs b in (r.0, inr r.1, r.2)) (in_parts y (f z) (flat_map f xs) m)

is_in_from : (x : List ℕ) (xs : List (List ℕ)) → In x xs → is_in bytes_eq x xs ≡ true
is_in_from x [] m = elim m [ ]
is_in_from x (y ∷ ys) (inl e) = or_left _ _ (subst (λ z. bytes_eq x z ≡ true) e (bytes_self x))
is_in_from x (y ∷ ys) (inr m) = or_right (bytes_eq x y) _ (is_in_from x ys m)

-- no import with injected names leads back, only notebooks have such imports, and each is found by the serial of its cell
pub record Sound (M : Modules) : Type 0 where
  pub only : OnlyNodes bytes_eq (ids M) (with_sources M)
  pub acyclic : (id : List ℕ) → circular bytes_eq (ids M) (with_sources M) id ≡ false
  pub found : (id : List ℕ) (w : With) → In w (withs M id) → with_at M w.serial ≡ Some w

abbrev step_below : Modules → List ℕ → (List ℕ → List (List ℕ)) → List (List ℕ)
step_below M id rec = [] ∷ flat_map (λ (w : With). map (λ p. p ++ w.serial ∷ []) (rec w.from)) (withs M id)

flat_same : {X Y : Type 0} (f g : X → List Y) (xs : List X) → ((x : X) → In x xs → f x ≡ g x) → flat_map f xs ≡ flat_map g xs
flat_same f g [] h = refl
flat_same f g (x ∷ xs) h = ap (λ a. a ++ flat_map f xs) (h x (inl refl)) ∙ ap (λ b. g x ++ b) (flat_same f g xs (λ y m. h y (inr m)))

below_looks : (M : Modules) → LooksAt bytes_eq (with_sources M) (step_below M)
below_looks M id f g h = ap (λ ps. [] ∷ ps) (flat_same (λ (w : With). map (λ p. p ++ w.serial ∷ []) (f w.from)) (λ (w : With). map (λ p. p ++ w.serial ∷ []) (g w.from)) (withs M id)
    (λ w m. ap (map (λ p. p ++ w.serial ∷ [])) (h w.from (is_in_from w.from (with_sources M id) (in_map (λ (w : With). w.from) w (withs M id) m)))))

-- the instances below a notebook, with no count of turns
pub below_is : (M : Modules) → Sound M → (id : List ℕ) → below M id ≡ step_below M id (below M)
unfolding below
below_is M ok id = laws.unfolds bytes_eq bytes_test (ids M) (with_sources M) ok.only (λ id. [] ∷ []) (step_below M) (below_looks M) id ∙ cond-false _ _ _ (ok.acyclic id)

-- each instance is the root or stands below one that is imported from
below_cases : (M : Modules) → Sound M → (id : List ℕ) (p : List ℕ) → In p (below M id)
    → (p ≡ []) ⊎ ((w : With) × In w (withs M id) × ((q : List ℕ) × In q (below M w.from) × (p ≡ q ++ w.serial ∷ [])))
below_cases M ok id p m = elim (subst (In p) (below_is M ok id) m) [
  | inl e ↦ inl e
  | inr r ↦ let a = from_flat (λ (w : With). map (λ p. p ++ w.serial ∷ []) (below M w.from)) p (withs M id) r in
      let b = from_map (λ p. p ++ a.0.serial ∷ []) p (below M a.0.from) a.2 in inr (a.0, a.1, (b.0, b.1, b.2))
]

below_in : (M : Modules) → Sound M → (id : List ℕ) (w : With) (q : List ℕ) → In w (withs M id) → In q (below M w.from) → In (q ++ w.serial ∷ []) (below M id)
below_in M ok id w q at m = subst (In (q ++ w.serial ∷ [])) (sym (below_is M ok id))
    (inr (in_flat (λ (w : With). map (λ p. p ++ w.serial ∷ []) (below M w.from)) w (q ++ w.serial ∷ []) (withs M id) at (in_map (λ p. p ++ w.serial ∷ []) q (below M w.from) m)))

pub root_in : (M : Modules) → Sound M → (id : List ℕ) → In [] (below M id)
root_in M ok id = subst (In []) (sym (below_is M ok id)) (inl refl)

-- the notebook of an instance below one that is imported from
notebook_on : (M : Modules) → Sound M → (id : List ℕ) (w : With) (q : List ℕ) → In w (withs M id) → notebook_at M id (q ++ w.serial ∷ []) ≡ notebook_at M w.from q
notebook_on M ok id w [] at = ap (λ (o : Option With). option_map_or (λ (x : With). x.from) o []) (ok.found id w at)
notebook_on M ok id w (s ∷ q) at = refl

abbrev Derived : Modules → List ℕ → Type 0
Derived M id = (p : List ℕ) → In p (below M id) → (w : With) → In w (withs M (notebook_at M id p)) → In (w.serial ∷ p) (below M id)

source_in : (M : Modules) (id : List ℕ) (w : With) → In w (withs M id) → is_in bytes_eq w.from (with_sources M id) ≡ true
source_in M id w m = is_in_from w.from (with_sources M id) (in_map (λ (w : With). w.from) w (withs M id) m)

derived_on : (M : Modules) → Sound M → (id : List ℕ) → ((u : List ℕ) → is_in bytes_eq u (with_sources M id) ≡ true → Derived M u) → Derived M id
derived_on M ok id ih p m w at = elim (below_cases M ok id p m) [
  | inl e ↦ subst (λ z. In (w.serial ∷ z) (below M id)) (sym e) (below_in M ok id w [] (subst (λ z. In w (withs M (notebook_at M id z))) e at) (root_in M ok w.from))
  | inr r ↦
      let a = r.0 in let q = r.2.0 in let e = r.2.2 in
      let here : In w (withs M (notebook_at M a.from q)) = subst (λ n. In w (withs M n)) (ap (notebook_at M id) e ∙ notebook_on M ok id a q r.1) at in
      subst (λ z. In (w.serial ∷ z) (below M id)) (sym e) (below_in M ok id a (w.serial ∷ q) r.1 (ih a.from (source_in M id a r.1) q r.2.1 w here))
]

-- what an instance imports from with injected names is an instance
pub derived_in : (M : Modules) → Sound M → (id : List ℕ) → Derived M id
derived_in M ok = laws.induct bytes_eq bytes_test (ids M) (with_sources M) ok.only (Derived M) (λ id t. absurd (both_ways _ (ok.acyclic id) t)) (λ id f ih. derived_on M ok id ih)

abbrev Imports : Modules → List ℕ → Type 0
Imports M id = (s : ℕ) (p : List ℕ) → In (s ∷ p) (below M id) → In p (below M id)

importing_at : (M : Modules) → Sound M → (id : List ℕ) (a : With) → In a (withs M id) → Imports M a.from → (q : List ℕ) → In q (below M a.from) → (s : ℕ) (p : List ℕ) → s ∷ p ≡ q ++ a.serial ∷ [] → In p (below M id)
importing_at M ok id a at ih [] m s p e = let h : p ≡ [] = cc in subst (λ z. In z (below M id)) (sym h) (root_in M ok id)
importing_at M ok id a at ih (t ∷ q) m s p e = let h : p ≡ q ++ a.serial ∷ [] = cc in subst (λ z. In z (below M id)) (sym h) (below_in M ok id a q at (ih t q m))

importing_on : (M : Modules) → Sound M → (id : List ℕ) → ((u : List ℕ) → is_in bytes_eq u (with_sources M id) ≡ true → Imports M u) → Imports M id
importing_on M ok id ih s p m = elim (below_cases M ok id (s ∷ p) m) [
  | inl e ↦ absurd (let h : ⊥ = cc in h)
  | inr r ↦ importing_at M ok id r.0 r.1 (ih r.0.from (source_in M id r.0 r.1)) r.2.0 r.2.1 s p r.2.2
]

-- and so is what imports it
pub importing_in : (M : Modules) → Sound M → (id : List ℕ) → Imports M id
importing_in M ok = laws.induct bytes_eq bytes_test (ids M) (with_sources M) ok.only (Imports M) (λ id t. absurd (both_ways _ (ok.acyclic id) t)) (λ id f ih. importing_on M ok id ih)
