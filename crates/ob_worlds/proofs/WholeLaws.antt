-- Where no fault is found, the notebooks stand together.
use Rattle.std.proofs.Common.{◌≡◌, ℕ, zero, suc, ◌==◌, Bool, true, false, not, ◌||◌, List, [], ◌∷◌, map, Option, Some, None, inl, inr, ⊎_elim, sym, refl, ap, ◌∙◌, subst}
use Rattle.std.specs.Prelude.{bytes_eq, filter, option_map, length}
use Rattle.std.specs.Option.{option_map_or, option_or}
use Rattle.std.specs.List.{list_any, find}
use Rattle.std.proofs.lemmas.Bool.{or_cases, or_left, or_right, both_ways, cases_Bool, cond-true, cond-false, not_from_false, not-false, eqb-true, eq-eqb}
use Rattle.ob_base.specs.declared.cause.Cause.TheVariants as cause
use Rattle.ob_cells.specs.declared.def.Pair.{Pair}
use Rattle.ob_cells.specs.declared.def.ImportClause.{ImportClause}
use Rattle.ob_inputs.specs.Same.{is_in}
use Rattle.ob_inputs.specs.Paths.{circular, within, OnlyNodes}
use Rattle.ob_worlds.specs.Modules.{Modules, Module, Defined, With, ids, withs, withs_in, with_of, with_at, cells_of, all_cells}
use Rattle.ob_worlds.specs.Instances.{with_sources, with_cycle, roots}
use Rattle.ob_worlds.specs.Edits.{missing_from, clauses_of, whole_fault}
use Rattle.ob_worlds.proofs.SameLaws.{bytes_are, bytes_self}
use Rattle.ob_worlds.proofs.InstanceLaws.{In, in_map, in_left, in_right, in_flat, from_flat, Sound}
use Rattle.ob_worlds.proofs.ResolveLaws.{Known, in_filter_in, find_in, cells_here}
use Rattle.ob_worlds.proofs.GoodLaws.{Apart}

-- nothing is found: all fail
find_none : {X : Type 0} (p : X → Bool) (xs : List X) → find p xs ≡ None → (x : X) → In x xs → p x ≡ false
find_none {X} p [] e x m = elim m [ ]
find_none {X} p (y ∷ ys) e x m = elim (cases_Bool (p y)) [
  | inl t ↦ absurd (let a : Some y ≡ None = sym (cond-true (p y) _ _ t) ∙ e in let h : ⊥ = cc in h)
  | inr f ↦ ⊎_elim (λ s. ap p s ∙ f) (λ r. find_none p ys (sym (cond-false (p y) _ _ f) ∙ e) x r) m
]

find_true : {X : Type 0} (p : X → Bool) (xs : List X) (x : X) → find p xs ≡ Some x → p x ≡ true
find_true {X} p [] x e = absurd (let h : ⊥ = cc in h)
find_true {X} p (y ∷ ys) x e = elim (cases_Bool (p y)) [
  | inl t ↦ let a : Some y ≡ Some x = sym (cond-true (p y) _ _ t) ∙ e in let b : y ≡ x = cc in subst (λ z. p z ≡ true) b t
  | inr f ↦ find_true p ys x (sym (cond-false (p y) _ _ f) ∙ e)
]

in_from_is : (x : List ℕ) (xs : List (List ℕ)) → is_in bytes_eq x xs ≡ true → In x xs
in_from_is x [] h = absurd (both_ways false refl h)
in_from_is x (y ∷ ys) h = ⊎_elim (λ e. inl (bytes_are x y e)) (λ r. inr (in_from_is x ys r)) (or_cases (bytes_eq x y) _ h)

is_from_in : (x : List ℕ) (xs : List (List ℕ)) → In x xs → is_in bytes_eq x xs ≡ true
is_from_in x [] m = elim m [ ]
is_from_in x (y ∷ ys) (inl e) = or_left _ _ (subst (λ z. bytes_eq x z ≡ true) e (bytes_self x))
is_from_in x (y ∷ ys) (inr m) = or_right (bytes_eq x y) _ (is_from_in x ys m)

-- the parts of no fault
or_none : {X : Type 0} (a b : Option X) → option_or a b ≡ None → (a ≡ None) × (b ≡ None)
or_none {X} None b e = (refl, e)
or_none {X} (Some x) b e = absurd (let h : ⊥ = cc in h)

map_none : {X Y : Type 0} (f : X → Y) (o : Option X) → option_map f o ≡ None → o ≡ None
map_none {X} {Y} f None e = refl
map_none {X} {Y} f (Some x) e = absurd (let h : ⊥ = cc in h)

-- ---- imports

-- each notebook is a root
in_roots : (M : Modules) (id : List ℕ) → In id (ids M) → In id (roots M)
in_roots M id m = elim (cases_Bool (bytes_eq M.main id)) [
  | inl t ↦ in_left id _ _ (in_filter_in (bytes_eq M.main) (ids M) id m t)
  | inr f ↦ in_right id (filter (bytes_eq M.main) (ids M)) _ (in_filter_in (λ i. not (bytes_eq M.main i)) (ids M) id m (not_from_false _ f))
]

known : (M : Modules) → missing_from M (clauses_of M) ≡ None → Known M
known M e c m i f =
    let missing : (ImportClause → Bool) = λ i. not (list_any (bytes_eq i.from) (ids M)) in
    let here : In i (clauses_of M) = in_flat (λ (c : Defined). option_map_or (λ i. i ∷ []) c.clause []) c i (all_cells M) m (subst (λ o. In i (option_map_or (λ i. i ∷ []) o [])) (sym f) (inl refl)) in
    let none = find_none missing (clauses_of M) (map_none (λ (i : ImportClause). i.from) (find missing (clauses_of M)) e) i here in
    in_roots M i.from (in_from_is i.from (ids M) (not-false _ none))

-- ---- imports with injected names

no_cells : (M : Modules) (id : List ℕ) → is_in bytes_eq id (ids M) ≡ false → cells_of M id ≡ []
no_cells M id h = on (find (λ (n : Module). bytes_eq n.id id) M.all) refl
  where
    on : (o : Option Module) → find (λ (n : Module). bytes_eq n.id id) M.all ≡ o → option_map_or (λ (n : Module). n.cells) o [] ≡ []
    on None e = refl
    on (Some n) e =
        let a : n.id ≡ id = bytes_are n.id id (find_true (λ (n : Module). bytes_eq n.id id) M.all n e) in
        absurd (both_ways _ h (subst (λ z. is_in bytes_eq z (ids M) ≡ true) a (is_from_in n.id (ids M) (in_map (λ (m : Module). m.id) n M.all (find_in (λ (n : Module). bytes_eq n.id id) M.all n e)))))

only : (M : Modules) → OnlyNodes bytes_eq (ids M) (with_sources M)
only M id h = ap (λ cells. map (λ (w : With). w.from) (withs_in cells)) (no_cells M id h)

acyclic : (M : Modules) → with_cycle M ≡ None → (id : List ℕ) → circular bytes_eq (ids M) (with_sources M) id ≡ false
unfolding within
acyclic M e id = elim (cases_Bool (is_in bytes_eq id (ids M))) [
  | inl t ↦ find_none (circular bytes_eq (ids M) (with_sources M)) (ids M) e id (in_from_is id (ids M) t)
  | inr f ↦ nothing (length (ids M)) (only M id f)
]
  where
    nothing : (n : ℕ) → with_sources M id ≡ [] → within bytes_eq (with_sources M) n id id ≡ false
    nothing zero s = refl
    nothing (suc n) s = ap (list_any (λ u. bytes_eq u id || within bytes_eq (with_sources M) n u id)) s

with_serial : (c : Defined) (w : With) (o : Option ImportClause) → In w (option_map_or (with_of c) o []) → w.serial ≡ c.serial
with_serial c w None m = elim m [ ]
with_serial c w (Some i) m = on i.with m
  where
    on : (o : Option (List Pair)) → In w (option_map_or (λ pairs. record { serial = c.serial; from = i.from; pairs = pairs } ∷ []) o []) → w.serial ≡ c.serial
    on None m = elim m [ ]
    on (Some pairs) m = ⊎_elim (λ e. ap (λ (x : With). x.serial) e) (λ r. elim r [ ]) m

one_with : (c : Defined) (v w : With) (o : Option ImportClause) → In v (option_map_or (with_of c) o []) → In w (option_map_or (with_of c) o []) → v ≡ w
one_with c v w None m n = elim m [ ]
one_with c v w (Some i) m n = on i.with m n
  where
    on : (o : Option (List Pair)) → In v (option_map_or (λ pairs. record { serial = c.serial; from = i.from; pairs = pairs } ∷ []) o [])
        → In w (option_map_or (λ pairs. record { serial = c.serial; from = i.from; pairs = pairs } ∷ []) o []) → v ≡ w
    on None m n = elim m [ ]
    on (Some pairs) m n = ⊎_elim (λ e. ⊎_elim (λ f. e ∙ sym f) (λ r. elim r [ ]) n) (λ r. elim r [ ]) m

found_with : (M : Modules) → Apart M → (id : List ℕ) (w : With) → In w (withs M id) → with_at M w.serial ≡ Some w
found_with M apart id w m = on (find same (withs_in (all_cells M))) refl
  where
    same : With → Bool
    same v = v.serial == w.serial

    cell : (c : Defined) × In c (cells_of M id) × In w (option_map_or (with_of c) c.clause [])
    cell = from_flat (λ (c : Defined). option_map_or (with_of c) c.clause []) w (cells_of M id) m

    among : In cell.0 (all_cells M)
    among = cells_here M id cell.0 cell.1

    on : (o : Option With) → find same (withs_in (all_cells M)) ≡ o → o ≡ Some w
    on None e = absurd (both_ways _ (find_none same (withs_in (all_cells M)) e w (in_flat (λ (c : Defined). option_map_or (with_of c) c.clause []) cell.0 w (all_cells M) among cell.2)) (eq-eqb w.serial w.serial refl))
    on (Some v) e =
        let other = from_flat (λ (c : Defined). option_map_or (with_of c) c.clause []) v (all_cells M) (find_in same (withs_in (all_cells M)) v e) in
        let s : v.serial ≡ w.serial = eqb-true v.serial w.serial (find_true same (withs_in (all_cells M)) v e) in
        let c : other.0 ≡ cell.0 = apart other.0 cell.0 other.1 among (sym (with_serial other.0 v other.0.clause other.2) ∙ s ∙ with_serial cell.0 w cell.0.clause cell.2) in
        ap Some (one_with cell.0 v w cell.0.clause (subst (λ (x : Defined). In v (option_map_or (with_of x) x.clause [])) c other.2) cell.2)

-- notebooks without a fault, whose cells have serials of their own, stand together
pub no_fault : (M : Modules) → Apart M → whole_fault M ≡ None → Sound M × Known M
no_fault M apart e =
    let a = or_none (option_map cause.ImportMissing (missing_from M (clauses_of M))) _ e in
    let b = or_none (option_map cause.WithCycle (with_cycle M)) _ a.1 in
    let cycle = acyclic M (map_none cause.WithCycle (with_cycle M) b.0) in
    let sound : Sound M = record { only = only M; acyclic = cycle; found = found_with M apart } in
    (sound, known M (map_none cause.ImportMissing (missing_from M (clauses_of M)) a.0))
