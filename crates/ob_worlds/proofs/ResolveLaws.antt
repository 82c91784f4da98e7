-- A name that stands for a variable stands for one that is there.
use Rattle.std.proofs.Common.{◌≡◌, ℕ, Bool, true, false, not, ◌&&◌, List, [], ◌∷◌, Option, Some, None, inl, inr, ⊎_elim, sym, refl, ap, ◌∙◌, subst, if◌then◌else◌}
use Rattle.std.specs.Prelude.{bytes_eq, filter, option_map, option_and_then, is_some}
use Rattle.std.specs.Option.{option_map_or}
use Rattle.std.specs.List.{find}
use Rattle.std.proofs.lemmas.Bool.{cases_Bool, both_ways, cond-true, cond-false, not_from_false}
use Rattle.ob_names.specs.declared.form.NameForm.TheVariants as form
use Rattle.ob_names.specs.declared.form.NameRef.{NameRef}
use Rattle.ob_cells.specs.declared.def.Pair.{Pair}
use Rattle.ob_cells.specs.declared.def.VarDef.{VarDef}
use Rattle.ob_cells.specs.declared.def.ImportClause.{ImportClause}
use Rattle.ob_names.specs.Sets.{same_name_form, same_ref}
use Rattle.ob_inputs.specs.Chains.Step.{answer, go}
use Rattle.ob_inputs.proofs.ChainLaws.{follow_gives}
use Rattle.ob_base.specs.Labels.{Path, Label}
use Rattle.ob_worlds.specs.Labels.{Place, Resolved, same_place}
use Rattle.ob_worlds.specs.Labels.Resolved.{Home, Builtin, Missing, Loop}
use Rattle.ob_worlds.specs.Reader.{Reader}
use Rattle.ob_worlds.specs.Modules.{Modules, Module, Defined, With, withs, with_of, with_at, cells_of, all_cells}
use Rattle.ob_worlds.specs.Instances.{below, roots, notebook_of}
use Rattle.ob_worlds.specs.Resolve.{Definition, source_in, injected_at, injected, is_injected, defines, variables_named, leads_to, aliases_in, definitions_in, definitions, undefined_name, by_definitions, next_place, enough, resolve}
use Rattle.ob_worlds.specs.Resolve.Definition.{own, alias}
use Rattle.ob_worlds.specs.Variables.{defs_in}
use Rattle.ob_worlds.proofs.SameLaws.{name_are}
use Rattle.ob_worlds.proofs.InstanceLaws.{In, in_parts, in_flat, from_flat, from_map, Sound, derived_in, importing_in, root_in}

pub record IsInstance (M : Modules) (p : Path) : Type 0 where
  pub root : In p.root (roots M)
  pub serials : In p.serials (below M p.root)

-- a variable that is there: of a cell of its instance's notebook, by a definition that isn't injected
pub record IsVariable (M : Modules) (l : Label) : Type 0 where
  pub inside : IsInstance M l.path
  pub cell : Defined
  pub def : VarDef
  pub among : In cell (cells_of M (notebook_of M l.path))
  pub defined : In def (defs_in M l.path cell)
  pub serial : l.cell ≡ cell.serial
  pub part : l.part ≡ def.part

-- each notebook that one imports from is there
abbrev pub Known : Modules → Type 0
Known M = (c : Defined) → In c (all_cells M) → (i : ImportClause) → c.clause ≡ Some i → In i.from (roots M)

-- ---- lists

pub from_filter_in : {X : Type 0} (p : X → Bool) (xs : List X) (x : X) → In x (filter p xs) → In x xs × (p x ≡ true)
from_filter_in {X} p [] x m = elim m [ ]
from_filter_in {X} p (y ∷ ys) x m = elim (cases_Bool (p y)) [
  | inl t ↦ ⊎_elim (λ e. (inl e, ap p e ∙ t)) (λ r. let w = from_filter_in p ys x r in (inr w.0, w.1)) (subst (λ zs. In x zs) (cond-true (p y) _ _ t) m)
  | inr f ↦ let w = from_filter_in p ys x (subst (λ zs. In x zs) (cond-false (p y) _ _ f) m) in (inr w.0, w.1)
]

pub in_filter_in : {X : Type 0} (p : X → Bool) (xs : List X) (x : X) → In x xs → p x ≡ true → In x (filter p xs)
in_filter_in {X} p [] x m h = elim m [ ]
in_filter_in {X} p (y ∷ ys) x m h = elim (cases_Bool (p y)) [
  | inl t ↦ subst (λ zs. In x zs) (sym (cond-true (p y) _ _ t)) (⊎_elim (λ e. inl e) (λ r. inr (in_filter_in p ys x r h)) m)
  | inr f ↦ subst (λ zs. In x zs) (sym (cond-false (p y) _ _ f)) (⊎_elim (λ e. absurd (both_ways _ f (sym (ap p e) ∙ h))) (λ r. in_filter_in p ys x r h) m)
]

pub find_in : {X : Type 0} (p : X → Bool) (xs : List X) (x : X) → find p xs ≡ Some x → In x xs
find_in {X} p [] x e = absurd (let h : ⊥ = cc in h)
find_in {X} p (y ∷ ys) x e = elim (cases_Bool (p y)) [
  | inl t ↦ inl (let a : Some y ≡ Some x = sym (cond-true _ _ _ t) ∙ e in let b : x ≡ y = cc in b)
  | inr f ↦ inr (find_in p ys x (sym (cond-false _ _ _ f) ∙ e))
]

pub cells_here : (M : Modules) (id : List ℕ) (c : Defined) → In c (cells_of M id) → In c (all_cells M)
cells_here M id c m = on (find (λ (n : Module). bytes_eq n.id id) M.all) refl m
  where
    on : (o : Option Module) → find (λ (n : Module). bytes_eq n.id id) M.all ≡ o → In c (option_map_or (λ (n : Module). n.cells) o []) → In c (all_cells M)
    on None e m = elim m [ ]
    on (Some n) e m = in_flat (λ (n : Module). n.cells) n c M.all (find_in (λ (n : Module). bytes_eq n.id id) M.all n e) m

-- ---- injected names

injected_inside : (M : Modules) → Sound M → (p q : Place) → IsInstance M p.path → injected M p ≡ Some q → IsInstance M q.path
injected_inside M ok p q i e = on p.path.root p.path.serials i.root i.serials e
  where
    at_source : (root : List ℕ) (s : ℕ) (up : List ℕ) → In root (roots M) → In (s ∷ up) (below M root) → (o : Option NameRef)
        → option_map (λ x. record { path = record { root = root; serials = up }; name = x }) o ≡ Some q → IsInstance M q.path
    at_source root s up r m None e = absurd (let h : ⊥ = cc in h)
    at_source root s up r m (Some x) e =
        let here : IsInstance M (record { root = root; serials = up }) = record { root = r; serials = importing_in M ok root s up m } in
        let a : q ≡ record { path = record { root = root; serials = up }; name = x } = cc in
        subst (λ (z : Place). IsInstance M z.path) (sym a) here

    on : (root serials : List ℕ) → In root (roots M) → In serials (below M root) → injected_at M root serials p.name ≡ Some q → IsInstance M q.path
    on root [] r m e = absurd (let h : ⊥ = cc in h)
    on root (s ∷ up) r m e = at_source root s up r m (option_and_then (λ (w : With). source_in p.name w.pairs) (with_at M s)) e

-- ---- aliases

leads_inside : (M : Modules) → Sound M → Known M → (p : Path) → IsInstance M p → (c : Defined) → In c (cells_of M (notebook_of M p)) → (i : ImportClause) → c.clause ≡ Some i
    → IsInstance M (leads_to p c.serial i)
leads_inside M ok known p inside c among i e = on i.with refl
  where
    on : (o : Option (List Pair)) → i.with ≡ o → IsInstance M (option_map_or (λ pairs. record { root = p.root; serials = c.serial ∷ p.serials }) o (record { root = i.from; serials = [] }))
    on None f = record { root = known c (cells_here M (notebook_of M p) c among) i e; serials = root_in M ok i.from }
    on (Some pairs) f =
        let w : With = record { serial = c.serial; from = i.from; pairs = pairs } in
        let here : In w (with_of c i) = subst (λ o. In w (option_map_or (λ pairs. record { serial = c.serial; from = i.from; pairs = pairs } ∷ []) o [])) (sym f) (inl refl) in
        let there : In w (withs M (notebook_of M p)) =
        in_flat (λ (c : Defined). option_map_or (with_of c) c.clause []) c w (cells_of M (notebook_of M p)) among (subst (λ o. In w (option_map_or (with_of c) o [])) (sym e) here) in
        record { root = inside.root; serials = derived_in M ok p.root p.serials inside.serials w there }

alias_inside : (M : Modules) → Sound M → Known M → (p q : Place) → IsInstance M p.path → In (alias q) (definitions M p) → IsInstance M q.path
alias_inside M ok known p q inside m = ⊎_elim named aliased (in_parts (alias q) (variables_named p found.0) (option_map_or (aliases_in p found.0.serial) found.0.clause []) found.2)
  where
    found : (c : Defined) × In c (cells_of M (notebook_of M p.path)) × In (alias q) (definitions_in p c)
    found = from_flat (definitions_in p) (alias q) (cells_of M (notebook_of M p.path)) m

    named : In (alias q) (variables_named p found.0) → IsInstance M q.path
    named n =
        let r = from_map (λ (v : VarDef). own (record { path = p.path; cell = found.0.serial; part = v.part })) (alias q) (filter (defines p.name) found.0.variables) n in
        let e = r.2 in absurd (let h : ⊥ = cc in h)

    by_clause : (o : Option ImportClause) → found.0.clause ≡ o → In (alias q) (option_map_or (aliases_in p found.0.serial) o []) → IsInstance M q.path
    by_clause None e n = elim n [ ]
    by_clause (Some i) e n =
        let r = from_map (λ (x : Pair). alias (record { path = leads_to p.path found.0.serial i; name = x.source })) (alias q) (filter (λ (x : Pair). same_ref x.alias p.name) i.pairs) n in
        let f = r.2 in
        let a : q ≡ record { path = leads_to p.path found.0.serial i; name = r.0.source } = cc in
        subst (λ (z : Place). IsInstance M z.path) (sym a) (leads_inside M ok known p.path inside found.0 found.1 i e)

    aliased : In (alias q) (option_map_or (aliases_in p found.0.serial) found.0.clause []) → IsInstance M q.path
    aliased n = by_clause found.0.clause refl n

-- ---- variables

-- where a name isn't injected, a variable of that name is there
not_injected : (M : Modules) (p : Place) (v : VarDef) → injected M p ≡ None → defines p.name v ≡ true → is_injected M p.path v.name ≡ false
not_injected M p v e h = on v.name h
  where
    on : (o : Option NameRef) → option_map_or (same_ref p.name) o false ≡ true → is_injected M p.path o ≡ false
    on None h = refl
    on (Some x) h = subst (λ y. is_some (injected M (record { path = p.path; name = y })) ≡ false) (name_are p.name x h) (ap is_some e)

own_is : (M : Modules) (p : Place) (l : Label) → IsInstance M p.path → injected M p ≡ None → In (own l) (definitions M p) → IsVariable M l
own_is M p l inside e m = ⊎_elim named aliased (in_parts (own l) (variables_named p found.0) (option_map_or (aliases_in p found.0.serial) found.0.clause []) found.2)
  where
    found : (c : Defined) × In c (cells_of M (notebook_of M p.path)) × In (own l) (definitions_in p c)
    found = from_flat (definitions_in p) (own l) (cells_of M (notebook_of M p.path)) m

    named : In (own l) (variables_named p found.0) → IsVariable M l
    named n =
        let r = from_map (λ (v : VarDef). own (record { path = p.path; cell = found.0.serial; part = v.part })) (own l) (filter (defines p.name) found.0.variables) n in
        let w = from_filter_in (defines p.name) found.0.variables r.0 r.1 in
        let f = r.2 in
        let a : l ≡ record { path = p.path; cell = found.0.serial; part = r.0.part } = cc in
        let there : IsVariable M (record { path = p.path; cell = found.0.serial; part = r.0.part }) = record {
          inside = inside;
          cell = found.0;
          def = r.0;
          among = found.1;
          defined = in_filter_in (λ (v : VarDef). not (is_injected M p.path v.name)) found.0.variables r.0 w.0 (not_from_false _ (not_injected M p r.0 e w.1));
          serial = refl;
          part = refl;
        } in
        subst (IsVariable M) (sym a) there

    by_clause : (o : Option ImportClause) → In (own l) (option_map_or (aliases_in p found.0.serial) o []) → IsVariable M l
    by_clause None n = elim n [ ]
    by_clause (Some i) n =
        let r = from_map (λ (x : Pair). alias (record { path = leads_to p.path found.0.serial i; name = x.source })) (own l) (filter (λ (x : Pair). same_ref x.alias p.name) i.pairs) n in
        let f = r.2 in absurd (let h : ⊥ = cc in h)

    aliased : In (own l) (option_map_or (aliases_in p found.0.serial) found.0.clause []) → IsVariable M l
    aliased n = by_clause found.0.clause n

-- ---- resolution

abbrev pub Leads : Modules → Resolved → Type 0
Leads M r = (l : Label) → r ≡ Home l → IsVariable M l

undefined_is : (E : Reader) (M : Modules) (b : Bool) (p : Place) → Leads M (undefined_name E b p)
undefined_is E M b p l = elim (b && (same_name_form p.name.form form.Plain && E.is_builtin p.name.name)) as (λ x. (if x then Builtin p.name.name else Missing p) ≡ Home l → IsVariable M l) [
  | true ↦ λ e. absurd (let h : ⊥ = cc in h)
  | false ↦ λ e. absurd (let h : ⊥ = cc in h)
]

ends : (E : Reader) (M : Modules) → (b : Bool) (p : Place) (a : Resolved) → IsInstance M p.path → next_place E M b p ≡ answer a → Leads M a
ends E M b p a inside e = on (injected M p) refl e
  where
    by : (ds : List Definition) → injected M p ≡ None → definitions M p ≡ ds → by_definitions E b p ds ≡ answer a → Leads M a
    by [] n d e = let f : undefined_name E b p ≡ a = cc in subst (Leads M) f (undefined_is E M b p)
    by (own l ∷ []) n d e = λ m g. let f : l ≡ m = cc in subst (IsVariable M) f (own_is M p l inside n (subst (In (own l)) (sym d) (inl refl)))
    by (alias q ∷ []) n d e = absurd (let h : ⊥ = cc in h)
    by (x ∷ y ∷ ds) n d e = λ m g. absurd (let h : ⊥ = cc in h)

    on : (o : Option Place) → injected M p ≡ o → option_map_or go o (by_definitions E b p (definitions M p)) ≡ answer a → Leads M a
    on (Some q) i e = absurd (let h : ⊥ = cc in h)
    on None i e = by (definitions M p) i refl e

goes : (E : Reader) (M : Modules) → Sound M → Known M → (b : Bool) (p q : Place) → IsInstance M p.path → next_place E M b p ≡ go q → IsInstance M q.path
goes E M ok known b p q inside e = on (injected M p) refl e
  where
    by : (ds : List Definition) → definitions M p ≡ ds → by_definitions E b p ds ≡ go q → IsInstance M q.path
    by [] d e = absurd (let h : ⊥ = cc in h)
    by (own l ∷ []) d e = absurd (let h : ⊥ = cc in h)
    by (alias r ∷ []) d e = let f : r ≡ q = cc in subst (λ (z : Place). IsInstance M z.path) f (alias_inside M ok known p r inside (subst (In (alias r)) (sym d) (inl refl)))
    by (x ∷ y ∷ ds) d e = absurd (let h : ⊥ = cc in h)

    on : (o : Option Place) → injected M p ≡ o → option_map_or go o (by_definitions E b p (definitions M p)) ≡ go q → IsInstance M q.path
    on (Some r) i e = let f : r ≡ q = cc in subst (λ (z : Place). IsInstance M z.path) f (injected_inside M ok p r inside i)
    on None i e = by (definitions M p) refl e

-- a name in an instance that stands for a variable stands for one that is there
pub resolve_leads : (E : Reader) (M : Modules) → Sound M → Known M → (p : Place) → IsInstance M p.path → Leads M (resolve E M p)
unfolding resolve
resolve_leads E M ok known p inside =
    follow_gives same_place (next_place E M) Loop (λ (q : Place). IsInstance M q.path) (Leads M)
    (λ b q a i e. ends E M b q a i e) (λ b q r i e. goes E M ok known b q r i e) (λ q i l e. absurd (let h : ⊥ = cc in h)) (enough M) [] p inside
