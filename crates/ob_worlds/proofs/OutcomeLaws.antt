-- How outcomes and rows follow from those of the inputs.
use Rattle.std.proofs.Common.{◌≡◌, ℕ, Bool, true, false, ◌||◌, List, [], ◌∷◌, ◌++◌, map, Option, Some, None, inl, inr, sym, subst, refl, ap, ◌∙◌, if◌then◌else◌}
use Rattle.std.specs.List.{list_any}
use Rattle.std.proofs.lemmas.Bool.{cases_Bool, or_left, or_right, cond-true, cond-false}
use Rattle.ob_base.specs.declared.plain.Plain.{Plain}
use Rattle.ob_names.specs.declared.form.NameRef.{NameRef}
use Rattle.ob_cells.specs.declared.def.Body.{Body}
use Rattle.ob_inputs.specs.Same.{is_in, at}
use Rattle.ob_inputs.specs.Values.{LooksAt}
use Rattle.ob_inputs.proofs.ValueLaws as laws
use Rattle.ob_base.specs.Labels.{Label, same_label}
use Rattle.ob_worlds.specs.Labels.{Resolved, shown_of}
use Rattle.ob_worlds.specs.Labels.Resolved.{Home, Builtin, Missing, Duplicate, Loop}
use Rattle.ob_worlds.specs.Language.{Language, Outcome}
use Rattle.ob_worlds.specs.Variables.{Variable}
use Rattle.ob_worlds.specs.Nets.{Net, variable, labels, inputs, homes, circular}
use Rattle.ob_worlds.specs.Outcomes.{name_of, fails, failed_by, first_reason, failed_inputs, value_in, named_value, values_by, values_of, outcome_at, outcome_from, shown_by, home_of, own_home, shown, circle_outcome, outcome}
use Rattle.ob_worlds.specs.Settled.{Settled, Now}
use Rattle.ob_worlds.specs.Rows.{Row, Local, local, behind, outcome_in, given_in, current_in, shown_in, row_from, row_at, circle_row, row_by, row}
use Rattle.ob_worlds.proofs.SameLaws.{label_test, label_are, label_self}
use Rattle.ob_worlds.proofs.NetLaws.{only_variables}

abbrev pub In : Label → List Label → Type 0
In u ls = is_in same_label u ls ≡ true

-- the first is one of them
pub here : (u : Label) (ls : List Label) → In u (u ∷ ls)
here u ls = or_left _ _ (label_self u)

-- reasons and values of inputs depend on the outcomes, and the names, of those alone
pub reasons_same : {V R : Type 0} (E : Language V R) (M N : Net) (f g : Label → Outcome V) (is : List Resolved)
    → ((u : Label) → In u (homes is) → f u ≡ g u) → ((u : Label) → In u (homes is) → name_of (variable M u) ≡ name_of (variable N u))
    → map (fails E M f) is ≡ map (fails E N g) is
reasons_same {V} {R} E M N f g [] h k = refl
reasons_same {V} {R} E M N f g (Home u ∷ is) h k =
    let e = h u (here u (homes is)) in let n = k u (here u (homes is)) in
    let es = reasons_same E M N f g is (λ w m. h w (or_right (same_label w u) _ m)) (λ w m. k w (or_right (same_label w u) _ m)) in
    ap (λ x. failed_by E u x (f u) ∷ map (fails E M f) is) n ∙ ap (λ x. failed_by E u (name_of (variable N u)) x ∷ map (fails E M f) is) e
    ∙ ap (λ xs. failed_by E u (name_of (variable N u)) (g u) ∷ xs) es
reasons_same {V} {R} E M N f g (Builtin x ∷ is) h k = ap (λ xs. None ∷ xs) (reasons_same E M N f g is h k)
reasons_same {V} {R} E M N f g (Missing p ∷ is) h k = ap (λ xs. fails E M f (Missing p) ∷ xs) (reasons_same E M N f g is h k)
reasons_same {V} {R} E M N f g (Duplicate p ∷ is) h k = ap (λ xs. fails E M f (Duplicate p) ∷ xs) (reasons_same E M N f g is h k)
reasons_same {V} {R} E M N f g (Loop p ∷ is) h k = ap (λ xs. fails E M f (Loop p) ∷ xs) (reasons_same E M N f g is h k)

pub values_same : {V R : Type 0} (E : Language V R) (f g : Label → Outcome V) (names : List NameRef) (is : List Resolved)
    → ((u : Label) → In u (homes is) → f u ≡ g u) → values_by E f names is ≡ values_by E g names is
values_same {V} {R} E f g [] is h = refl
values_same {V} {R} E f g (x ∷ xs) [] h = refl
values_same {V} {R} E f g (x ∷ xs) (Home u ∷ is) h =
    let e = h u (here u (homes is)) in
    let es = values_same E f g xs is (λ w m. h w (or_right (same_label w u) _ m)) in
    ap (λ o. named_value x (value_in o) ++ values_by E f xs is) e ∙ ap (λ vs. named_value x (value_in (g u)) ++ vs) es
values_same {V} {R} E f g (x ∷ xs) (Builtin y ∷ is) h = values_same E f g xs is h
values_same {V} {R} E f g (x ∷ xs) (Missing p ∷ is) h = values_same E f g xs is h
values_same {V} {R} E f g (x ∷ xs) (Duplicate p ∷ is) h = values_same E f g xs is h
values_same {V} {R} E f g (x ∷ xs) (Loop p ∷ is) h = values_same E f g xs is h

pub any_same : (p q : Label → Bool) (ls : List Label) → ((u : Label) → In u ls → p u ≡ q u) → list_any p ls ≡ list_any q ls
any_same p q [] h = refl
any_same p q (l ∷ ls) h =
    let e = h l (here l ls) in let es = any_same p q ls (λ w m. h w (or_right (same_label w l) _ m)) in
    ap (λ b. b || list_any p ls) e ∙ ap (λ b. q l || b) es

pub outcome_at_same : {V R : Type 0} (E : Language V R) (N : Net) (v : Variable) (n : ℕ) (s : Option Plain) (f g : Label → Outcome V)
    → ((u : Label) → In u (homes v.inputs) → f u ≡ g u) → outcome_at E N v n s f ≡ outcome_at E N v n s g
outcome_at_same {V} {R} E N v n s f g h =
    ap (λ rs. outcome_from E v n s (first_reason rs) (values_of E f v)) (reasons_same E N N f g v.inputs h (λ u m. refl))
    ∙ ap (outcome_from E v n s (failed_inputs E N g v)) (values_same E f g v.names v.inputs h)

shown_same : {V R : Type 0} (E : Language V R) (N : Net) (f g : Label → Row V) (b : Body) (o : Option Label) → ((u : Label) → o ≡ Some u → f u ≡ g u)
    → shown_by b (given_in N f o) (current_in f o) ≡ shown_by b (given_in N g o) (current_in g o)
shown_same {V} {R} E N f g b None h = refl
shown_same {V} {R} E N f g b (Some u) h = ap (λ (r : Row V). shown_by b (if r.moved then None else at same_label N.given u) r.current) (h u refl)

-- the View or the Holder of a Shown is one of its inputs, and of its cell
pub home_in : (l : Label) (ls : List Label) (u : Label) → home_of l ls ≡ Some u → In u ls × (shown_of u ≡ l)
home_in l [] u e = absurd (let h : ⊥ = cc in h)
home_in l (k ∷ ks) u e = elim (cases_Bool (same_label (shown_of k) l)) [
  | inl t ↦
      let a : Some k ≡ Some u = sym (cond-true (same_label (shown_of k) l) _ _ t) ∙ e in
      let c : k ≡ u = cc in
      (or_left (same_label u k) _ (subst (λ z. same_label z k ≡ true) c (label_self k)), subst (λ z. shown_of z ≡ l) c (label_are (shown_of k) l t))
  | inr f ↦ let r = home_in l ks u (sym (cond-false (same_label (shown_of k) l) _ _ f) ∙ e) in (or_right (same_label u k) _ r.0, r.1)
]

-- ---- outcomes

abbrev outcome_step : {V R : Type 0} (E : Language V R) → Net → (Label → ℕ) → Label → (Label → Outcome V) → Outcome V
outcome_step {V} {R} E N segments l f = outcome_at E N (variable N l) (segments l) (shown N (variable N l)) f

outcome_looks : {V R : Type 0} (E : Language V R) (N : Net) (segments : Label → ℕ) → LooksAt same_label (inputs N) (outcome_step E N segments)
outcome_looks {V} {R} E N segments l f g h = outcome_at_same E N (variable N l) (segments l) (shown N (variable N l)) f g h

pub outcome_round : {V R : Type 0} (E : Language V R) (N : Net) (segments : Label → ℕ) (l : Label) → circular N l ≡ true → outcome E N segments l ≡ circle_outcome E
unfolding outcome
outcome_round {V} {R} E N segments l t =
    laws.unfolds same_label label_test (labels N) (inputs N) (only_variables N) (λ l. circle_outcome E) (outcome_step E N segments) (outcome_looks E N segments) l ∙ cond-true _ _ _ t

pub outcome_on : {V R : Type 0} (E : Language V R) (N : Net) (segments : Label → ℕ) (l : Label) → circular N l ≡ false
    → outcome E N segments l ≡ outcome_at E N (variable N l) (segments l) (shown N (variable N l)) (outcome E N segments)
unfolding outcome
outcome_on {V} {R} E N segments l f =
    laws.unfolds same_label label_test (labels N) (inputs N) (only_variables N) (λ l. circle_outcome E) (outcome_step E N segments) (outcome_looks E N segments) l ∙ cond-false _ _ _ f

-- ---- rows

row_at_same : {V R : Type 0} (E : Language V R) (N : Net) (l : Local) (v : Variable) (f g : Label → Row V) → ((u : Label) → In u (homes v.inputs) → f u ≡ g u) → row_at E N l v f ≡ row_at E N l v g
row_at_same {V} {R} E N l v f g h =
    let late = any_same (λ u. (f u).moved) (λ u. (g u).moved) (homes v.inputs) (λ u m. ap (λ (r : Row V). r.moved) (h u m)) in
    let outcomes : ((u : Label) → In u (homes v.inputs) → outcome_in f u ≡ outcome_in g u) = λ u m. ap (λ (r : Row V). r.outcome) (h u m) in
    let reasons = reasons_same E N N (outcome_in f) (outcome_in g) v.inputs outcomes (λ u m. refl) in
    let values = values_same E (outcome_in f) (outcome_in g) v.names v.inputs outcomes in
    let shows = shown_same E N f g v.body (own_home v) (λ u e. h u (home_in v.label (homes v.inputs) u e).0) in
    ap (λ x. row_from E l v x (failed_inputs E N (outcome_in f) v) (values_of E (outcome_in f) v) (shown_in N f v)) late
    ∙ ap (λ x. row_from E l v (behind g (homes v.inputs)) (first_reason x) (values_of E (outcome_in f) v) (shown_in N f v)) reasons
    ∙ ap (λ x. row_from E l v (behind g (homes v.inputs)) (failed_inputs E N (outcome_in g) v) x (shown_in N f v)) values
    ∙ ap (λ x. row_from E l v (behind g (homes v.inputs)) (failed_inputs E N (outcome_in g) v) (values_of E (outcome_in g) v) x) shows

abbrev row_step : {V R : Type 0} (E : Language V R) → Net → (Label → Local) → Label → (Label → Row V) → Row V
row_step {V} {R} E N local l f = row_at E N (local l) (variable N l) f

row_looks : {V R : Type 0} (E : Language V R) (N : Net) (local : Label → Local) → LooksAt same_label (inputs N) (row_step E N local)
row_looks {V} {R} E N local l f g h = row_at_same E N (local l) (variable N l) f g h

pub row_round : {V R : Type 0} (E : Language V R) (S : Settled) (W : Now) (l : Label) → circular W.net l ≡ true → row E S W l ≡ circle_row E (local E S W l)
unfolding row_by
row_round {V} {R} E S W l t =
    laws.unfolds same_label label_test (labels W.net) (inputs W.net) (only_variables W.net) (λ l. circle_row E (local E S W l)) (row_step E W.net (local E S W)) (row_looks E W.net (local E S W)) l ∙ cond-true _ _ _ t

pub row_on : {V R : Type 0} (E : Language V R) (S : Settled) (W : Now) (l : Label) → circular W.net l ≡ false → row E S W l ≡ row_at E W.net (local E S W l) (variable W.net l) (row E S W)
unfolding row_by
row_on {V} {R} E S W l f =
    laws.unfolds same_label label_test (labels W.net) (inputs W.net) (only_variables W.net) (λ l. circle_row E (local E S W l)) (row_step E W.net (local E S W)) (row_looks E W.net (local E S W)) l ∙ cond-false _ _ _ f
