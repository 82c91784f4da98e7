-- What hasn't moved at a tick has the outcome that it had.
use Rattle.std.proofs.Common.{◌≡◌, ℕ, zero, suc, ◌==◌, Bool, true, false, not, ◌&&◌, ◌||◌, List, [], ◌∷◌, Option, Some, None, refl, ap, ◌∙◌, subst, sym, if◌then◌else◌, inl, inr, ⊎_elim, arith}
use Rattle.std.specs.Prelude.{option_and_then, is_some, option_map}
use Rattle.std.specs.Option.{option_map_or}
use Rattle.std.specs.List.{list_any}
use Rattle.std.proofs.lemmas.Bool.{and_parts, and_cases, or_parts, cases_Bool, both_ways, not-true, not-false, cond-true, cond-false, eqb-true}
use Rattle.ob_base.specs.declared.plain.Plain.{Plain}
use Rattle.ob_tree_types.specs.declared.cell.CellTree.{CellTree}
use Rattle.ob_names.specs.declared.form.NameRef.{NameRef}
use Rattle.ob_cells.specs.declared.def.Body.{Body}
use Rattle.ob_cells.specs.declared.def.Body.TheVariants as body
use Rattle.ob_inputs.specs.Same.{is_in, at}
use Rattle.ob_inputs.proofs.ValueLaws as laws
use Rattle.ob_base.specs.Labels.{Label, same_label}
use Rattle.ob_worlds.specs.Labels.{Resolved, same_resolved}
use Rattle.ob_worlds.specs.Language.{Language, IsLanguage, Reason}
use Rattle.ob_worlds.specs.Language.Outcome.{Failed}
use Rattle.ob_worlds.specs.Language.Failure.{Syntax, Runtime}
use Rattle.ob_worlds.specs.Language.Reason.{Ambiguous}
use Rattle.ob_worlds.specs.Variables.{Variable}
use Rattle.ob_worlds.specs.Nets.{variable, labels, inputs, homes, circular, live}
use Rattle.ob_worlds.specs.Outcomes.{name_of, first_reason, failed_inputs, values_of, body_outcome, outcome_at, outcome_from, shown_by, own_home, shown, outcome}
use Rattle.ob_worlds.specs.Settled.{Settled, Now, segments_at, both, same_inputs, is_fresh}
use Rattle.ob_worlds.specs.Rows.{Row, Local, local, behind, pulled, started, ends_at, outcome_in, given_in, current_in, shown_in, row_at, row}
use Rattle.ob_worlds.specs.Since.{IsNet, Since}
use Rattle.ob_worlds.proofs.SameLaws.{label_test, resolved_are}
use Rattle.ob_worlds.proofs.NetLaws.{only_variables}
use Rattle.ob_worlds.proofs.OutcomeLaws.{In, home_in, reasons_same, values_same, outcome_round, outcome_on, row_round, row_on}

-- ---- standing

same_inputs_are : (is js : List Resolved) → same_inputs is js ≡ true → is ≡ js
same_inputs_are [] [] h = refl
same_inputs_are [] (j ∷ js) h = absurd (both_ways false refl h)
same_inputs_are (i ∷ is) [] h = absurd (both_ways false refl h)
same_inputs_are (i ∷ is) (j ∷ js) h =
    let b = and_parts (same_resolved i j) (same_inputs is js) h in
    ap (λ x. x ∷ is) (resolved_are i j b.0) ∙ ap (λ xs. j ∷ xs) (same_inputs_are is js b.1)

both_are : (a b : Bool) → both a b ≡ true → a ≡ b
both_are true b h = sym h
both_are false b h = sym (not-true b h)

-- a variable that isn't renewed for a cause of its own is what it was
pub record Stays (S : Settled) (W : Now) (l : Label) : Type 0 where
  pub was_live : live S.net l ≡ true
  pub circular : circular S.net l ≡ circular W.net l
  pub variable : variable S.net l ≡ variable W.net l

pub stays : (S : Settled) (W : Now) → Since S W → (l : Label) → In l (labels W.net) → is_fresh S W l ≡ false → Stays S W l
stays S W since l there h =
    let a = or_parts (list_any (λ s. l.cell == s) W.touched) _ h in
    let b = or_parts (not (live S.net l)) _ a.1 in
    let lives = not-false (live S.net l) b.0 in
    let c = and_parts (both (variable S.net l).duplicate (variable W.net l).duplicate) _ (not-false _ b.1) in
    let d = and_parts (both (circular S.net l) (circular W.net l)) _ c.1 in
    let v : Variable = variable S.net l in
    let e = since.cell l there lives a.0 in
    record {
      was_live = lives;
      circular = both_are _ _ d.0;
      variable = ap (λ x. record v { duplicate = x }) (both_are _ _ c.0) ∙ ap (λ x. record v { duplicate = (variable W.net l).duplicate; inputs = x }) (same_inputs_are _ _ d.1) ∙ sym e;
    }

-- ---- a run that gave nothing new has the outcome that it had

still_run : {V R : Type 0} (E : Language V R) → IsLanguage E → (l : Label) (tree : Option CellTree) (values : List (NameRef × V)) (n : ℕ)
    → option_map_or E.ends_quietly (option_map (λ t. E.run l t values (suc (suc n))) tree) true ≡ true
    → option_map_or E.outcome_of (option_map (λ t. E.run l t values (suc (suc n))) tree) (Failed Syntax) ≡ option_map_or E.outcome_of (option_map (λ t. E.run l t values (suc n)) tree) (Failed Syntax)
still_run {V} {R} E ok l None values n h = refl
still_run {V} {R} E ok l (Some t) values n h = ok.keeps l t values n h

still_body : {V R : Type 0} (E : Language V R) → IsLanguage E → (v : Variable) (values : List (NameRef × V)) (n : ℕ) (s : Option Plain) (b : Body)
    → ends_at E v values (suc (suc n)) ≡ true → body_outcome E v values (suc (suc n)) s b ≡ body_outcome E v values (suc n) s b
still_body {V} {R} E ok v values n s body.Tree h = still_run E ok v.label v.tree values n h
still_body {V} {R} E ok v values n s body.Unreadable h = refl
still_body {V} {R} E ok v values n s body.ShowView h = refl
still_body {V} {R} E ok v values n s body.ShowMutable h = refl
still_body {V} {R} E ok v values n s body.Hold h = refl

-- what is given by the number of segments before and now
abbrev quiet : {V R : Type 0} (E : Language V R) → Variable → List (NameRef × V) → ℕ → ℕ → Bool
quiet {V} {R} E v values next segments = not (next == segments) && not (ends_at E v values next)

still_pulled : {V R : Type 0} (E : Language V R) → IsLanguage E → (v : Variable) (values : List (NameRef × V)) (s : Option Plain) (b : Body) (segments : ℕ)
    → (segments == 0) ≡ false → quiet E v values (suc segments) segments ≡ false → body_outcome E v values (suc segments) s b ≡ body_outcome E v values segments s b
still_pulled {V} {R} E ok v values s b zero z h = absurd (both_ways _ z refl)
still_pulled {V} {R} E ok v values s b (suc n) z h =
    ⊎_elim (λ a. absurd (let q = eqb-true (suc (suc n)) (suc n) (not-false _ a) in omega arith)) (λ a. still_body E ok v values n s b (not-false _ a)) (and_cases _ _ h)

still : {V R : Type 0} (E : Language V R) → IsLanguage E → (v : Variable) (values : List (NameRef × V)) (s : Option Plain) (reason : Option Reason) (l : Local)
    → quiet E v values (pulled l) l.segments ≡ false → outcome_from E v (pulled l) s reason values ≡ outcome_from E v l.segments s reason values
still {V} {R} E ok v values s reason l h = elim (cases_Bool ((l.segments == 0) || l.ended)) [
  | inl t ↦ ap (λ n. outcome_from E v n s reason values) (cond-true _ _ _ t)
  | inr f ↦
      let n : pulled l ≡ suc l.segments = cond-false _ _ _ f in
      let e = still_pulled E ok v values s v.body l.segments ((or_parts (l.segments == 0) l.ended f).0) (subst (λ k. quiet E v values k l.segments ≡ false) n h) in
      ap (λ n. outcome_from E v n s reason values) n
      ∙ ap (λ o. if v.duplicate then Failed (Runtime (Ambiguous (record { path = v.label.path; name = name_of v }))) else option_map_or (λ r. Failed (Runtime r)) reason o) e
]

-- ---- what hasn't moved

-- the current value of a Holder that hasn't moved is what it was
current_stays : {V R : Type 0} (E : Language V R) (S : Settled) (W : Now) (u : Label) → (row E S W u).moved ≡ false → (row E S W u).current ≡ at same_label W.net.current u
current_stays {V} {R} E S W u h = elim (cases_Bool (circular W.net u)) [
  | inl t ↦
      let r = row_round E S W u t in
      let m : (is_fresh S W u || is_in same_label u W.got) ≡ false = sym (ap (λ (r : Row V). r.moved) r) ∙ h in
      ap (λ (r : Row V). r.current) r ∙ cond-false (is_fresh S W u) _ _ ((or_parts (is_fresh S W u) _ m).0)
  | inr f ↦
      let r = row_on E S W u f in
      let late : Bool = behind (row E S W) (homes (variable W.net u).inputs) in
      let m : (row_at E W.net (local E S W u) (variable W.net u) (row E S W)).moved ≡ false = sym (ap (λ (r : Row V). r.moved) r) ∙ h in
      ap (λ (r : Row V). r.current) r ∙ cond-false (is_fresh S W u || late) _ _ ((or_parts (is_fresh S W u || late) _ m).0)
]

-- what is shown, where no input moved
shown_stays : {V R : Type 0} (E : Language V R) (S : Settled) (W : Now) (b : Body) (o : Option Label) → ((u : Label) → o ≡ Some u → (row E S W u).moved ≡ false)
    → shown_by b (given_in W.net (row E S W) o) (current_in (row E S W) o)
    ≡ shown_by b (option_and_then (at same_label W.net.given) o) (option_and_then (at same_label W.net.current) o)
shown_stays {V} {R} E S W b None h = refl
shown_stays {V} {R} E S W b (Some u) h =
    ap (λ x. shown_by b x (row E S W u).current) (cond-false _ _ _ (h u refl)) ∙ ap (shown_by b (at same_label W.net.given u)) (current_stays E S W u (h u refl))

-- the outcome that a variable had, and its name, for its inputs
pub record Was {V R : Type 0} (E : Language V R) (S : Settled) (W : Now) (u : Label) : Type 0 where
  pub outcome : (row E S W u).outcome ≡ outcome E S.net (segments_at S) u
  pub variable : variable S.net u ≡ variable W.net u

kept_on : {V R : Type 0} (E : Language V R) → IsLanguage E → (S : Settled) (W : Now) → IsNet W.net → Since S W → (l : Label) → In l (labels W.net) → circular W.net l ≡ false
    → ((u : Label) → In u (inputs W.net l) → (row E S W u).moved ≡ false → Was E S W u)
    → (row E S W l).moved ≡ false → Was E S W l
kept_on {V} {R} E ok S W net since l there f ih h =
    let v : Variable = variable W.net l in
    let Q : (Label → ℕ) = segments_at S in
    let r = row_on E S W l f in
    let known : Local = local E S W l in
    let late : Bool = behind (row E S W) (homes v.inputs) in
    let reason : Option Reason = failed_inputs E W.net (outcome_in (row E S W)) v in
    let values : List (NameRef × V) = values_of E (outcome_in (row E S W)) v in
    let next : ℕ = if is_fresh S W l || late then started v (is_some reason) else pulled known in
    let showing : Option Plain = shown_in W.net (row E S W) v in
    let m : (row_at E W.net known v (row E S W)).moved ≡ false = sym (ap (λ (r : Row V). r.moved) r) ∙ h in
    let p = or_parts (is_fresh S W l || late) _ m in
    let q = or_parts (is_fresh S W l) late p.0 in
    let g = or_parts _ (is_in same_label l W.got) p.1 in
    let s = stays S W since l there q.0 in
    let unmoved : ((u : Label) → In u (homes v.inputs) → (row E S W u).moved ≡ false) = λ u m. laws.each_not same_label label_test (λ u. (row E S W u).moved) (homes v.inputs) u q.1 m in
    let before : ((u : Label) → In u (homes v.inputs) → Was E S W u) = λ u m. ih u m (unmoved u m) in
    let nx : next ≡ pulled known = cond-false _ _ _ p.0 in
    let quiet_now : quiet E v values (pulled known) known.segments ≡ false = subst (λ k. quiet E v values k known.segments ≡ false) nx g.0 in
    let sh : showing ≡ shown S.net v =
    shown_stays E S W v.body (own_home v) (λ u e. unmoved u (home_in v.label (homes v.inputs) u e).0) ∙ sym (since.shown l there s.was_live g.1 s.variable) in
    let rs = reasons_same E W.net S.net (outcome_in (row E S W)) (outcome E S.net Q) v.inputs (λ u m. (before u m).outcome) (λ u m. ap name_of (sym (before u m).variable)) in
    let vs = values_same E (outcome_in (row E S W)) (outcome E S.net Q) v.names v.inputs (λ u m. (before u m).outcome) in
    record {
      outcome =
          ap (λ (r : Row V). r.outcome) r
          ∙ ap (λ k. outcome_from E v k showing reason values) nx
          ∙ still E ok v values showing reason known quiet_now
          ∙ ap (λ x. outcome_from E v (Q l) x reason values) sh
          ∙ ap (λ x. outcome_from E v (Q l) (shown S.net v) (first_reason x) values) rs
          ∙ ap (outcome_from E v (Q l) (shown S.net v) (failed_inputs E S.net (outcome E S.net Q) v)) vs
          ∙ ap (λ x. outcome_at E S.net x (Q l) (shown S.net x) (outcome E S.net Q)) (sym s.variable)
          ∙ sym (outcome_on E S.net Q l (s.circular ∙ f));
      variable = s.variable;
    }

kept_round : {V R : Type 0} (E : Language V R) (S : Settled) (W : Now) → Since S W → (l : Label) → In l (labels W.net) → circular W.net l ≡ true → (row E S W l).moved ≡ false → Was E S W l
kept_round {V} {R} E S W since l there t h =
    let r = row_round E S W l t in
    let m : (is_fresh S W l || is_in same_label l W.got) ≡ false = sym (ap (λ (r : Row V). r.moved) r) ∙ h in
    let s = stays S W since l there ((or_parts (is_fresh S W l) _ m).0) in
    record {
      outcome = ap (λ (r : Row V). r.outcome) r ∙ sym (outcome_round E S.net (segments_at S) l (s.circular ∙ t));
      variable = s.variable;
    }

-- a variable that hasn't moved has the outcome that it had
pub kept : {V R : Type 0} (E : Language V R) → IsLanguage E → (S : Settled) (W : Now) → IsNet W.net → Since S W → (l : Label) → In l (labels W.net) → (row E S W l).moved ≡ false → Was E S W l
kept {V} {R} E ok S W net since l = laws.induct same_label label_test (labels W.net) (inputs W.net) (only_variables W.net) (λ l. In l (labels W.net) → (row E S W l).moved ≡ false → Was E S W l)
    (λ l t there h. kept_round E S W since l there t h)
    (λ l f ih there h. kept_on E ok S W net since l there f (λ u m. ih u m (net.inside l u m)) h)
    l
