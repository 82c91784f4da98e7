-- A tick leaves current runs only where inputs have values.
use Rattle.std.proofs.Common.{◌≡◌, ◌≢◌, Bool, true, false, not, ◌&&◌, ◌||◌, Option, Some, None, refl, ap, ◌∙◌, sym, if◌then◌else◌, inl, inr}
use Rattle.std.specs.Prelude.{is_some, unwrap_or, option_map}
use Rattle.std.proofs.lemmas.Bool.{and_parts, or_parts, or_left, cases_Bool, both_ways, not-true, cond-true, cond-false, eq-eqb}
use Rattle.ob_inputs.specs.Same.{is_in}
use Rattle.ob_inputs.proofs.ValueLaws as laws
use Rattle.ob_base.specs.Labels.{Label, same_label}
use Rattle.ob_worlds.specs.Language.{Language, IsLanguage, Reason}
use Rattle.ob_worlds.specs.Variables.{Variable, has_text}
use Rattle.ob_worlds.specs.Nets.{variable, labels, inputs, homes, circular, live, live_labels}
use Rattle.ob_worlds.specs.Outcomes.{name_of, first_reason, failed_inputs, outcome}
use Rattle.ob_worlds.specs.Settled.{Settled, Now, segments_at, is_fresh}
use Rattle.ob_worlds.specs.Rows.{Row, Local, local, behind, pulled, started, outcome_in, row}
use Rattle.ob_worlds.specs.Ticks.{rows, settled_after}
use Rattle.ob_worlds.specs.Since.{IsNet, Since, IsRunning, Running}
use Rattle.ob_worlds.proofs.SameLaws.{label_test}
use Rattle.ob_worlds.proofs.MapLaws.{at_map_none, at_values, from_filter}
use Rattle.ob_worlds.proofs.OutcomeLaws.{In, reasons_same, row_round, row_on}
use Rattle.ob_worlds.proofs.TickLaws.{stays, Was, kept}
use Rattle.ob_worlds.proofs.FreshLaws.{IsLive, inputs_live, segments_found, variable_after, circular_after, rows_are_fresh}

started_fine : (v : Variable) (reason : Option Reason) → started v (is_some reason) ≢ 0 → (v.duplicate ≡ false) × (reason ≡ None)
started_fine v reason h = elim (cases_Bool (has_text v && (not v.duplicate && not (is_some reason)))) [
  | inl t ↦ let a = and_parts (has_text v) _ t in let b = and_parts (not v.duplicate) _ a.1 in (not-true _ b.0, none reason (not-true _ b.1))
  | inr f ↦ absurd (h (cond-false _ _ _ f))
]
  where
    none : (o : Option Reason) → is_some o ≡ false → o ≡ None
    none None e = refl
    none (Some r) e = absurd (both_ways true e refl)

pulled_runs : (l : Local) → pulled l ≢ 0 → l.segments ≢ 0
pulled_runs l h = λ z. h (cond-true _ _ _ (or_left _ _ (eq-eqb l.segments 0 z)) ∙ z)

-- a variable with a current run after the tick is live
runs_are_live : {V R : Type 0} (E : Language V R) (S : Settled) (W : Now) (l : Label) → segments_at (settled_after E S W) l ≢ 0 → IsLive W l
unfolding settled_after rows
runs_are_live {V} {R} E S W l h = elim (cases_Bool (is_in same_label l (live_labels W.net))) [
  | inl t ↦ let w = from_filter (live W.net) (labels W.net) l t in (w.0, w.1)
  | inr n ↦ absurd (h (ap (λ o. unwrap_or o 0) (at_values (λ (r : Row V). r.next) (rows E S W) l ∙ ap (option_map (λ (r : Row V). r.next)) (at_map_none (row E S W) (live_labels W.net) l n))))
]

-- the reason of a failed input in the rows is that of fresh evaluation
reason_after : {V R : Type 0} (E : Language V R) (S : Settled) (W : Now) → IsNet W.net → (l : Label) → IsLive W l
    → failed_inputs E W.net (outcome_in (row E S W)) (variable W.net l)
    ≡ failed_inputs E (settled_after E S W).net (outcome E (settled_after E S W).net (segments_at (settled_after E S W))) (variable (settled_after E S W).net l)
reason_after {V} {R} E S W net l h =
    let T : Settled = settled_after E S W in
    ap first_reason (reasons_same E W.net T.net (outcome_in (row E S W)) (outcome E T.net (segments_at T)) (variable W.net l).inputs
    (λ u m. rows_are_fresh E S W net u (inputs_live W net l u h m)) (λ u m. ap name_of (sym (variable_after E S W u))))
    ∙ ap (failed_inputs E T.net (outcome E T.net (segments_at T))) (sym (variable_after E S W l))

-- and, where no input moved, that of the last tick
reason_before : {V R : Type 0} (E : Language V R) → IsLanguage E → (S : Settled) (W : Now) → IsNet W.net → Since S W → (l : Label) → behind (row E S W) (inputs W.net l) ≡ false → variable S.net l ≡ variable W.net l
    → failed_inputs E W.net (outcome_in (row E S W)) (variable W.net l) ≡ failed_inputs E S.net (outcome E S.net (segments_at S)) (variable S.net l)
reason_before {V} {R} E ok S W net since l late same =
    let was : ((u : Label) → In u (inputs W.net l) → Was E S W u) =
    λ u m. kept E ok S W net since u (net.inside l u m) (laws.each_not same_label label_test (λ u. (row E S W u).moved) (inputs W.net l) u late m) in
    ap first_reason (reasons_same E W.net S.net (outcome_in (row E S W)) (outcome E S.net (segments_at S)) (variable W.net l).inputs
    (λ u m. (was u m).outcome) (λ u m. ap name_of (sym (was u m).variable)))
    ∙ ap (failed_inputs E S.net (outcome E S.net (segments_at S))) (sym same)

running_on : {V R : Type 0} (E : Language V R) → IsLanguage E → (S : Settled) (W : Now) → IsNet W.net → Since S W → Running E S → (l : Label) → IsLive W l → (row E S W l).next ≢ 0 → IsRunning E (settled_after E S W) l
running_on {V} {R} E ok S W net since run l h n = elim (cases_Bool (circular W.net l)) [
  | inl t ↦
      let r = row_round E S W l t in
      let m : (if is_fresh S W l then 0 else segments_at S l) ≢ 0 = λ z. n (ap (λ (r : Row V). r.next) r ∙ z) in
      elim (cases_Bool (is_fresh S W l)) [
        | inl y ↦ absurd (m (cond-true _ _ _ y))
        | inr y ↦ let g = run l (λ z. m (cond-false _ _ _ y ∙ z)) in absurd (both_ways _ g.round ((stays S W since l h.0 y).circular ∙ t))
      ]
  | inr f ↦
      let r = row_on E S W l f in
      let v : Variable = variable W.net l in
      let late : Bool = behind (row E S W) (homes v.inputs) in
      let reason : Option Reason = failed_inputs E W.net (outcome_in (row E S W)) v in
      let m : (if is_fresh S W l || late then started v (is_some reason) else pulled (local E S W l)) ≢ 0 = λ z. n (ap (λ (r : Row V). r.next) r ∙ z) in
      elim (cases_Bool (is_fresh S W l || late)) [
        | inl y ↦
            let p = started_fine v reason (λ z. m (cond-true _ _ _ y ∙ z)) in
            record { round = circular_after E S W l ∙ f; single = ap (λ (x : Variable). x.duplicate) (variable_after E S W l) ∙ p.0; values = sym (reason_after E S W net l h) ∙ p.1 }
        | inr y ↦
            let q = or_parts (is_fresh S W l) late y in
            let s = stays S W since l h.0 q.0 in
            let g = run l (pulled_runs (local E S W l) (λ z. m (cond-false _ _ _ y ∙ z))) in
            record {
              round = circular_after E S W l ∙ f;
              single = ap (λ (x : Variable). x.duplicate) (variable_after E S W l ∙ sym s.variable) ∙ g.single;
              values = sym (reason_after E S W net l h) ∙ reason_before E ok S W net since l q.1 s.variable ∙ g.values;
            }
      ]
]

-- a tick keeps it
pub running : {V R : Type 0} (E : Language V R) → IsLanguage E → (S : Settled) (W : Now) → IsNet W.net → Since S W → Running E S → Running E (settled_after E S W)
running {V} {R} E ok S W net since run l n =
    let h = runs_are_live E S W l n in
    running_on E ok S W net since run l h (λ z. n (segments_found E S W l h ∙ z))
