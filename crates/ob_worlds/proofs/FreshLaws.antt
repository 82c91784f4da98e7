-- What a tick's rows hold is what fresh evaluation gives after the tick.
use Rattle.std.proofs.Common.{◌≡◌, Bool, true, false, not, List, Option, Some, None, refl, ap, ◌∙◌, sym, if◌then◌else◌}
use Rattle.std.specs.Prelude.{option_and_then, option_map, unwrap_or}
use Rattle.std.specs.Option.{option_map_or}
use Rattle.ob_base.specs.declared.plain.Plain.{Plain}
use Rattle.ob_names.specs.declared.form.NameRef.{NameRef}
use Rattle.ob_cells.specs.declared.def.Body.{Body}
use Rattle.ob_inputs.specs.Same.{at}
use Rattle.ob_inputs.proofs.ValueLaws as laws
use Rattle.ob_inputs.proofs.PathLaws.{live_on}
use Rattle.ob_base.specs.Labels.{Label, same_label}
use Rattle.ob_worlds.specs.Language.{Language, Reason}
use Rattle.ob_worlds.specs.Variables.{Variable}
use Rattle.ob_worlds.specs.Nets.{variable, labels, inputs, homes, circular, live, live_labels}
use Rattle.ob_worlds.specs.Outcomes.{name_of, first_reason, failed_inputs, values_of, outcome_at, outcome_from, shown_by, own_home, shown, outcome}
use Rattle.ob_worlds.specs.Settled.{Settled, Now, segments_at}
use Rattle.ob_worlds.specs.Rows.{Row, local, outcome_in, given_in, current_in, shown_in, row_at, row}
use Rattle.ob_worlds.specs.Ticks.{rows, settled_after}
use Rattle.ob_worlds.specs.Since.{IsNet}
use Rattle.ob_worlds.proofs.SameLaws.{label_test}
use Rattle.ob_worlds.proofs.NetLaws.{only_variables}
use Rattle.ob_worlds.proofs.MapLaws.{at_map, at_values, at_filter, at_entries, in_filter}
use Rattle.ob_worlds.proofs.OutcomeLaws.{In, home_in, reasons_same, values_same, outcome_round, outcome_on, row_round, row_on}

-- a live variable
abbrev pub IsLive : Now → Label → Type 0
IsLive W l = In l (labels W.net) × (live W.net l ≡ true)

-- and its inputs are live
pub inputs_live : (W : Now) → IsNet W.net → (l u : Label) → IsLive W l → In u (inputs W.net l) → IsLive W u
inputs_live W net l u h m =
    (net.inside l u m, live_on same_label label_test (labels W.net) (inputs W.net) (only_variables W.net) W.net.observed l u h.1 m)

-- ---- what the tick kept of a live variable

row_found : {V R : Type 0} (E : Language V R) (S : Settled) (W : Now) (l : Label) → IsLive W l → at same_label (rows E S W) l ≡ Some (row E S W l)
unfolding rows
row_found {V} {R} E S W l h = at_map (row E S W) (live_labels W.net) l (in_filter (live W.net) (labels W.net) l h.0 h.1)

pub segments_found : {V R : Type 0} (E : Language V R) (S : Settled) (W : Now) (l : Label) → IsLive W l → segments_at (settled_after E S W) l ≡ (row E S W l).next
unfolding settled_after
segments_found {V} {R} E S W l h =
    ap (λ o. unwrap_or o 0) (at_values (λ (r : Row V). r.next) (rows E S W) l ∙ ap (option_map (λ (r : Row V). r.next)) (row_found E S W l h))

current_found : {V R : Type 0} (E : Language V R) (S : Settled) (W : Now) (l : Label) → IsLive W l → at same_label (settled_after E S W).net.current l ≡ (row E S W l).current
unfolding settled_after rows
current_found {V} {R} E S W l h = at_entries (λ (r : Row V). r.current) (row E S W) (live_labels W.net) l (in_filter (live W.net) (labels W.net) l h.0 h.1)

-- a view is given on what it was given, unless it moved
abbrev stays_given : {V R : Type 0} (E : Language V R) → Settled → Now → Label → Bool
stays_given {V} {R} E S W l = option_map_or (λ (r : Row V). not r.moved) (at same_label (rows E S W) l) false

given_found : {V R : Type 0} (E : Language V R) (S : Settled) (W : Now) (l : Label) → IsLive W l
    → at same_label (settled_after E S W).net.given l ≡ (if (row E S W l).moved then None else at same_label W.net.given l)
unfolding settled_after
given_found {V} {R} E S W l h =
    at_filter (stays_given E S W) W.net.given l
    ∙ ap (λ o. if option_map_or (λ (r : Row V). not r.moved) o false then at same_label W.net.given l else None) (row_found E S W l h)
    ∙ turn (row E S W l).moved
  where
    turn : (b : Bool) → (if not b then at same_label W.net.given l else None) ≡ (if b then None else at same_label W.net.given l)
    turn true = refl
    turn false = refl

-- what a live Shown shows
shown_found : {V R : Type 0} (E : Language V R) (S : Settled) (W : Now) (b : Body) (o : Option Label) → ((u : Label) → o ≡ Some u → IsLive W u)
    → shown_by b (given_in W.net (row E S W) o) (current_in (row E S W) o)
    ≡ shown_by b (option_and_then (at same_label (settled_after E S W).net.given) o) (option_and_then (at same_label (settled_after E S W).net.current) o)
shown_found {V} {R} E S W b None h = refl
shown_found {V} {R} E S W b (Some u) h =
    ap (λ x. shown_by b x (row E S W u).current) (sym (given_found E S W u (h u refl)))
    ∙ ap (shown_by b (at same_label (settled_after E S W).net.given u)) (sym (current_found E S W u (h u refl)))

-- the settled net has the variables of the net
pub variable_after : {V R : Type 0} (E : Language V R) (S : Settled) (W : Now) (l : Label) → variable (settled_after E S W).net l ≡ variable W.net l
unfolding settled_after variable
variable_after {V} {R} E S W l = refl

pub circular_after : {V R : Type 0} (E : Language V R) (S : Settled) (W : Now) (l : Label) → circular (settled_after E S W).net l ≡ circular W.net l
unfolding settled_after variable
circular_after {V} {R} E S W l = refl

-- ---- rows

abbrev Fresh : {V R : Type 0} (E : Language V R) → Settled → Now → Label → Type 0
Fresh {V} {R} E S W l = (row E S W l).outcome ≡ outcome E (settled_after E S W).net (segments_at (settled_after E S W)) l

fresh_on : {V R : Type 0} (E : Language V R) (S : Settled) (W : Now) → IsNet W.net → (l : Label) → circular W.net l ≡ false
    → ((u : Label) → In u (inputs W.net l) → Fresh E S W u) → IsLive W l → Fresh E S W l
fresh_on {V} {R} E S W net l f ih h =
    let T : Settled = settled_after E S W in
    let v : Variable = variable W.net l in
    let r = row_on E S W l f in
    let reason : Option Reason = failed_inputs E W.net (outcome_in (row E S W)) v in
    let values : List (NameRef × V) = values_of E (outcome_in (row E S W)) v in
    let showing : Option Plain = shown_in W.net (row E S W) v in
    let n : (row_at E W.net (local E S W l) v (row E S W)).next ≡ segments_at T l = sym (ap (λ (r : Row V). r.next) r) ∙ sym (segments_found E S W l h) in
    let sh : showing ≡ shown T.net v = shown_found E S W v.body (own_home v) (λ u e. inputs_live W net l u h (home_in v.label (homes v.inputs) u e).0) in
    let rs = reasons_same E W.net T.net (outcome_in (row E S W)) (outcome E T.net (segments_at T)) v.inputs ih (λ u m. ap name_of (sym (variable_after E S W u))) in
    let vs = values_same E (outcome_in (row E S W)) (outcome E T.net (segments_at T)) v.names v.inputs ih in
    ap (λ (r : Row V). r.outcome) r
    ∙ ap (λ k. outcome_from E v k showing reason values) n
    ∙ ap (λ x. outcome_from E v (segments_at T l) x reason values) sh
    ∙ ap (λ x. outcome_from E v (segments_at T l) (shown T.net v) (first_reason x) values) rs
    ∙ ap (outcome_from E v (segments_at T l) (shown T.net v) (failed_inputs E T.net (outcome E T.net (segments_at T)) v)) vs
    ∙ ap (λ x. outcome_at E T.net x (segments_at T l) (shown T.net x) (outcome E T.net (segments_at T))) (sym (variable_after E S W l))
    ∙ sym (outcome_on E T.net (segments_at T) l (circular_after E S W l ∙ f))

-- the outcome in the row of a live variable is that of fresh evaluation after the tick
pub rows_are_fresh : {V R : Type 0} (E : Language V R) (S : Settled) (W : Now) → IsNet W.net → (l : Label) → IsLive W l → Fresh E S W l
rows_are_fresh {V} {R} E S W net l = laws.induct same_label label_test (labels W.net) (inputs W.net) (only_variables W.net) (λ l. IsLive W l → Fresh E S W l)
    (λ l t h. ap (λ (r : Row V). r.outcome) (row_round E S W l t) ∙ sym (outcome_round E (settled_after E S W).net (segments_at (settled_after E S W)) l (circular_after E S W l ∙ t)))
    (λ l f ih h. fresh_on E S W net l f (λ u m. ih u m (inputs_live W net l u h m)) h)
    l
