-- What a tick makes of each variable, by recursion over inputs (this project).
use Rattle.std.specs.Prelude.{ℕ, suc, ◌==◌, Bool, true, not, ◌&&◌, ◌||◌, List, Option, None, is_some, option_and_then, if◌then◌else◌}
use Rattle.std.specs.Option.{option_map_or}
use Rattle.std.specs.List.{list_any}
use Rattle.ob_base.specs.declared.plain.Plain.{Plain}
use Rattle.ob_names.specs.declared.form.NameRef.{NameRef}
use Rattle.ob_cells.specs.declared.def.Body.{Body}
use Rattle.ob_cells.specs.declared.def.Body.TheVariants as body
use Rattle.ob_inputs.specs.Same.{is_in, at}
use Rattle.ob_inputs.specs.Values.{by_inputs}
use Rattle.ob_base.specs.Labels.{Label, same_label}
use Rattle.ob_worlds.specs.Language.{Language, Reason, Outcome}
use Rattle.ob_worlds.specs.Variables.{Variable, has_text}
use Rattle.ob_worlds.specs.Nets.{Net, variable, labels, inputs, homes}
use Rattle.ob_worlds.specs.Outcomes.{failed_inputs, values_of, value_in, the_value, run_of, outcome_from, shown_by, own_home, circle_outcome}
use Rattle.ob_worlds.specs.Settled.{Settled, Now, segments_at, current_run, is_fresh}

-- Whether a variable is renewed and whether it has moved, the number of segments of its current run, its outcome, and the current
-- value of a Holder.
pub record Row (V : Type 0) : Type 0 where
  pub renewed : Bool
  pub moved : Bool
  pub next : ℕ
  pub outcome : Outcome V
  pub current : Option Plain

-- what is known of a variable without its inputs: whether it has a cause of its own to be renewed, whether it is a Shown that got
-- something, the number of segments of its run so far, whether that has ended, and its current value so far
pub record Local : Type 0 where
  pub fresh : Bool
  pub got : Bool
  pub segments : ℕ
  pub ended : Bool
  pub current : Option Plain

abbrev pub local : {V R : Type 0} → Language V R → Settled → Now → Label → Local
local {V} {R} E S W l = record {
  fresh = is_fresh S W l;
  got = is_in same_label l W.got;
  segments = segments_at S l;
  ended = option_map_or E.has_ended (current_run E S l) true;
  current = at same_label W.net.current l;
}

-- ---- of a variable that isn't circular

-- whether one of these moved
abbrev pub behind : {V : Type 0} → (Label → Row V) → List Label → Bool
behind {V} row ls = list_any (λ l. (row l).moved) ls

-- a renewed variable begins a run if it has a text, is no duplicate, and all its inputs have values
abbrev pub started : Variable → Bool → ℕ
started v fails = if has_text v && (not v.duplicate && not fails) then 1 else 0

-- another's run is pulled once more, if it hasn't ended
abbrev pub pulled : Local → ℕ
pulled l = if (l.segments == 0) || l.ended then l.segments else suc l.segments

-- whether segment n is an end that keeps the outcome
abbrev pub ends_at : {V R : Type 0} (E : Language V R) → Variable → List (NameRef × V) → ℕ → Bool
ends_at {V} {R} E v values n = option_map_or E.ends_quietly (run_of E v values n) true

-- the current value of a Holder that is renewed: the plain data of its initial value; none where it fails
abbrev pub initial_current : {V R : Type 0} (E : Language V R) → Variable → List (NameRef × V) → Outcome V → Body → Option Plain
initial_current {V} {R} E v values result body.Hold = option_and_then (λ x. E.plain_of (the_value E values)) (value_in result)
initial_current {V} {R} E v values result body.Tree = None
initial_current {V} {R} E v values result body.ShowView = None
initial_current {V} {R} E v values result body.ShowMutable = None
initial_current {V} {R} E v values result body.Unreadable = None

-- by whether an input moved, the reason of its failed input, the values of its inputs, and, of a Shown, what it shows
abbrev pub row_from : {V R : Type 0} (E : Language V R) → Local → Variable → Bool → Option Reason → List (NameRef × V) → Option Plain → Row V
row_from {V} {R} E l v late reason values shown =
    let renewed : Bool = l.fresh || late in
    let next : ℕ = if renewed then started v (is_some reason) else pulled l in
    let result : Outcome V = outcome_from E v next shown reason values in
    record {
      renewed = renewed;
      moved = renewed || ((not (next == l.segments) && not (ends_at E v values next)) || l.got);
      next = next;
      outcome = result;
      current = if renewed then initial_current E v values result v.body else l.current;
    }

abbrev pub outcome_in : {V : Type 0} → (Label → Row V) → Label → Outcome V
outcome_in {V} row u = (row u).outcome

-- what was given for a view that moved is no longer given
abbrev pub given_in : {V : Type 0} → Net → (Label → Row V) → Option Label → Option Plain
given_in {V} N row home = option_and_then (λ u. if (row u).moved then None else at same_label N.given u) home

abbrev pub current_in : {V : Type 0} → (Label → Row V) → Option Label → Option Plain
current_in {V} row home = option_and_then (λ u. (row u).current) home

abbrev pub shown_in : {V : Type 0} → Net → (Label → Row V) → Variable → Option Plain
shown_in {V} N row v = shown_by v.body (given_in N row (own_home v)) (current_in row (own_home v))

abbrev pub row_at : {V R : Type 0} (E : Language V R) → Net → Local → Variable → (Label → Row V) → Row V
row_at {V} {R} E N l v row =
    row_from E l v (behind row (homes v.inputs)) (failed_inputs E N (outcome_in row) v) (values_of E (outcome_in row) v) (shown_in N row v)

-- ---- of a circular variable: only causes of its own renew it

abbrev pub circle_row : {V R : Type 0} (E : Language V R) → Local → Row V
circle_row {V} {R} E l = record {
  renewed = l.fresh;
  moved = l.fresh || l.got;
  next = if l.fresh then 0 else l.segments;
  outcome = circle_outcome E;
  current = if l.fresh then None else l.current;
}

-- ---- of all

unfoldable pub row_by : {V R : Type 0} (E : Language V R) → Net → (Label → Local) → Label → Row V
row_by {V} {R} E N local = by_inputs same_label (labels N) (inputs N) (λ l. circle_row E (local l)) (λ l. row_at E N (local l) (variable N l))

abbrev pub row : {V R : Type 0} (E : Language V R) → Settled → Now → Label → Row V
row {V} {R} E S W = row_by E W.net (local E S W)
