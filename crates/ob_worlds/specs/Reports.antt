-- What happens at a tick, in the order of its report (this project).
use Rattle.std.specs.Prelude.{ℕ, suc, ◌+◌, ◌==◌, Bool, true, not, ◌&&◌, ◌||◌, List, [], ◌∷◌, ◌++◌, Option, Some, None, map, filter, if◌then◌else◌}
use Rattle.std.specs.Option.{option_map_or}
use Rattle.std.specs.List.{flat_map, sum_by}
use Rattle.ob_base.specs.declared.report.LostKind.{LostKind}
use Rattle.ob_inputs.specs.Same.{is_in, at}
use Rattle.ob_base.specs.Labels.{Label, same_label}
use Rattle.ob_worlds.specs.Language.{Language, Effect, HookResult, Invalidated, Outcome}
use Rattle.ob_worlds.specs.Nets.{labels, live}
use Rattle.ob_worlds.specs.Outcomes.{outcome}
use Rattle.ob_worlds.specs.Settled.{Settled, Now, number_at, segments_at, current_run}
use Rattle.ob_worlds.specs.Rows.{Row}
use Rattle.ob_worlds.specs.Ticks.{Rows, rows, begins, settled_by}
use Rattle.ob_worlds.specs.Effects.{Changes, with_effects}

pub data Happening (V : Type 0) : Type 0 where
  Invalidates : Label → (run : ℕ) → Happening V
  Hooks : Label → (run hook : ℕ) → (failure : List ℕ) → Happening V
  Logs : Label → List ℕ → Happening V
  Begins : Label → (run : ℕ) → Happening V
  Steps : Label → (run position : ℕ) → Happening V
  Ends : Label → (run : ℕ) → Happening V
  Loses : Label → LostKind → Happening V
  Shows : Label → Outcome V → Happening V

-- ---- invalidations

-- a run that was current is invalidated where its variable is renewed, or no longer live or there
abbrev pub is_stopped : {V : Type 0} → Rows V → Label → Bool
is_stopped {V} rows l = option_map_or (λ (r : Row V). r.renewed) (at same_label rows l) true

-- the variables whose runs are invalidated, in canonical order of the settled net
abbrev pub stopped : {V : Type 0} → Rows V → Settled → List Label
stopped {V} rows S = filter (λ l. not (segments_at S l == 0) && is_stopped rows l) (labels S.net)

abbrev pub no_hooks : Invalidated
no_hooks = record { hooks = []; effects = []; cost = 0 }

-- what the hooks of a run left
abbrev pub left_by : {V R : Type 0} (E : Language V R) → Settled → Label → Invalidated
left_by {V} {R} E S l = option_map_or E.invalidated (current_run E S l) no_hooks

abbrev pub failed_hook : {V R : Type 0} (E : Language V R) → Label → ℕ → ℕ → Option (List ℕ) → List (Happening V)
failed_hook {V} {R} E l run k None = []
failed_hook {V} {R} E l run k (Some failure) = Hooks l run k failure ∷ []

-- hooks are numbered from k
abbrev pub hook_events : {V R : Type 0} (E : Language V R) → Label → ℕ → ℕ → List HookResult → List (Happening V)
hook_events {V} {R} E l run k [] = []
hook_events {V} {R} E l run k (h ∷ hs) = map (Logs l) h.logs ++ failed_hook E l run k h.failure ++ hook_events E l run (suc k) hs

abbrev pub stop_events : {V R : Type 0} (E : Language V R) → Settled → Label → List (Happening V)
stop_events {V} {R} E S l = Invalidates l (number_at S.counts l) ∷ hook_events E l (number_at S.counts l) 1 (left_by E S l).hooks

-- ---- segments: S is the settled state before the tick, and T after it

-- whether a row has a segment of this tick: its run begins, or was pulled once more
abbrev pub has_segment : {V : Type 0} → ℕ → Row V → Bool
has_segment {V} before r = begins r || (not r.renewed && not (r.next == before))

abbrev pub ran : {V : Type 0} → Rows V → Settled → List Label
ran {V} rows S = map (λ (r : Label × Row V). r.0) (filter (λ (r : Label × Row V). has_segment (segments_at S r.0) r.1) rows)

abbrev pub of_run : {V R : Type 0} (E : Language V R) → {A : Type 0} → Settled → A → (R → A) → Label → A
of_run {V} {R} E {A} T none f l = option_map_or f (current_run E T l) none

-- a run begins, or a later segment gives a value or an error, or it ends and keeps the outcome
abbrev pub segment_event : {V R : Type 0} (E : Language V R) → Label → ℕ → ℕ → Bool → Happening V
segment_event {V} {R} E l run n quiet = if n == 1 then Begins l run else if quiet then Ends l run else Steps l run n

abbrev pub segment_events : {V R : Type 0} (E : Language V R) → Settled → Label → List (Happening V)
segment_events {V} {R} E T l =
    segment_event E l (number_at T.counts l) (segments_at T l) (of_run E T true E.ends_quietly l) ∷ map (Logs l) (of_run E T [] E.logs l)

-- ---- changes of mutables: those of hooks, then those of segments

abbrev pub effects_of : {V R : Type 0} (E : Language V R) → Rows V → Settled → Settled → List Effect
effects_of {V} {R} E rows S T = flat_map (λ l. (left_by E S l).effects) (stopped rows S) ++ flat_map (of_run E T [] E.effects) (ran rows S)

abbrev pub changes_of : {V R : Type 0} (E : Language V R) → Rows V → Settled → Settled → Changes
changes_of {V} {R} E rows S T = with_effects E (live T.net) T.net.current (effects_of E rows S T)

-- ---- observed variables

abbrev pub shows : {V R : Type 0} (E : Language V R) → Settled → List (Happening V)
shows {V} {R} E T = map (λ l. Shows l (outcome E T.net (segments_at T) l)) (filter (λ l. is_in same_label l T.net.observed) (labels T.net))

-- ---- the tick

-- what a tick leaves and tells: what it settles, the changes of mutables, what happens by the labels of the settled net, and by those
-- of the net now, and the steps of all segments and hooks of the tick
pub record Tick (V : Type 0) : Type 0 where
  pub settled : Settled
  pub changes : Changes
  pub before : List (Happening V)
  pub now : List (Happening V)
  pub cost : ℕ

abbrev pub tick_by : {V R : Type 0} (E : Language V R) → Rows V → Settled → Settled → Tick V
tick_by {V} {R} E rows S T =
    let changes : Changes = changes_of E rows S T in
    record {
      settled = T;
      changes = changes;
      before = flat_map (stop_events E S) (stopped rows S);
      now = flat_map (segment_events E T) (ran rows S) ++ map (λ (c : Label × LostKind). Loses c.0 c.1) changes.lost ++ shows E T;
      cost = sum_by (λ l. (left_by E S l).cost) (stopped rows S) + sum_by (of_run E T 0 E.cost) (ran rows S);
    }

abbrev pub tick_on : {V R : Type 0} (E : Language V R) → Rows V → Settled → Now → Tick V
tick_on {V} {R} E rows S W = tick_by E rows S (settled_by rows S W.net)

unfoldable pub tick_of : {V R : Type 0} (E : Language V R) → Settled → Now → Tick V
tick_of {V} {R} E S W = tick_on E (rows E S W) S W
