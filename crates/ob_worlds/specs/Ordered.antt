-- The order of the events of one variable (this project).
use Rattle.std.specs.Prelude.{◌≡◌, ℕ, ◌==◌, Bool, true, false, List, [], ◌∷◌, ◌++◌, Option, Some, None, if◌then◌else◌}
use Rattle.std.specs.List.{list_all}
use Rattle.ob_base.specs.Labels.{Label, same_label}
use Rattle.ob_worlds.specs.Language.{Language}
use Rattle.ob_worlds.specs.Nets.{live}
use Rattle.ob_worlds.specs.Reports.{Happening, Tick}
use Rattle.ob_worlds.specs.Reports.Happening.{Invalidates, Hooks, Logs, Begins, Steps, Ends, Loses, Shows}

-- The number of the current run, if there is one, after an event of the variable l; none where the event may not come: a run begins
-- where there is none, and is invalidated, pulled or ended under its number.
abbrev pub only_where : {A : Type 0} → Bool → A → Option A
only_where {A} b x = if b then Some x else None

abbrev pub is_run : Option ℕ → ℕ → Bool
is_run None n = false
is_run (Some k) n = k == n

abbrev pub is_idle : Option ℕ → Bool
is_idle None = true
is_idle (Some k) = false

abbrev pub after_event : {V : Type 0} → Label → Option ℕ → Happening V → Option (Option ℕ)
after_event {V} l run (Begins m n) = if same_label l m then only_where (is_idle run) (Some n) else Some run
after_event {V} l run (Invalidates m n) = if same_label l m then only_where (is_run run n) None else Some run
after_event {V} l run (Steps m n p) = if same_label l m then only_where (is_run run n) run else Some run
after_event {V} l run (Ends m n) = if same_label l m then only_where (is_run run n) run else Some run
after_event {V} l run (Hooks m n k f) = Some run
after_event {V} l run (Logs m t) = Some run
after_event {V} l run (Loses m k) = Some run
after_event {V} l run (Shows m o) = Some run

abbrev pub is_ordered : {V : Type 0} → Label → Option ℕ → List (Happening V) → Bool
is_ordered {V} l run [] = true
is_ordered {V} l run (e ∷ es) = elim (after_event l run e) [ None ↦ false | Some next ↦ is_ordered l next es ]

-- a variable that runs is live
abbrev pub runs_live : {V : Type 0} → Tick V → Happening V → Bool
runs_live {V} t (Begins l n) = live t.settled.net l
runs_live {V} t (Steps l n p) = live t.settled.net l
runs_live {V} t (Ends l n) = live t.settled.net l
runs_live {V} t (Invalidates l n) = true
runs_live {V} t (Hooks l n k f) = true
runs_live {V} t (Logs l x) = true
runs_live {V} t (Loses l k) = true
runs_live {V} t (Shows l o) = true

abbrev pub events_of : {V : Type 0} → List (Tick V) → List (Happening V)
events_of {V} [] = []
events_of {V} (t ∷ ts) = t.before ++ t.now ++ events_of ts

-- of the ticks of a session, from its beginning
pub record Ordered {V R : Type 0} (E : Language V R) (ticks : List (Tick V)) : Type 0 where
  pub alternate : (l : Label) → is_ordered l None (events_of ticks) ≡ true
  pub alive : list_all (λ (t : Tick V). list_all (runs_live t) (t.before ++ t.now)) ticks ≡ true
