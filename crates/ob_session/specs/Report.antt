-- A tick by fresh evaluation (this project, after the Observable Runtime).
use Rattle.std.specs.Prelude.{ℕ, ◌+◌, ℤ, List, [], ◌∷◌, ◌++◌, ◌&&◌, Bool, false, not, codes, slice_get, unwrap_or, Option, Some, None, if◌then◌else◌}
use Rattle.std.specs.Fmt.{signed_decimal}
use Rattle.ob_base.specs.declared.report.Event.{Event}
use Rattle.ob_base.specs.declared.report.Event.TheVariants as event
use Rattle.ob_base.specs.declared.report.TickReport.{TickReport}
use Rattle.ob_session.specs.declared.world.Cell.{Cell}
use Rattle.ob_session.specs.declared.world.World.{World}
use Rattle.ob_session.specs.Value.{function_value}
use Rattle.ob_session.specs.Live.{live_from}

-- the value of the input among the values so far
abbrev pub input_value : List (Option ℤ) → Option ℕ → Option ℤ
input_value values None = None
input_value values (Some place) = unwrap_or (slice_get values place) None

abbrev pub outcome : List (Option ℤ) → Cell → Option ℤ
outcome values c = function_value (input_value values c.input) c.body

-- the values so far and then those of these cells, each from the ones before it
abbrev pub outcomes_from : List (Option ℤ) → List Cell → List (Option ℤ)
outcomes_from values [] = values
outcomes_from values (c ∷ cells) = outcomes_from (values ++ outcome values c ∷ []) cells

abbrev pub outcomes : List Cell → List (Option ℤ)
outcomes cells = outcomes_from [] cells

-- the notebook's id, `#`, and the cell's
abbrev pub label : List ℕ → Cell → List ℕ
label main c = main ++ codes "#" ++ c.id

abbrev pub flag_at : List Bool → ℕ → Bool
flag_at flags place = unwrap_or (slice_get flags place) false

-- a run of each of these cells that is live now and was not before; none was run before, so it is run 1
abbrev pub runs_from : List ℕ → List Bool → List Bool → ℕ → List Cell → List Event
runs_from main before now place [] = []
runs_from main before now place (c ∷ cells) =
    if flag_at now place && not (flag_at before place) then event.Run (label main c) 1 ∷ runs_from main before now (place + 1) cells
    else runs_from main before now (place + 1) cells

abbrev pub shown : List ℕ → Option ℤ → Event
shown label (Some n) = event.Value label (signed_decimal n)
shown label None = event.Error label (codes "RangeError: number out of range")

-- the value of each of these cells that is observed
abbrev pub values_from : List ℕ → List Bool → List (Option ℤ) → ℕ → List Cell → List Event
values_from main observed values place [] = []
values_from main observed values place (c ∷ cells) =
    if flag_at observed place then shown (label main c) (unwrap_or (slice_get values place) None) ∷ values_from main observed values (place + 1) cells
    else values_from main observed values (place + 1) cells

abbrev pub live_now : World → List Bool
live_now w = live_from 0 w.cells w.observed

-- what a tick shows: the runs and then the observed values, in the order of the cells
unfoldable pub tick_report : World → TickReport
tick_report w = record {
  number = w.ticks + 1;
  events = runs_from w.main w.live (live_now w) 0 w.cells ++ values_from w.main w.observed (outcomes w.cells) 0 w.cells;
  spent = 0;
}

unfoldable pub after_tick : World → World
after_tick w = record w { live = live_now w; ticks = w.ticks + 1 }
