-- Commands and ticks one after another (this project).
use Rattle.std.specs.Prelude.{ℕ, suc, Bool, false, ◌&&◌, List, [], ◌∷◌, Result, Ok, Err, if◌then◌else◌}
use Rattle.std.specs.Option.{option_map_or}
use Rattle.std.specs.List.{list_any}
use Rattle.ob_base.specs.declared.plain.Plain.{Plain}
use Rattle.ob_base.specs.declared.cause.Cause.{Cause}
use Rattle.ob_base.specs.declared.cause.Cause.TheVariants as cause
use Rattle.ob_base.specs.declared.command.Command.{Command}
use Rattle.ob_base.specs.declared.command.Command.TheVariants as command
use Rattle.ob_base.specs.declared.label.Part.TheVariants as part
use Rattle.ob_base.specs.declared.report.TickReport.{TickReport}
use Rattle.ob_cells.specs.declared.def.VarDef.{VarDef}
use Rattle.ob_cells.specs.Readings.{Reading}
use Rattle.ob_inputs.specs.Same.{put}
use Rattle.ob_base.specs.Labels.{Label, same_label, same_part}
use Rattle.ob_worlds.specs.Labels.{shown_of}
use Rattle.ob_worlds.specs.Language.{Language}
use Rattle.ob_worlds.specs.World.{Cell, World}
use Rattle.ob_worlds.specs.Nets.{live}
use Rattle.ob_worlds.specs.Outcomes.{outcome, value_in}
use Rattle.ob_worlds.specs.Settled.{Settled, segments_at}
use Rattle.ob_worlds.specs.Reports.{Tick, tick_of}
use Rattle.ob_worlds.specs.Written.{report_of}
use Rattle.ob_worlds.specs.Worlds.{now_of, unsettled}
use Rattle.ob_worlds.specs.Edits.{adding, defining, redefining, deleting, in_cell, without}

-- the world, and what the last tick settled
pub record State : Type 0 where
  pub world : World
  pub settled : Settled

-- ---- inputs

abbrev pub is_view : Reading → Bool
is_view r = list_any (λ (v : VarDef). same_part v.part part.View) r.variables

abbrev pub view_of : List ℕ → Cell → Label
view_of notebook c = record { path = record { root = notebook; serials = [] }; cell = c.serial; part = part.View }

-- the cell is a view that was live at the last tick and whose outcome was an object with a property `value` of its own
abbrev pub takes_input : {V R : Type 0} → Language V R → State → Cell → Label → Bool
takes_input {V} {R} E st c view =
    is_view (E.reader.read c.text) && (live st.settled.net view
    && option_map_or E.has_value (value_in (outcome E st.settled.net (segments_at st.settled) view)) false)

abbrev pub with_input : World → Label → Plain → World
with_input W view value = record W { given = put same_label view value W.given; got = shown_of view ∷ W.got }

-- ---- commands

abbrev pub observing : World → ℕ → World
observing W s = record W { observed = s ∷ without s W.observed }

-- the world after a command other than a tick, or the first cause for which it is refused
unfoldable pub accepts : {V R : Type 0} → Language V R → State → Command → Result World Cause
accepts {V} {R} E st (command.Notebook id cells) = adding E.reader st.world id cells
accepts {V} {R} E st (command.Define notebook new place) = defining E.reader st.world notebook new place
accepts {V} {R} E st (command.Redefine notebook new) = redefining E.reader st.world notebook new
accepts {V} {R} E st (command.Delete notebook id) = deleting E.reader st.world notebook id
accepts {V} {R} E st (command.Input notebook id value) = in_cell st.world notebook id
    (λ n c. if takes_input E st c (view_of notebook c) then Ok (with_input st.world (view_of notebook c) value) else Err cause.NoView)
accepts {V} {R} E st (command.Observe notebook id) = in_cell st.world notebook id (λ n c. Ok (observing st.world c.serial))
accepts {V} {R} E st (command.Unobserve notebook id) = in_cell st.world notebook id (λ n c. Ok (record st.world { observed = without c.serial st.world.observed }))
accepts {V} {R} E st command.Tick = Ok st.world

-- ---- what is answered

pub data Answer : Type 0 where
  Accepted : Answer
  Refused : Cause → Answer
  Reported : TickReport → Answer

pub record Answered : Type 0 where
  pub answer : Answer
  pub state : State

-- the world after a tick: nothing is touched, and the Shown of each changed mutable got something
abbrev pub world_after : {V R : Type 0} (E : Language V R) → World → Tick V → World
world_after {V} {R} E W t = record W { given = t.settled.net.given; current = t.changes.current; touched = []; got = t.changes.got; ticks = suc W.ticks }

abbrev pub ticked : {V R : Type 0} (E : Language V R) → State → Tick V → Answered
ticked {V} {R} E st t = record {
  answer = Reported (report_of E (suc st.world.ticks) st.settled t);
  state = record { world = world_after E st.world t; settled = t.settled };
}

abbrev pub accepted : State → Result World Cause → Answered
accepted st (Ok W) = record { answer = Accepted; state = record { world = W; settled = st.settled } }
accepted st (Err c) = record { answer = Refused c; state = st }

unfoldable pub answer : {V R : Type 0} → Language V R → State → Command → Answered
answer {V} {R} E st command.Tick = ticked E st (tick_of E st.settled (now_of E.reader st.world))
answer {V} {R} E st other = accepted st (accepts E st other)

abbrev pub and_then : Answered → (State → List Answer) → List Answer
and_then a more = a.answer ∷ more a.state

-- the answers to a list of commands
unfoldable pub answers : {V R : Type 0} → Language V R → State → List Command → List Answer
answers {V} {R} E st [] = []
answers {V} {R} E st (c ∷ cs) = and_then (answer E st c) (λ next. answers E next cs)

abbrev pub opened : World → State
opened W = record { world = W; settled = unsettled }
