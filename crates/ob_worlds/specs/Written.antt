-- What happens at a tick, as a report writes it (this project).
use Rattle.std.specs.Prelude.{ℕ, List, ◌++◌, map, codes}
use Rattle.ob_base.specs.Utf16.{utf16}
use Rattle.ob_base.specs.declared.report.Event.{Event}
use Rattle.ob_base.specs.declared.report.Event.TheVariants as event
use Rattle.ob_base.specs.declared.report.TickReport.{TickReport}
use Rattle.ob_base.specs.Labels.{Label}
use Rattle.ob_worlds.specs.Language.{Language, Reason, Failure, Outcome}
use Rattle.ob_worlds.specs.Language.Reason.{NotDefined, Ambiguous, Unresolved, Says}
use Rattle.ob_worlds.specs.Language.Failure.{Syntax, Runtime, Threw, Throws, Limited}
use Rattle.ob_worlds.specs.Language.Outcome.{Value, Failed}
use Rattle.ob_worlds.specs.Variables.{name_text}
use Rattle.ob_worlds.specs.Outcomes.{fault_message, limit_message}
use Rattle.ob_worlds.specs.Settled.{Settled}
use Rattle.ob_worlds.specs.Reports.{Happening, Tick}
use Rattle.ob_worlds.specs.Reports.Happening.{Invalidates, Hooks, Logs, Begins, Steps, Ends, Loses, Shows}

-- ---- messages, in units

abbrev pub reason_text : Reason → List ℕ
reason_text (NotDefined p) = utf16 (name_text p.name) ++ codes " is not defined"
reason_text (Ambiguous p) = utf16 (name_text p.name) ++ codes " is defined more than once"
reason_text (Unresolved l x) = utf16 (name_text x) ++ codes " could not be resolved"
reason_text (Says message) = message

abbrev pub failure_text : {V R : Type 0} (E : Language V R) → Failure V → List ℕ
failure_text {V} {R} E Syntax = codes "SyntaxError"
failure_text {V} {R} E (Runtime r) = codes "RuntimeError: " ++ E.message_text (reason_text r)
failure_text {V} {R} E (Threw x) = E.thrown_text x
failure_text {V} {R} E (Throws t) = codes "TypeError: " ++ fault_message t
failure_text {V} {R} E (Limited l) = codes "RangeError: " ++ limit_message l

abbrev pub outcome_event : {V R : Type 0} (E : Language V R) → List ℕ → Outcome V → Event
outcome_event {V} {R} E label (Value x) = event.Value label (E.inspected x)
outcome_event {V} {R} E label (Failed f) = event.Error label (failure_text E f)

-- an event, where `w` writes labels
abbrev pub event_of : {V R : Type 0} (E : Language V R) → (Label → List ℕ) → Happening V → Event
event_of {V} {R} E w (Invalidates l run) = event.Invalidate (w l) run
event_of {V} {R} E w (Hooks l run hook failure) = event.Hook (w l) run hook failure
event_of {V} {R} E w (Logs l text) = event.Log (w l) text
event_of {V} {R} E w (Begins l run) = event.Run (w l) run
event_of {V} {R} E w (Steps l run position) = event.Step (w l) run position
event_of {V} {R} E w (Ends l run) = event.End (w l) run
event_of {V} {R} E w (Loses l kind) = event.Lost (w l) kind
event_of {V} {R} E w (Shows l outcome) = outcome_event E (w l) outcome

-- the report of a tick of that number, from this settled state
abbrev pub report_of : {V R : Type 0} (E : Language V R) → ℕ → Settled → Tick V → TickReport
report_of {V} {R} E number S t = record {
  number = number;
  events = map (event_of E S.net.written) t.before ++ map (event_of E t.settled.net.written) t.now;
  spent = t.cost;
}
