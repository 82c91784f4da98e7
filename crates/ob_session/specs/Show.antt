-- The bytes of replies and reports (this project).
use Rattle.std.specs.Prelude.{ℕ, List, [], ◌∷◌, ◌++◌, codes}
use Rattle.std.specs.List.{flat_map}
use Rattle.std.specs.Fmt.{decimal}
use Rattle.ob_base.specs.declared.cause.Cause.{Cause}
use Rattle.ob_base.specs.declared.cause.Cause.TheVariants as cause
use Rattle.ob_base.specs.declared.report.Event.{Event}
use Rattle.ob_base.specs.declared.report.Event.TheVariants as event
use Rattle.ob_base.specs.declared.report.LostKind.{LostKind}
use Rattle.ob_base.specs.declared.report.LostKind.TheVariants as lost
use Rattle.ob_base.specs.declared.report.TickReport.{TickReport}
use Rattle.ob_session.specs.declared.reply.Reply.{Reply}
use Rattle.ob_session.specs.declared.reply.Reply.TheVariants as reply

abbrev pub line_end : List ℕ
line_end = 10 ∷ []

-- the words of a cause; the id of a missing import is not written yet, since no line gives that cause yet
abbrev pub show_cause : Cause → List ℕ
show_cause cause.NotJson = codes "NotJson"
show_cause (cause.BadShape field) = codes "BadShape " ++ field
show_cause cause.UnknownCommand = codes "UnknownCommand"
show_cause cause.NumberRange = codes "NumberRange"
show_cause (cause.NotebookExists id) = codes "NotebookExists " ++ id
show_cause (cause.NoNotebook id) = codes "NoNotebook " ++ id
show_cause (cause.NoCell id) = codes "NoCell " ++ id
show_cause (cause.CellExists id) = codes "CellExists " ++ id
show_cause (cause.BadPlace place) = codes "BadPlace " ++ decimal place
show_cause (cause.TextTooLong bytes) = codes "TextTooLong " ++ decimal bytes
show_cause (cause.ImportMissing id) = codes "ImportMissing"
show_cause (cause.WithCycle id) = codes "WithCycle " ++ id
show_cause cause.TooManyInstances = codes "TooManyInstances"
show_cause cause.TooManyVariables = codes "TooManyVariables"
show_cause cause.NoView = codes "NoView"
show_cause cause.NotBuilt = codes "NotBuilt"

abbrev pub show_lost : LostKind → List ℕ
show_lost lost.NotLive = codes "NotLive"
show_lost lost.NoValue = codes "NoValue"
show_lost lost.BadResult = codes "BadResult"

-- a word, a label and what comes after it
abbrev pub event_line : List ℕ → List ℕ → List ℕ → List ℕ
event_line word label rest = word ++ label ++ codes " " ++ rest ++ line_end

abbrev pub show_event : Event → List ℕ
show_event (event.Invalidate label run) = event_line (codes "invalidate ") label (decimal run)
show_event (event.Hook label run hook failure) = event_line (codes "hook ") label (decimal run ++ codes " " ++ decimal hook ++ codes " " ++ failure)
show_event (event.Log label text) = event_line (codes "log ") label text
show_event (event.Run label run) = event_line (codes "run ") label (decimal run)
show_event (event.Step label run position) = event_line (codes "step ") label (decimal run ++ codes " " ++ decimal position)
show_event (event.End label run) = event_line (codes "end ") label (decimal run)
show_event (event.Lost label kind) = event_line (codes "lost ") label (show_lost kind)
show_event (event.Value label text) = event_line (codes "value ") label text
show_event (event.Error label failure) = event_line (codes "error ") label failure

unfoldable pub show_report : TickReport → List ℕ
show_report report = codes "tick " ++ decimal report.number ++ line_end ++ flat_map show_event report.events ++ codes "done " ++ decimal report.number ++ line_end

abbrev pub show : Reply → List ℕ
show reply.Accepted = codes "ok" ++ line_end
show (reply.BadBundle c) = codes "bad bundle " ++ show_cause c ++ line_end
show (reply.Refused c) = codes "refused " ++ show_cause c ++ line_end
show (reply.Report r) = show_report r
