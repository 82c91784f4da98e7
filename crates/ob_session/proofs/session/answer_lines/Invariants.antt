use Rattle.std.proofs.Common.{◌≤◌}
use Rattle.std.specs.Prelude.{IfSome, IsTrue}
use Rattle.std.specs.Io.KnownBytes.{prepend_known}
use Rattle.ob_session.specs.Reading.{IsReading, IsBetween, IsOver, left_of}
use Rattle.ob_session.proofs.Ending.{IsFollowed}
use Rattle.ob_session.proofs.Looping.{Reduces}
use Rattle.ob_session.proofs.session.answer_lines.Given as goal

abbrev pub decreases-lines : goal.decreases-lines
decreases-lines g l = left_of l.reader

abbrev pub invariant-lines : goal.invariant-lines
invariant-lines g l =
    IsReading l.reader × IsBetween l.world l.reader
    × (g.S.Source.faults l.fn.source ≤ g.S.Source.faults l.source) × (g.K.Sink.faults l.fn.sink ≤ g.K.Sink.faults l.sink)
    × IsFollowed (prepend_known l.fn.reader.kept (g.S.Source.left l.fn.source)) (prepend_known l.reader.kept (g.S.Source.left l.source))
    (Reduces l.fn.world l.world (left_of l.fn.reader) (left_of l.reader) l.reader.ended (g.K.Sink.held l.fn.sink) (g.K.Sink.held l.sink))
    × (IsOver l.fn.reader (prepend_known l.fn.reader.kept (g.S.Source.left l.fn.source))
    → IfSome (prepend_known l.fn.reader.kept (g.S.Source.left l.fn.source)) (λ _. IsOver l.reader (prepend_known l.reader.kept (g.S.Source.left l.source))))
    × (IsTrue l.fn.reader.ended → IsTrue l.reader.ended)
