use Rattle.std.proofs.Common.{ap, ◌∙◌, Err}
use Rattle.std.specs.Io.KnownBytes.{prepend_known}
use Rattle.ob_io.specs.Lines.{LineState}
use Rattle.ob_session.specs.Reading.{left_of}
use Rattle.ob_session.proofs.Next.{line_comes, only_line, end_comes, stop_ends, done_ends}
use Rattle.ob_session.proofs.session.answer_next.Goals as goal

pub returns-in-Line-clause-ends : goal.returns-in-Line-clause-ends
returns-in-Line-clause-ends g c known =
    stop_ends c.args.world.now (left_of c.args.reader.now) _ _ _ _ c.in-Line.line c.in-Err.exit c.in-Err.ensures.causes
    (only_line _ (left_of c.args.reader.now) _ c.in-Line.line _
    (line_comes c.args.reader.now.ended c.next_line.new.self.ended c.args.reader.now.line_limit _ _ _ c.in-Line.line c.requires.reading.line c.in-Line.ensures.next (λ e. (c.in-Line.ensures.over e).0)))
    (λ e. rw c.as_slice.ensures at (c.in-Err.ensures.cut (ap Err e)))
    (λ e. c.in-Err.ensures.stopped (ap Err e))

pub returns-in-End-clause-ends : goal.returns-in-End-clause-ends
returns-in-End-clause-ends g c known =
    done_ends c.args.world.now (left_of c.args.reader.now) _ c.args.reader.now.ended _ _
    (end_comes c.args.reader.now.ended c.next_line.new.self.ended c.args.reader.now.line_limit _ _ _ c.requires.reading.line c.in-End.ensures.next)
    (λ e. ap (λ (r : LineState). prepend_known r.kept (g.S.Source.left c.next_line.new.source)) (c.in-End.ensures.over e).1
    ∙ ap (λ s. prepend_known c.args.reader.now.kept (g.S.Source.left s)) (c.in-End.ensures.over e).2)
    known
