use Rattle.std.proofs.Common.{◌≡◌, ◌-◌, ℕ, ◌∙◌, zero-add, arith}
use Rattle.ob_session.specs.Reading.{left_of}
use Rattle.ob_session.specs.Trace.{input_limit}
use Rattle.ob_session.proofs.Next.{line_comes, end_comes, line_unfed, end_met}
use Rattle.ob_session.proofs.Firsts.{first_ends, none_ends, first_line_long, first_input_long, fresh_first, fresh_end, fresh_limit, first_fault, fresh_keeps}
use Rattle.ob_session.proofs.session.run_from.Goals as goal

whole : (limit handed : ℕ) → limit ≡ input_limit → handed ≡ 0 → limit - handed ≡ input_limit
whole limit handed l h = rw (l, h) (omega arith)

pub returns-in-Line-clause-ends : goal.returns-in-Line-clause-ends
returns-in-Line-clause-ends g c =
    first_ends _ _ _ _ _ c.next_line.new.self c.in-Line.line c.answer_first.result c.answer_first.ensures.causes
    (c.in-Line.ensures.limits.1 ∙ c.requires.reading.input)
    (rw c.requires.fresh.1 at c.in-Line.ensures.handed ∙ zero-add _)
    (fresh_first c.args.reader.now.kept (left_of c.args.reader.now) _ _ c.in-Line.line c.next_line.new.self.ended c.requires.fresh.0
    (whole c.args.reader.now.input_limit c.args.reader.now.handed c.requires.reading.input c.requires.fresh.1)
    (line_comes c.args.reader.now.ended c.next_line.new.self.ended c.args.reader.now.line_limit _ _ _ c.in-Line.line c.requires.reading.line c.in-Line.ensures.next (λ e. (c.in-Line.ensures.over e).0)))
    (line_unfed c.args.reader.now.ended c.next_line.new.self.ended c.args.reader.now.line_limit (left_of c.args.reader.now) c.next_line.new.self.kept c.in-Line.line c.requires.fresh.2 c.in-Line.ensures.within) c.answer_first.ensures.done
    (rw c.as_slice.ensures at c.answer_first.ensures.ends)

pub returns-in-End-clause-ends : goal.returns-in-End-clause-ends
returns-in-End-clause-ends g c =
    none_ends _ _ _ _ _ c.next_line.new.self c.answer_first-in-End.result c.answer_first-in-End.ensures.causes
    (fresh_end c.args.reader.now.kept (left_of c.args.reader.now) _ _ c.requires.fresh.0
    (whole c.args.reader.now.input_limit c.args.reader.now.handed c.requires.reading.input c.requires.fresh.1)
    (end_comes c.args.reader.now.ended c.next_line.new.self.ended c.args.reader.now.line_limit _ _ _ c.requires.reading.line c.in-End.ensures.next c.requires.fresh.2))
    (c.answer_first-in-End.ensures.done (end_met c.args.reader.now.ended _ _ _ _ _ c.requires.fresh.2 c.in-End.ensures.next))
    c.answer_first-in-End.ensures.ends

pub returns-in-LineTooLong-clause-ends : goal.returns-in-LineTooLong-clause-ends
returns-in-LineTooLong-clause-ends g c =
    first_line_long _ _ (fresh_limit c.args.reader.now.kept (left_of c.args.reader.now) c.args.reader.now.line_limit _ _ c.requires.fresh.0
    (whole c.args.reader.now.input_limit c.args.reader.now.handed c.requires.reading.input c.requires.fresh.1) c.requires.reading.line (c.in-LineTooLong.ensures.next c.requires.fresh.2).0)

pub returns-in-InputTooLong-clause-ends : goal.returns-in-InputTooLong-clause-ends
returns-in-InputTooLong-clause-ends g c =
    first_input_long _ _ (fresh_limit c.args.reader.now.kept (left_of c.args.reader.now) c.args.reader.now.line_limit _ _ c.requires.fresh.0
    (whole c.args.reader.now.input_limit c.args.reader.now.handed c.requires.reading.input c.requires.fresh.1) c.requires.reading.line (c.in-InputTooLong.ensures.next c.requires.fresh.2).0)

pub returns-in-ReadFault-clause-ends : goal.returns-in-ReadFault-clause-ends
returns-in-ReadFault-clause-ends g c = first_fault _ _ _ (fresh_keeps c.args.reader.now.kept _ _ c.requires.fresh.0 (c.in-ReadFault.ensures.next c.requires.fresh.2).0)
