use Rattle.std.proofs.Common.{arith}
use Rattle.ob_session.specs.Answer.{open_world}
use Rattle.ob_session.specs.Reading.{left_of}
use Rattle.ob_session.specs.Trace.{lines, end, exit_of, fed_lines, opened}
use Rattle.ob_session.proofs.Firsts.{refused_ends}
use Rattle.ob_session.proofs.session.answer_first.Goals as goal

pub answer_world-requires-clause-between : goal.answer_world-requires-clause-between
answer_world-requires-clause-between g c = record { sound = c.in-Ok.ensures.sound; ticks = omega (arith, c.in-Ok.ensures.fresh) }

pub returns-in-Err-Refused-clause-ends : goal.returns-in-Err-Refused-clause-ends
returns-in-Err-Refused-clause-ends g c known =
    refused_ends (open_world c.args.line.now) _ (lines (left_of c.args.reader.now)) (λ t. opened (open_world c.args.line.now) (fed_lines t)) (λ b. exit_of (end (left_of c.args.reader.now) b)) _ _ _ _ c.refuse_bundle.result
    (rw c.in-Err-Refused.field-0-is at c.in-Err-Refused.ensures.value) c.refuse_bundle.ensures.ends
