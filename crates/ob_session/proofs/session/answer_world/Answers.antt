use Rattle.std.proofs.Common.{◌∷◌, ap, Err}
use Rattle.ob_session.specs.declared.reply.Reply.TheVariants as reply
use Rattle.ob_session.specs.Answer.{replies}
use Rattle.ob_session.specs.Reading.{left_of}
use Rattle.ob_session.specs.Trace.{lines, end, exit_of, fed_lines}
use Rattle.ob_session.proofs.Ending.{AllEnds-after}
use Rattle.ob_session.proofs.Firsts.{first_stop_ends}
use Rattle.ob_session.proofs.session.answer_world.Goals as goal

pub returns-in-Ok-clause-ends : goal.returns-in-Ok-clause-ends
returns-in-Ok-clause-ends g c known =
    AllEnds-after (λ b. replies c.args.world (lines (left_of c.args.reader.now) b)) (λ t. replies c.args.world (fed_lines t)) (λ b. exit_of (end (left_of c.args.reader.now) b)) _ _ _ _ reply.Accepted c.in-Ok.ensures.ok _ c.answer_lines.result
    (c.answer_lines.ensures.ends known)

pub returns-in-Err-clause-ends : goal.returns-in-Err-clause-ends
returns-in-Err-clause-ends g c known =
    first_stop_ends (λ b. replies c.args.world (lines (left_of c.args.reader.now) b)) (λ t. reply.Accepted ∷ replies c.args.world (fed_lines t)) (λ b. exit_of (end (left_of c.args.reader.now) b)) _ _ _ reply.Accepted _ c.in-Err.exit c.in-Err.ensures.causes
    (λ e. c.in-Err.ensures.cut (ap Err e)) (λ e. c.in-Err.ensures.stopped (ap Err e))
