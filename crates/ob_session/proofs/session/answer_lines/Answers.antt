use Rattle.std.proofs.Common.{Bool, arith}
use Rattle.std.specs.Prelude.{IsTrue, IsFalse}
use Rattle.ob_session.specs.Reading.{left_of}
use Rattle.ob_session.proofs.Looping.{follows_on, over_on, loop_ends, done_is}
use Rattle.ob_session.proofs.session.answer_lines.Goals as goal

never_both : (b : Bool) → IsFalse b → IsTrue b → ⊥
never_both b f t = cc

pub returns-in-Some-clause-ends : goal.returns-in-Some-clause-ends
returns-in-Some-clause-ends g c known =
    loop_ends c.args.world c.lines.world (left_of c.args.reader.now) (left_of c.lines.reader) _ _ _ _ _ _ c.lines.reader c.in-Some.exit
    c.in-Some.ensures.causes (λ t. done_is c.answer_next.result c.in-Some.exit c.in-Some.is (c.answer_next.ensures.done t)) c.lines.invariant.4 (c.lines.invariant.5 known) c.in-Some.ensures.ends

pub lines-preserved : goal.lines-preserved
lines-preserved g c = (
  c.in-None.ensures.reading,
  c.in-None.ensures.between,
  omega (arith, c.lines.invariant.2, c.in-None.ensures.read_later),
  omega (arith, c.lines.invariant.3, c.in-None.ensures.write_later),
  follows_on c.args.world c.lines.world c.answer_next.new.world (left_of c.args.reader.now) (left_of c.lines.reader) (left_of c.answer_next.new.reader) c.lines.reader.ended c.answer_next.new.reader.ended _ _ _ _ _ _ c.in-None.ensures.fed c.lines.invariant.4 c.in-None.ensures.goes,
  λ known. over_on _ _ _ _ c.answer_next.new.reader c.lines.invariant.4 c.in-None.ensures.over,
  λ t. absurd (never_both c.lines.reader.ended c.in-None.ensures.fed (c.lines.invariant.6 t)),
)

pub returns-in-Some-clause-done : goal.returns-in-Some-clause-done
returns-in-Some-clause-done g c t = done_is c.answer_next.result c.in-Some.exit c.in-Some.is (c.answer_next.ensures.done (c.lines.invariant.6 t))
