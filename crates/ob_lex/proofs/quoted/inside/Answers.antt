use Rattle.std.proofs.Common.{rules, ◌-◌, ◌+◌, length, ap, ◌∙◌, Some, None, sym}
use Rattle.std.specs.Prelude.{chars}
use Rattle.ob_lex.specs.Reading.{inside, with_units}
use Rattle.ob_lex.proofs.Turns.{one_more, no_more}
use Rattle.ob_lex.proofs.Steps.{inside_step, inside_stops, inside_closes, inside_gives}
use Rattle.ob_lex.proofs.quoted.inside.Goals as goal

pub returns-in-None : goal.returns-in-None
returns-in-None c =
    let e = one_more (λ n. with_units c.loop-turn.units (inside n c.args.quote (chars c.loop-turn.rest.now))) _ c.loop-turn._turn c.loop-turn-test.true c.loop-turn.invariant.0 in
    e ∙ ap (with_units c.loop-turn.units) (inside_step _ c.args.quote (chars c.loop-turn.rest.now) None c.in-None.ensures.value)

pub returns-in-Closes : goal.returns-in-Closes
returns-in-Closes c =
    let e = one_more (λ n. with_units c.loop-turn.units (inside n c.args.quote (chars c.loop-turn.rest.now))) _ c.loop-turn._turn c.loop-turn-test.true c.loop-turn.invariant.0 in
    e ∙ inside_closes _ c.args.quote c.loop-turn.units (chars c.loop-turn.rest.now) (chars c.in-Some.more.now) (c.in-Some.ensures.value ∙ ap (λ x. Some (x, chars c.in-Some.more.now)) c.in-Closes.is)

pub loop-turn-preserved : goal.loop-turn-preserved
loop-turn-preserved c =
    let e = one_more (λ n. with_units c.loop-turn.units (inside n c.args.quote (chars c.loop-turn.rest.now))) _ c.loop-turn._turn c.loop-turn-test.true c.loop-turn.invariant.0 in (
      e ∙ inside_gives _ c.args.quote c.loop-turn.units (chars c.loop-turn.rest.now) c.in-Gives.code (chars c.in-Some.more.now) (c.in-Some.ensures.value ∙ ap (λ x. Some (x, chars c.in-Some.more.now)) c.in-Gives.is)
          ∙ ap (λ u. with_units u (inside (length c.args.text.now - (c.loop-turn._turn + 1)) c.args.quote (chars c.in-Some.more.now))) (sym c.in_ok-push_code-in-Gives.ensures),
      search rules,
    )

pub returns : goal.returns
returns c =
    no_more (λ n. with_units c.loop-turn.units (inside n c.args.quote (chars c.loop-turn.rest.now))) _ c.loop-turn._turn c.loop-turn-test.false c.loop-turn.invariant.0
    ∙ ap (with_units c.loop-turn.units) (inside_stops c.args.quote (chars c.loop-turn.rest.now))
