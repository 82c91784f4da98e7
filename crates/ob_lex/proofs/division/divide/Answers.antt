use Rattle.std.proofs.Common.{rules, arith, ◌≡◌, ◌-◌, ◌+◌, ◌≤◌, false, length, ap, sym, subst, ◌∙◌, None}
use Rattle.std.specs.Prelude.{chars}
use Rattle.std.proofs.lemmas.Grind.{common_steps}
use Rattle.ob_lex.specs.Characters.{bytes}
use Rattle.ob_lex.specs.Tokens.{breaks_after}
use Rattle.ob_lex.specs.Closing.{MayClose}
use Rattle.ob_lex.specs.Reading.{cut, with_front, piece_at}
use Rattle.ob_lex.proofs.Turns.{one_more, no_more}
use Rattle.ob_lex.proofs.Steps.{cut_step, cut_more, cut_ends, cut_stops, read_bytes, error_passes}
use Rattle.ob_lex.proofs.Closing.{closing_step}
use Rattle.ob_lex.proofs.division.divide.Goals as goal

pub returns-then-is_empty : goal.returns-then-is_empty
returns-then-is_empty c =
    let rest = chars c.loop-turn.rest.now in
    let none : length rest ≡ 0 = grind (arith, common_steps) in
    c.loop-turn.invariant.0 ∙ cut_ends _ c.loop-turn.breaks c.loop-turn.at c.loop-turn.tokens rest none

pub returns-in-Err : goal.returns-in-Err
returns-in-Err c =
    let rest = chars c.loop-turn.rest.now in
    let text = chars c.args.text.now in
    let e = one_more (λ n. with_front c.loop-turn.tokens (cut n c.loop-turn.breaks c.loop-turn.at rest)) _ c.loop-turn._turn c.loop-turn-test.true c.loop-turn.invariant.0 in
    let some : 1 ≤ length rest = grind (arith, common_steps) in
    error_passes c.in-Err.error (piece_at rest) (cut (length c.args.text.now) false 0 text) c.in-Err.ensures
    (λ b. e ∙ ap (with_front c.loop-turn.tokens) (cut_step (length c.args.text.now - (c.loop-turn._turn + 1)) c.loop-turn.breaks c.loop-turn.at rest None some b))

pub overflow_sub-end : goal.overflow_sub-end
overflow_sub-end c =
    omega (arith, read_bytes (chars c.loop-turn.rest.now) (chars c.in-Ok.read.1.now) c.in-Ok.read.0 c.in-Ok.ensures, c.byte_len-from.ensures, c.byte_len-to.ensures)

pub overflow_add-end : goal.overflow_add-end
overflow_add-end c =
    omega (arith, read_bytes (chars c.loop-turn.rest.now) (chars c.in-Ok.read.1.now) c.in-Ok.read.0 c.in-Ok.ensures, c.byte_len-from.ensures, c.byte_len-to.ensures, c.loop-turn.invariant.1, c.requires)

pub loop-turn-preserved : goal.loop-turn-preserved
loop-turn-preserved c =
    let rest = chars c.loop-turn.rest.now in
    let more = chars c.in-Ok.read.1.now in
    let k = c.in-Ok.read.0 in
    let e = one_more (λ n. with_front c.loop-turn.tokens (cut n c.loop-turn.breaks c.loop-turn.at rest)) _ c.loop-turn._turn c.loop-turn-test.true c.loop-turn.invariant.0 in
    let some : 1 ≤ length rest = grind (arith, common_steps) in
    let b = read_bytes rest more k c.in-Ok.ensures in
    let len = c.byte_len-from.result - c.byte_len-to.result in
    let l : len ≡ bytes rest - bytes more = omega (arith, c.byte_len-from.ensures, c.byte_len-to.ensures) in
    let n = length c.args.text.now - (c.loop-turn._turn + 1) in (
      e ∙ cut_more n c.loop-turn.breaks c.loop-turn.at len c.loop-turn.tokens rest more k some c.in-Ok.ensures l
          ∙ ap (λ x. with_front x (cut n (breaks_after k c.loop-turn.breaks) (c.loop-turn.at + len) more)) (sym c.in_ok-push.ensures)
          ∙ ap (λ x. with_front c.push.new.tokens (cut n x (c.loop-turn.at + len) more)) (sym c.breaks_after-after.ensures),
      omega (arith, l, b, c.loop-turn.invariant.1),
      subst (λ x. MayClose x more) (sym c.closes_after-closes.ensures) (closing_step c.loop-turn.closes rest more k c.loop-turn.invariant.2 c.in-Ok.ensures),
      search rules,
    )

pub returns-then-is_empty-2 : goal.returns-then-is_empty-2
returns-then-is_empty-2 c =
    let rest = chars c.loop-turn.rest.now in
    let none : length rest ≡ 0 = grind (arith, common_steps) in
    c.loop-turn.invariant.0 ∙ cut_ends _ c.loop-turn.breaks c.loop-turn.at c.loop-turn.tokens rest none

pub returns-else-is_empty-2 : goal.returns-else-is_empty-2
returns-else-is_empty-2 c =
    let rest = chars c.loop-turn.rest.now in
    let some : 1 ≤ length rest = grind (arith, common_steps) in
    no_more (λ n. with_front c.loop-turn.tokens (cut n c.loop-turn.breaks c.loop-turn.at rest)) _ c.loop-turn._turn c.loop-turn-test.false c.loop-turn.invariant.0
    ∙ ap (with_front c.loop-turn.tokens) (cut_stops c.loop-turn.breaks c.loop-turn.at rest some)
