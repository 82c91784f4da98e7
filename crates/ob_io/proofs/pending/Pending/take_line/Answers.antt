use Rattle.std.proofs.Common.{◌≡◌, ◌≤◌, ◌++◌, length, take, refl, ap, ◌∙◌, arith}
use Rattle.std.proofs.lemmas.Grind.{common_steps}
use Rattle.std.proofs.lemmas.List.{take_all, drop_all}
use Rattle.ob_io.specs.Lines.{line_len}
use Rattle.ob_io.proofs.Lines.{long_case, over_case, line_case, more_case, within_case}
use Rattle.ob_io.proofs.pending.Pending.take_line.Goals as goal

pub returns-then-limits-clause-next : goal.returns-then-limits-clause-next
returns-then-limits-clause-next c = λ more. (
  long_case c.args.limits.line c.args.limits.input c.args.self.now.line.items c.args.self.now.buffer more c.requires.partial (grind (arith, common_steps)) (grind (arith, common_steps)),
  refl,
  refl,
)

pub returns-then-count-input_left-clause-next : goal.returns-then-count-input_left-clause-next
returns-then-count-input_left-clause-next c = λ more. (
  over_case c.args.limits.line c.args.limits.input c.args.self.now.line.items c.args.self.now.buffer more c.requires.partial
      (grind (arith, common_steps)) (grind (arith, common_steps)) (λ le. grind (arith, common_steps, c.else-count-limits.either)),
  refl,
  refl,
)

pub returns-then-count-len-clause-next : goal.returns-then-count-len-clause-next
returns-then-count-len-clause-next c = λ more.
    line_case c.args.limits.line c.args.limits.input c.args.self.now.line.items c.args.self.now.buffer more c.extend_from_slice.new.self.items
    c.hand_out.new.self.line.items c.hand_out.new.self.buffer c.line_len-count.result c.hand_out.result c.requires.partial
    (c.line_len-count.ensures ∙ ap line_len c.bytes-bytes.ensures)
    (grind (arith, common_steps))
    (grind (arith, common_steps, c.else-count-limits.either, c.else-len-input_left.either))
    (grind (arith, common_steps, c.else-len-input_left.either))
    (c.in-Ok.ensures.items ∙ ap (λ t. c.args.self.now.line.items ++ take c.line_len-count.result t) c.bytes-bytes.ensures)
    c.hand_out.ensures.line c.hand_out.ensures.rest.0 (c.hand_out.ensures.rest.1 ∙ c.skip.ensures)

pub returns-then-count-len-clause-within : goal.returns-then-count-len-clause-within
returns-then-count-len-clause-within c =
    rw c.hand_out.ensures.line
    (within_case c.args.limits.line c.args.limits.input c.args.self.now.line.items c.args.self.now.buffer c.extend_from_slice.new.self.items c.line_len-count.result c.requires.partial
    (c.line_len-count.ensures ∙ ap line_len c.bytes-bytes.ensures)
    (grind (arith, common_steps, c.else-count-limits.either, c.else-len-input_left.either))
    (grind (arith, common_steps, c.else-len-input_left.either))
    (c.in-Ok.ensures.items ∙ ap (λ t. c.args.self.now.line.items ++ take c.line_len-count.result t) c.bytes-bytes.ensures))

pub returns-else-count-len-clause-more : goal.returns-else-count-len-clause-more
returns-else-count-len-clause-more c =
    let line = c.args.self.now.line.items in
    let bytes = c.args.self.now.buffer in
    let count = c.line_len-count.result in
    let len : length c.bytes-bytes.result.now ≡ length bytes = ap length c.bytes-bytes.ensures in
    let is : count ≡ line_len bytes = c.line_len-count.ensures ∙ ap line_len c.bytes-bytes.ensures in
    let size : length bytes ≤ count = omega arith in
    let part : c.extend_from_slice.new.self.items ≡ line ++ bytes =
    c.in-Ok.ensures.items ∙ ap (λ t. line ++ take count t) c.bytes-bytes.ensures ∙ ap (λ t. line ++ t) (take_all count bytes size) in (
      part,
      c.skip-else-count-len.ensures ∙ drop_all count bytes size,
      more_case c.args.limits.line c.args.limits.input line bytes c.extend_from_slice.new.self.items c.requires.partial
          (omega arith)
          (grind (arith, common_steps, c.else-count-limits.either, c.else-len-input_left.either))
          (grind (arith, common_steps, c.else-len-input_left.either))
          part,
    )
