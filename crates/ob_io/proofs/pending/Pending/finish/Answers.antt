use Rattle.std.proofs.Common.{◌∙◌, arith}
use Rattle.std.proofs.lemmas.Grind.{common_steps}
use Rattle.ob_io.proofs.Lines.{end_case, rest_case}
use Rattle.ob_io.proofs.pending.Pending.finish.Goals as goal

pub returns-then-is_empty-clause-next : goal.returns-then-is_empty-clause-next
returns-then-is_empty-clause-next c =
    end_case c.args.limits.line c.args.limits.input c.args.self.now.line.items c.args.self.now.buffer (grind (arith, common_steps)) c.requires.empty

pub returns-else-is_empty-clause-next : goal.returns-else-is_empty-clause-next
returns-else-is_empty-clause-next c =
    rw c.hand_out.ensures.line
    (rest_case c.args.limits.line c.args.limits.input c.args.self.now.line.items c.hand_out.new.self.line.items c.hand_out.new.self.buffer c.hand_out.new.self.ended
    c.requires.partial (grind (arith, common_steps)) c.hand_out.ensures.rest.0 (c.hand_out.ensures.rest.1 ∙ c.requires.empty) c.hand_out.ensures.rest.2)
