use Rattle.std.proofs.Common.{◌++◌, false}
use Rattle.ob_io.proofs.Pieces.{next-left}
use Rattle.ob_io.proofs.pending.Pending.next.Goals as goal

pub returns-in-Some-clause-next : goal.returns-in-Some-clause-next
returns-in-Some-clause-next g c =
    rw c.take_line.ensures.open
    (next-left c.args.limits.line c.args.limits.input (c.args.self.now.line.items ++ c.args.self.now.buffer) (c.take_line.new.self.line.items ++ c.take_line.new.self.buffer)
    (g.S.Source.left c.args.source.now) false c.in-Some.answer c.in-Some.ensures.next)
