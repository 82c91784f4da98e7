use Rattle.std.proofs.Common.{◌++◌, false, refl}
use Rattle.std.specs.Io.KnownBytes.{prepend_known}
use Rattle.ob_io.proofs.Pieces.{Keeps-piece, next-kept, next-left}
use Rattle.ob_io.proofs.pending.Pending.read_line.Goals as goal

pub returns-in-Some-clause-next : goal.returns-in-Some-clause-next
returns-in-Some-clause-next g c =
    let line = c.pieces.self.line.items in
    let piece = c.fill.new.self in
    let after = c.take_line.new.self.line.items ++ c.take_line.new.self.buffer in
    let left = g.S.Source.left c.fill.new.source in
    rw c.take_line.ensures.open
    (next-kept c.args.limits.line c.args.limits.input (prepend_known c.args.self.now.line.items (g.S.Source.left c.args.source.now)) (prepend_known (line ++ piece) left) (prepend_known after left) false c.in-Some.answer
    (Keeps-piece _ (g.S.Source.left c.pieces.source) left line piece (line ++ piece) c.pieces.invariant.same c.in-Got.ensures.bytes.1 refl)
    (next-left c.args.limits.line c.args.limits.input (line ++ piece) after left false c.in-Some.answer c.in-Some.ensures.next))
