use Rattle.std.proofs.Common.{◌≡◌, ◌≤◌, ◌-◌, [], length, false}
use Rattle.std.specs.Io.KnownBytes.{Keeps, prepend_known}
use Rattle.ob_io.specs.Lines.{IsPartial}
use Rattle.ob_io.proofs.pending.Pending.read_line.Given as goal

abbrev pub invariant-pieces : goal.invariant-pieces
invariant-pieces g l = record {
  part : IsPartial l.limits.line l.limits.input l.self.line.items;
  empty : l.self.buffer ≡ [];
  goes_on : l.self.ended ≡ false;
  same : Keeps (prepend_known l.fn.self.line.items (g.S.Source.left l.fn.source)) (prepend_known l.self.line.items (g.S.Source.left l.source));
  later : g.S.Source.faults l.fn.source ≤ g.S.Source.faults l.source;
}

abbrev pub decreases-pieces : goal.decreases-pieces
decreases-pieces g l = l.limits.line - length l.self.line.items
