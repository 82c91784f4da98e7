use Rattle.std.proofs.Common.{ap, length, arith}
use Rattle.ob_graph.proofs.SearchLaws.{marked_none}
use Rattle.ob_queue.proofs.queue.Queue.new.Goals as goal

pub invariant_of-result : goal.invariant_of-result
invariant_of-result c = record {
  listed = rw (c.new.ensures.marks, c.new-2.ensures.items) (marked_none _);
  path_empty = c.new.ensures.path;
  places_empty = c.new.ensures.places;
  few = let n = ap length c.new.ensures.marks in omega (arith, n);
}
