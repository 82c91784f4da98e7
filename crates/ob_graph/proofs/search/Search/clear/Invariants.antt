use Rattle.std.proofs.Common.{◌≡◌, ◌≤◌, length}
use Rattle.std.specs.Prelude.{vec_capacity}
use Rattle.ob_graph.specs.Searches.{Clearing}
use Rattle.ob_graph.proofs.search.Search.clear.Given as goal

abbrev pub invariant-loop-v : goal.invariant-loop-v
invariant-loop-v l = record {
  left : Clearing l.self-inside.marks.items l.self-inside.found.items;
  room : length l.self-inside.marks.items ≡ l.fn.self.room;
  fits : length l.self-inside.marks.items ≤ vec_capacity l.self-inside.found;
}

abbrev pub decreases-loop-v : goal.decreases-loop-v
decreases-loop-v l = length l.self-inside.found.items
