use Rattle.std.proofs.Common.{◌≡◌, ◌-◌}
use Rattle.ob_graph.specs.Paths.{inputs_of}
use Rattle.ob_graph.specs.Searches.{Spread}
use Rattle.ob_graph.proofs.search.spread.Given as goal

abbrev pub invariant-loop-next : goal.invariant-loop-next
invariant-loop-next l = record {
  spread : Spread (inputs_of l.lists) l.fn.search.found l.search.found l.next;
  room : l.search.room ≡ l.fn.search.room;
}

abbrev pub decreases-loop-next : goal.decreases-loop-next
decreases-loop-next l = l.fn.search.room - l.next
