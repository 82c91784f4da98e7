use Rattle.std.proofs.Common.{◌≡◌, ◌<◌, length}
use Rattle.std.specs.List.{All}
use Rattle.ob_graph.specs.Searches.{met_all}
use Rattle.ob_graph.proofs.search.meet_all.Given as goal

abbrev pub invariant-loop-rest : goal.invariant-loop-rest
invariant-loop-rest l = record {
  found : met_all l.search.found l.rest ≡ met_all l.fn.search.found l.nodes;
  room : l.search.room ≡ l.fn.search.room;
  small : All (λ u. u < l.fn.search.room) l.rest;
}

abbrev pub decreases-loop-rest : goal.decreases-loop-rest
decreases-loop-rest l = length l.rest
