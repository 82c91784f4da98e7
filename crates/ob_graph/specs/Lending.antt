-- What a graph is once a list that was read out of it is no longer used.
use Rattle.std.specs.Prelude.{◌≡◌, ℕ, List}
use Rattle.std.specs.Borrow.{MutBor, Fml}
use Rattle.std.specs.Io.BufRead.{Rests}
use Rattle.ob_graph.specs.contracts.graph.Graph.{the_row}

-- the graph that it was
abbrev pub KeepsGraph : MutBor (List (List ℕ)) → Fml
KeepsGraph g = Rests the_row g (λ after. after ≡ g.now)
