use Rattle.std.proofs.Common.{◌≤◌, length, subst}
use Rattle.ob_graph.specs.Searches.{Found}
use Rattle.ob_graph.proofs.SearchLaws.{found_few}
use Rattle.ob_graph.proofs.search.Search.found.Goals as goal

pub returns-clause-few : goal.returns-clause-few
returns-clause-few c = subst (λ (s : Found). length s.found ≤ s.room) c.self.view_is (found_few _ _ _ c.self.invariant)
