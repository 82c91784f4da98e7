use Rattle.ob_graph.proofs.SearchLaws.{marked_sorted, rises}
use Rattle.ob_graph.proofs.search.Search.sort.Goals as goal

pub invariant_of-self : goal.invariant_of-self
invariant_of-self c = rw c.sort_unstable.ensures.capacity (marked_sorted _ _ _ _ c.self.invariant c.sort_unstable.ensures.permutation)

pub returns-clause-rising : goal.returns-clause-rising
returns-clause-rising c = rises _ _ _ _ c.self.invariant c.sort_unstable.ensures.permutation c.sort_unstable.ensures.sorted
