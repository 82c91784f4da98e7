use Rattle.ob_graph.proofs.SearchLaws.{marked_none}
use Rattle.ob_graph.proofs.search.Search.new.Goals as goal

pub invariant_of-result : goal.invariant_of-result
invariant_of-result c = rw (c.new.ensures.items, c.new-2.ensures.items) (marked_none _)
