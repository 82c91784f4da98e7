use Rattle.std.proofs.Common.{◌≡◌, ℕ, ◌<◌, false, [], get_or}
use Rattle.ob_graph.specs.Paths.{inputs_of}
use Rattle.ob_queue.specs.Plans.{is_marked}
use Rattle.ob_queue.specs.Walks.{Walking}
use Rattle.ob_queue.proofs.walk.walk_all.Given as goal

abbrev pub invariant-loop-node : goal.invariant-loop-node
invariant-loop-node l = record {
  walking : Walking l.fn.walk.marks (inputs_of l.graph) l.walk;
  path : l.walk.path ≡ [];
  done : (k : ℕ) → k < l.node-index → is_marked l.walk.marks (get_or l.nodes k 0) ≡ false;
}
