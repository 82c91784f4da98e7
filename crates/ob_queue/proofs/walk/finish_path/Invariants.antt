use Rattle.std.proofs.Common.{◌≡◌, ℕ, ◌+◌, ◌-◌, ◌*◌, Bool, true, List, length}
use Rattle.ob_graph.specs.Paths.{inputs_of}
use Rattle.ob_queue.specs.Plans.{is_marked}
use Rattle.ob_queue.specs.Walks.{Walking}
use Rattle.ob_queue.proofs.walk.finish_path.Given as goal

abbrev pub invariant-loop-walk : goal.invariant-loop-walk
invariant-loop-walk l = record {
  walking : (queue : List Bool) → Walking queue (inputs_of l.graph) l.fn.walk → Walking queue (inputs_of l.graph) l.walk;
  falls : (v : ℕ) → is_marked l.walk.marks v ≡ true → is_marked l.fn.walk.marks v ≡ true;
}

abbrev pub decreases-loop-walk : goal.decreases-loop-walk
decreases-loop-walk l = 2 * length l.fn.walk.marks - (2 * length l.walk.order + length l.walk.path)
