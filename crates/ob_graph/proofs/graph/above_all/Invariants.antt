use Rattle.std.proofs.Common.{ℕ, ◌<◌, ◌≤◌, ◌^◌, get_or}
use Rattle.ob_graph.proofs.graph.above_all.Given as goal

abbrev pub invariant-loop-input : goal.invariant-loop-input
invariant-loop-input l = record {
  node : l.node < l.above;
  few : l.above ≤ 2 ^ 20;
  inputs : (k : ℕ) (d : ℕ) → k < l.input-index → get_or l.inputs k d < l.above;
}
