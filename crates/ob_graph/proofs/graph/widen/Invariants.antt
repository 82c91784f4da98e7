use Rattle.std.proofs.Common.{◌≡◌, ℕ, ◌≤◌, length}
use Rattle.std.specs.Prelude.{vec_capacity}
use Rattle.ob_graph.specs.Paths.{inputs_of}
use Rattle.ob_graph.proofs.graph.widen.Given as goal

abbrev pub invariant-loop-place : goal.invariant-loop-place
invariant-loop-place l = record {
  same : (v : ℕ) → inputs_of l.lists.items v ≡ inputs_of l.fn.lists.items v;
  size : length l.lists.items ≡ l._place;
  room : l.nodes ≤ vec_capacity l.lists;
}
