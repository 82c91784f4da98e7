use Rattle.std.proofs.Common.{◌∙◌, arith}
use Rattle.ob_queue.proofs.WalkLaws.{starts, none_left, ends_marks, ends_listed}
use Rattle.ob_queue.proofs.walk.walk_all.Goals as goal

pub loop-node-init : goal.loop-node-init
loop-node-init c = record {
  walking = starts _ _ _ c.clear_order.ensures.marks (c.clear_order.ensures.path ∙ c.requires.path) (c.clear_order.ensures.places ∙ c.requires.places) c.clear_order.ensures.order;
  path = c.clear_order.ensures.path ∙ c.requires.path;
  done = λ k h. absurd (omega arith);
}

pub returns-clause-marks : goal.returns-clause-marks
returns-clause-marks c = ends_marks c.args.walk.now.marks _ _ c.loop-node.invariant.walking
    (none_left c.args.walk.now.marks _ _ c.args.nodes.now c.loop-node.invariant.walking c.requires.nodes (λ k h. c.loop-node.invariant.done k (omega arith)))

pub returns-clause-listed : goal.returns-clause-listed
returns-clause-listed c = ends_listed c.args.walk.now.marks _ _ c.loop-node.invariant.walking c.loop-node.invariant.path
    (none_left c.args.walk.now.marks _ _ c.args.nodes.now c.loop-node.invariant.walking c.requires.nodes (λ k h. c.loop-node.invariant.done k (omega arith)))
