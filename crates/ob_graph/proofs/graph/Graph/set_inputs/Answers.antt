use Rattle.std.proofs.Common.{◌≡◌, ◌<◌, length, max, sym, subst, arith}
use Rattle.std.specs.List.{All}
use Rattle.ob_graph.proofs.SearchLaws.{graph_set}
use Rattle.ob_graph.proofs.graph.Graph.set_inputs.Goals as goal

pub invariant_of-self-2 : goal.invariant_of-self-2
invariant_of-self-2 c =
    let wide = c.widen.new.lists.items in
    let nodes = c.above_all-nodes.result in
    let size : length wide ≡ max (length c.self.inside.lists.items) nodes = c.in_ok-widen.ensures.nodes in
    let in_room = c.in_ok-reserve.ensures.room in
    let more_room = c.in_ok-reserve.ensures.grows in
    let fits = c.self.invariant.fits in
    let few = c.self.invariant.few in
    let node = c.above_all-nodes.ensures.node in
    let some = c.above_all-nodes.ensures.few in
    let all : All (λ u. u < length wide) c.in_ok-list.list = subst (All (λ u. u < length wide)) (sym c.in_ok-list.ensures) (λ k d h. let l = c.above_all-nodes.ensures.inputs k d h in omega (arith, l, size)) in
    graph_set c.self.inside.lists.items wide nodes _ _ _ _ c.self.invariant c.in_ok-widen.ensures.same (omega arith) (omega arith) all (omega arith) (omega arith)
