use Rattle.std.proofs.Common.{◌<◌, length, arith, subst, sym}
use Rattle.ob_graph.specs.Searches.{Found}
use Rattle.ob_graph.proofs.SearchLaws.{meet_fits, meet_marks}
use Rattle.ob_graph.proofs.search.Search.meet.Goals as goal

pub push_reserved-requires : goal.push_reserved-requires
push_reserved-requires c =
    let lt : c.args.node < length c.self.inside.marks.items = subst (λ (s : Found). c.args.node < s.room) (sym c.self.view_is) c.requires in
    let fits = meet_fits _ _ _ _ _ c.self.invariant lt c.index.ensures c.if-not-index.true in omega (arith, fits)

pub invariant_of-self : goal.invariant_of-self
invariant_of-self c =
    let lt : c.args.node < length c.self.inside.marks.items = subst (λ (s : Found). c.args.node < s.room) (sym c.self.view_is) c.requires in
    rw (c.push_reserved.ensures.items, c.push_reserved.ensures.capacity) (meet_marks _ _ _ _ _ c.self.invariant lt c.index.ensures c.if-not-index.true)
