use Rattle.std.proofs.Common.{arith, ◌∙◌}
use Rattle.std.proofs.lemmas.List.{length-set}
use Rattle.ob_graph.proofs.SearchLaws.{clearing_lt, clearing_more, cleared}
use Rattle.ob_graph.proofs.search.Search.clear.Goals as goal

pub index_mut-requires : goal.index_mut-requires
index_mut-requires c = let lt = clearing_lt _ _ _ _ c.loop-v.invariant.left c.in-Some.ensures.items in omega (arith, lt)

pub loop-v-preserved : goal.loop-v-preserved
loop-v-preserved c = record {
  left = clearing_more _ _ _ _ c.loop-v.invariant.left c.in-Some.ensures.items;
  room = length-set _ _ _ ∙ c.loop-v.invariant.room;
  fits = let f = c.loop-v.invariant.fits in let k = c.pop.ensures.capacity in simp length-set (omega (arith, f, k));
}

pub invariant_of-self : goal.invariant_of-self
invariant_of-self c =
    let f = c.loop-v.invariant.fits in
    let k = c.pop.ensures.capacity in
    cleared _ c.loop-v.self-inside.found.items _ _ c.loop-v.invariant.left (omega (arith, c.in_default.ensures.cases)) (omega (arith, c.in_default.ensures.cases)) (omega (arith, f, k))
