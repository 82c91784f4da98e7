use Rattle.std.proofs.Common.{[], arith}
use Rattle.std.proofs.lemmas.Bool.Decides.{nat_tests}
use Rattle.ob_values.proofs.TreeLemmas.{count-more, count-smaller, count-large}
use Rattle.ob_values.proofs.plain.walk.is_small.Goals as goal

pub loop-r-smaller : goal.loop-r-smaller
loop-r-smaller c = count-smaller _ _ _ _ _ _ _ _ _ c.loop-r.invariant c.in-Some.ensures c.in_ok-cost.ensures.cost c.in-Some-2.is c.in_ok-cost.ensures.items

pub loop-r-preserved : goal.loop-r-preserved
loop-r-preserved c = count-more _ _ _ _ _ _ _ _ _ c.loop-r.invariant c.in-Some.ensures c.in_ok-cost.ensures.cost c.in-Some-2.is c.in_ok-cost.ensures.items

pub returns-in-None : goal.returns-in-None
returns-in-None c =
    let large = count-large _ _ _ [] _ _ 0 _ _ c.loop-r.invariant c.in-Some.ensures c.in_ok-cost.ensures.cost c.in-None.is in
    grind (arith, nat_tests, large)
