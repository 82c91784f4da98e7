use Rattle.std.proofs.Common.{◌-◌, map, refl, arith}
use Rattle.ob_grammar.specs.Early.{declared_in, part_of}
use Rattle.ob_early.proofs.Running.{goes_back}
use Rattle.ob_early.proofs.walks.bind_items.Goals as goal

pub loop-place-preserved : goal.loop-place-preserved
loop-place-preserved c =
    goes_back c.args.count (λ is. declared_in (map part_of is)) (λ i. (part_of i).declares) (λ y ys. refl) c.args.items.now (c.loop-place.place - 1) c.loop-place.place c.index-items-place.result _ _ _ (omega arith) (omega arith) c.index-items-place.is c.loop-place.invariant c.in_ok-bind_item.ensures
