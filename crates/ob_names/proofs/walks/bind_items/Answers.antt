use Rattle.std.proofs.Common.{refl, map}
use Rattle.ob_tree.specs.Walks.{declares_of, stmt_item}
use Rattle.ob_names.proofs.Running.{binds_on}
use Rattle.ob_names.proofs.walks.bind_items.Goals as goal

pub loop-item-preserved : goal.loop-item-preserved
loop-item-preserved c =
    binds_on (λ is. declares_of (map stmt_item is)) (λ i. (stmt_item i).declares) (λ y ys. refl) c.args.items.now c.loop-item.item-index c.item-item.result _ _ _ c.loop-item-test.true c.item-item.is c.in_ok-bind_item.ensures c.loop-item.invariant
