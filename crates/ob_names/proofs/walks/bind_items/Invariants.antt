use Rattle.std.proofs.Common.{◌≡◌, drop, map}
use Rattle.ob_tree.specs.Walks.{declares_of, stmt_item}
use Rattle.ob_names.specs.Found.{binds}
use Rattle.ob_names.proofs.walks.bind_items.Given as goal

abbrev pub invariant-loop-item : goal.invariant-loop-item
invariant-loop-item l = binds (declares_of (map stmt_item (drop l.item-index l.items))) l.walker ≡ binds (declares_of (map stmt_item l.items)) l.fn.walker
