use Rattle.std.proofs.Common.{◌≡◌, take}
use Rattle.ob_base.proofs.plain.+copies.Given as goal

abbrev pub invariant-copy_plains-loop-item : goal.invariant-copy_plains-loop-item
invariant-copy_plains-loop-item l = l.copies ≡ take l.item-index l.items

abbrev pub invariant-copy_props-loop-prop : goal.invariant-copy_props-loop-prop
invariant-copy_props-loop-prop l = l.copies ≡ take l.prop-index l.props
