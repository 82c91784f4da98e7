use Rattle.std.proofs.Common.{◌≡◌, take}
use Rattle.ob_tree_types.proofs.cell_copy.copy_specs.Given as goal

abbrev pub invariant-loop-spec : goal.invariant-loop-spec
invariant-loop-spec l = l.copies ≡ take l.spec-index l.specs
