use Rattle.std.proofs.Common.{◌≡◌, ◌++◌, map, decimal}
use Rattle.ob_items.proofs.many.index_keys.Given as goal

abbrev pub invariant-loop-index : goal.invariant-loop-index
invariant-loop-index l = l.keys ++ map decimal l.index-iterator ≡ map (λ e. decimal e.0) l.indices.entries
