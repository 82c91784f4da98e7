use Rattle.std.proofs.Common.{◌≡◌, ◌++◌, map}
use Rattle.ob_items.proofs.many.index_values.Given as goal

abbrev pub invariant-loop-value : goal.invariant-loop-value
invariant-loop-value l = l.values ++ l.value-iterator ≡ map (λ e. e.1) l.indices.entries
