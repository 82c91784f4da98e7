use Rattle.std.proofs.Common.{◌≡◌, ◌++◌, map, drop}
use Rattle.ob_items.proofs.few_indices.values_of.Given as goal

abbrev pub invariant-loop-entry : goal.invariant-loop-entry
invariant-loop-entry l = l.values ++ map (λ e. e.1) (drop l.entry-index l.entries) ≡ map (λ e. e.1) l.entries
