use Rattle.std.proofs.Common.{◌≡◌, ◌++◌, map, drop, decimal}
use Rattle.ob_items.proofs.few_indices.keys_of.Given as goal

abbrev pub invariant-loop-entry : goal.invariant-loop-entry
invariant-loop-entry l = l.keys ++ map (λ e. decimal e.0) (drop l.entry-index l.entries) ≡ map (λ e. decimal e.0) l.entries
