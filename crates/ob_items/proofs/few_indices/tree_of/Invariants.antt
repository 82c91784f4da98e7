use Rattle.std.proofs.Common.{◌≡◌, drop}
use Rattle.ob_items.proofs.IndexLemmas.{put_all}
use Rattle.ob_items.proofs.few_indices.tree_of.Given as goal

abbrev pub invariant-loop-entry : goal.invariant-loop-entry
invariant-loop-entry l = put_all l.tree.entries (drop l.entry-index l.entries) ≡ l.entries
