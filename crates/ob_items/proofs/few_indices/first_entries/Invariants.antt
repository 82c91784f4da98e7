use Rattle.std.proofs.Common.{◌≡◌, ◌≤◌, ◌++◌, length, map, drop}
use Rattle.ob_items.specs.Properties.{index_entry}
use Rattle.ob_items.proofs.few_indices.first_entries.Given as goal

abbrev pub invariant-loop-entry : goal.invariant-loop-entry
invariant-loop-entry l = record {
  split : l.first ++ map index_entry (drop l.entry-index l.entries) ≡ map index_entry l.entries;
  most : length l.first ≤ l.n;
}
