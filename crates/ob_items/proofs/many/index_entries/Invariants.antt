use Rattle.std.proofs.Common.{◌≡◌, ◌≤◌, ◌++◌, length, map}
use Rattle.ob_items.specs.Properties.{index_entry}
use Rattle.ob_items.proofs.many.index_entries.Given as goal

abbrev pub invariant-loop-index : goal.invariant-loop-index
invariant-loop-index l = record {
  split : l.entries ++ map index_entry l.index-iterator ≡ map index_entry l.indices.entries;
  most : length l.entries ≤ l.n;
}
