use Rattle.std.proofs.Common.{◌≡◌, ◌≤◌, ◌++◌, length, map, drop}
use Rattle.ob_items.specs.Properties.{named_entry}
use Rattle.ob_items.proofs.few.first_entries.Given as goal

abbrev pub invariant-loop-named : goal.invariant-loop-named
invariant-loop-named l = record {
  split : l.first ++ map named_entry (drop l.named-index l.entries) ≡ map named_entry l.entries;
  most : length l.first ≤ l.n;
}
