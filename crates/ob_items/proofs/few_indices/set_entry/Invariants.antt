use Rattle.std.proofs.Common.{◌≡◌, ◌++◌, take, drop}
use Rattle.std.specs.Ordering.{nat_cmp}
use Rattle.std.specs.BTreeMap.{insert_entry}
use Rattle.ob_items.proofs.few_indices.set_entry.Given as goal

abbrev pub invariant-loop-at : goal.invariant-loop-at
invariant-loop-at l = record {
  same : l.entries.items ≡ l.fn.entries.items;
  written : insert_entry nat_cmp l.entries.items l.index l.value
      ≡ take l.at l.entries.items ++ insert_entry nat_cmp (drop l.at l.entries.items) l.index l.value;
}
