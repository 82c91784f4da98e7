use Rattle.std.proofs.Common.{◌≡◌, ◌++◌, nat_eq, take, drop}
use Rattle.std.specs.Cmp.Lexicographic.{pointwise}
use Rattle.indexmap.specs.IndexMap.{insert_entry}
use Rattle.ob_items.proofs.few.write_entry.Given as goal

abbrev pub invariant-loop-at : goal.invariant-loop-at
invariant-loop-at l = record {
  same : l.entries.items ≡ l.fn.entries.items;
  written : insert_entry (pointwise nat_eq) l.entries.items l.key l.value
      ≡ take l.at l.entries.items ++ insert_entry (pointwise nat_eq) (drop l.at l.entries.items) l.key l.value;
}
