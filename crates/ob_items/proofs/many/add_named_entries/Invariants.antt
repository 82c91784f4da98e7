use Rattle.std.proofs.Common.{◌≡◌, ◌++◌, map, take}
use Rattle.ob_items.specs.Properties.{named_entry}
use Rattle.ob_items.proofs.many.add_named_entries.Given as goal

abbrev pub invariant-loop-place : goal.invariant-loop-place
invariant-loop-place l = l.entries ≡ l.fn.entries ++ map named_entry (take l.place l.named)
