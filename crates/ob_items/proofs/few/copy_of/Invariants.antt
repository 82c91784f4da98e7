use Rattle.std.proofs.Common.{◌≡◌, ◌++◌, drop}
use Rattle.ob_items.proofs.few.copy_of.Given as goal

abbrev pub invariant-loop-named : goal.invariant-loop-named
invariant-loop-named l = l.copy.items ++ drop l.named-index l.entries ≡ l.entries
