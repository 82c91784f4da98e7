use Rattle.std.proofs.Common.{◌≡◌, take}
use Rattle.ob_items.proofs.index_text.is_same.Given as goal

abbrev pub invariant-loop-at : goal.invariant-loop-at
invariant-loop-at l = take l.at l.units ≡ take l.at l.bytes
