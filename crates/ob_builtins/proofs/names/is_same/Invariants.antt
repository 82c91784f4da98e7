use Rattle.std.proofs.Common.{◌≡◌, take}
use Rattle.ob_builtins.proofs.names.is_same.Given as goal

abbrev pub invariant-loop-at : goal.invariant-loop-at
invariant-loop-at l = take l.at l.name ≡ take l.at l.bytes
