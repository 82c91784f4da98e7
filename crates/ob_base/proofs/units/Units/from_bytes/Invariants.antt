use Rattle.std.proofs.Common.{◌≡◌, take}
use Rattle.ob_base.proofs.units.Units.from_bytes.Given as goal

abbrev pub invariant-loop-byte : goal.invariant-loop-byte
invariant-loop-byte l = l.units ≡ take l.byte-index l.bytes
