use Rattle.std.proofs.Common.{◌≡◌, ◌++◌, take}
use Rattle.ob_base.proofs.units.push_char.Given as goal

abbrev pub invariant-loop-unit : goal.invariant-loop-unit
invariant-loop-unit l = l.units ≡ l.fn.units ++ take l.unit-index l.unit-items
