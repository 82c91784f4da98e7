use Rattle.std.proofs.Common.{◌≡◌, ◌++◌, length}
use Rattle.std.specs.Prelude.{string_bytes}
use Rattle.ob_base.specs.Escapes.{units_text}
use Rattle.ob_base.proofs.escapes.put_units.Given as goal

abbrev pub invariant-loop-left : goal.invariant-loop-left
invariant-loop-left l = string_bytes l.out ++ units_text l.in_quotes l.left ≡ string_bytes l.fn.out ++ units_text l.in_quotes l.fn.units

abbrev pub decreases-loop-left : goal.decreases-loop-left
decreases-loop-left l = length l.left
