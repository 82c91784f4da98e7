use Rattle.std.proofs.Common.{◌≡◌, ◌++◌, drop}
use Rattle.ob_code.specs.Code.{boxes_for_each}
use Rattle.ob_code.proofs.check.boxes_for_each.Given as goal

abbrev pub invariant-loop-function : goal.invariant-loop-function
invariant-loop-function l = l.asked.items ++ boxes_for_each (drop l.function-index l.functions) ≡ boxes_for_each l.functions
