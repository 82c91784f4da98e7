use Rattle.std.proofs.Common.{◌≡◌, ◌+◌, drop}
use Rattle.ob_code.specs.Rules as rules_of
use Rattle.ob_code.proofs.check.break_in_functions.Given as goal

abbrev pub invariant-loop-index : goal.invariant-loop-index
invariant-loop-index l =
    rules_of.break_in_functions l.asked (l.index + 1) (drop l.index l.functions) ≡ rules_of.break_in_functions l.asked 1 l.functions
