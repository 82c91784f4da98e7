use Rattle.std.proofs.Common.{◌≡◌, drop, map}
use Rattle.ob_grammar.specs.Yields.{in_any}
use Rattle.ob_descent.specs.YieldsIn.{stmt_yields}
use Rattle.ob_descent.proofs.yields.+yields.Given as goal

abbrev pub invariant-in_stmts-loop-stmt : goal.invariant-in_stmts-loop-stmt
invariant-in_stmts-loop-stmt l = in_any (map stmt_yields (drop l.stmt-index l.stmts)) ≡ in_any (map stmt_yields l.stmts)
