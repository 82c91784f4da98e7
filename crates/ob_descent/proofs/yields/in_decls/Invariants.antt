use Rattle.std.proofs.Common.{◌≡◌, drop, map}
use Rattle.ob_grammar.specs.Yields.{in_any}
use Rattle.ob_descent.specs.YieldsIn.{decl_yields}
use Rattle.ob_descent.proofs.yields.in_decls.Given as goal

abbrev pub invariant-loop-decl : goal.invariant-loop-decl
invariant-loop-decl l = in_any (map decl_yields (drop l.decl-index l.decls)) ≡ in_any (map decl_yields l.decls)
