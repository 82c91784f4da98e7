use Rattle.std.proofs.Common.{◌≡◌, drop, map}
use Rattle.ob_cells.specs.Built.{any_of, expr_has, prop_has, stmt_has, decl_has}
use Rattle.ob_cells.proofs.built.+generators.Given as goal

abbrev pub invariant-exprs_have-loop-expr : goal.invariant-exprs_have-loop-expr
invariant-exprs_have-loop-expr l = any_of (map expr_has (drop l.expr-index l.exprs)) ≡ any_of (map expr_has l.exprs)

abbrev pub invariant-props_have-loop-prop : goal.invariant-props_have-loop-prop
invariant-props_have-loop-prop l = any_of (map prop_has (drop l.prop-index l.props)) ≡ any_of (map prop_has l.props)

abbrev pub invariant-stmts_have-loop-stmt : goal.invariant-stmts_have-loop-stmt
invariant-stmts_have-loop-stmt l = any_of (map stmt_has (drop l.stmt-index l.stmts)) ≡ any_of (map stmt_has l.stmts)

abbrev pub invariant-decls_have-loop-decl : goal.invariant-decls_have-loop-decl
invariant-decls_have-loop-decl l = any_of (map decl_has (drop l.decl-index l.decls)) ≡ any_of (map decl_has l.decls)
