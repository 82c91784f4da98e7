use Rattle.std.proofs.Common.{◌≡◌, take}
use Rattle.ob_tree_types.proofs.copy.+copies.Given as goal

abbrev pub invariant-copy_exprs-loop-expr : goal.invariant-copy_exprs-loop-expr
invariant-copy_exprs-loop-expr l = l.copies ≡ take l.expr-index l.exprs

abbrev pub invariant-copy_props-loop-prop : goal.invariant-copy_props-loop-prop
invariant-copy_props-loop-prop l = l.copies ≡ take l.prop-index l.props

abbrev pub invariant-copy_stmts-loop-stmt : goal.invariant-copy_stmts-loop-stmt
invariant-copy_stmts-loop-stmt l = l.copies ≡ take l.stmt-index l.stmts

abbrev pub invariant-copy_decls-loop-decl : goal.invariant-copy_decls-loop-decl
invariant-copy_decls-loop-decl l = l.copies ≡ take l.decl-index l.decls
