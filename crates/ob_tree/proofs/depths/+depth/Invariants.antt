use Rattle.std.proofs.Common.{◌≡◌, drop, max, map}
use Rattle.std.specs.Prelude.{min}
use Rattle.ob_tree.specs.Depth.{deepest, expr_depth, prop_depth, stmt_depth, decl_depth}
use Rattle.ob_tree.proofs.depths.+depth.Given as goal

abbrev pub invariant-depth_in_exprs-loop-expr : goal.invariant-depth_in_exprs-loop-expr
invariant-depth_in_exprs-loop-expr l = max l.most (min (deepest (map expr_depth (drop l.expr-index l.exprs))) 4294967295) ≡ min (deepest (map expr_depth l.exprs)) 4294967295

abbrev pub invariant-depth_in_props-loop-prop : goal.invariant-depth_in_props-loop-prop
invariant-depth_in_props-loop-prop l = max l.most (min (deepest (map prop_depth (drop l.prop-index l.props))) 4294967295) ≡ min (deepest (map prop_depth l.props)) 4294967295

abbrev pub invariant-depth_in_stmts-loop-stmt : goal.invariant-depth_in_stmts-loop-stmt
invariant-depth_in_stmts-loop-stmt l = max l.most (min (deepest (map stmt_depth (drop l.stmt-index l.stmts))) 4294967295) ≡ min (deepest (map stmt_depth l.stmts)) 4294967295

abbrev pub invariant-depth_in_decls-loop-decl : goal.invariant-depth_in_decls-loop-decl
invariant-depth_in_decls-loop-decl l = max l.most (min (deepest (map decl_depth (drop l.decl-index l.decls))) 4294967295) ≡ min (deepest (map decl_depth l.decls)) 4294967295
