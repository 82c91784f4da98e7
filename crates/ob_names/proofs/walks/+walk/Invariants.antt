use Rattle.std.proofs.Common.{◌≡◌, drop, map}
use Rattle.ob_tree.specs.Walks.{all, walks_of, values_of, expr_walk, prop_walk, stmt_item, decl_declared}
use Rattle.ob_names.specs.Found.{ran}
use Rattle.ob_names.proofs.walks.+walk.Given as goal

abbrev pub invariant-walk_exprs-loop-expr : goal.invariant-walk_exprs-loop-expr
invariant-walk_exprs-loop-expr l = ran (all (map expr_walk (drop l.expr-index l.exprs))) l.walker ≡ ran (all (map expr_walk l.exprs)) l.fn.walker

abbrev pub invariant-walk_props-loop-prop : goal.invariant-walk_props-loop-prop
invariant-walk_props-loop-prop l = ran (all (map prop_walk (drop l.prop-index l.props))) l.walker ≡ ran (all (map prop_walk l.props)) l.fn.walker

abbrev pub invariant-walk_items-loop-item : goal.invariant-walk_items-loop-item
invariant-walk_items-loop-item l = ran (walks_of (map stmt_item (drop l.item-index l.items))) l.walker ≡ ran (walks_of (map stmt_item l.items)) l.fn.walker

abbrev pub invariant-walk_decls-loop-decl : goal.invariant-walk_decls-loop-decl
invariant-walk_decls-loop-decl l = ran (values_of (map decl_declared (drop l.decl-index l.decls))) l.walker ≡ ran (values_of (map decl_declared l.decls)) l.fn.walker
