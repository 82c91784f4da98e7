use Rattle.std.proofs.Common.{◌≡◌, drop, map}
use Rattle.ob_grammar.specs.Early.{checks_of, every, each, each_given, value_of, prop_check, part_of, declared_of}
use Rattle.ob_early.specs.Found.{ran, test_of}
use Rattle.ob_early.proofs.walks.+walk.Given as goal

abbrev pub invariant-walk_exprs-loop-expr : goal.invariant-walk_exprs-loop-expr
invariant-walk_exprs-loop-expr l = ran l.place (checks_of (map value_of (drop l.expr-index l.exprs))) l.walker ≡ ran l.place (checks_of (map value_of l.exprs)) l.fn.walker

abbrev pub invariant-walk_props-loop-prop : goal.invariant-walk_props-loop-prop
invariant-walk_props-loop-prop l = ran l.place (every (map prop_check (drop l.prop-index l.props))) l.walker ≡ ran l.place (every (map prop_check l.props)) l.fn.walker

abbrev pub invariant-walk_items-loop-item : goal.invariant-walk_items-loop-item
invariant-walk_items-loop-item l = ran l.place (each (map part_of (drop l.item-index l.items))) l.walker ≡ ran l.place (each (map part_of l.items)) l.fn.walker

abbrev pub invariant-walk_decls-loop-decl : goal.invariant-walk_decls-loop-decl
invariant-walk_decls-loop-decl l = ran l.place (each_given (test_of l.form) (map declared_of (drop l.decl-index l.decls))) l.walker ≡ ran l.place (each_given (test_of l.form) (map declared_of l.decls)) l.fn.walker
