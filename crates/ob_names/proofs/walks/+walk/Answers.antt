use Rattle.std.proofs.Common.{rules, refl, [], ◌∷◌, map}
use Rattle.ob_tree_types.specs.declared.tree.Stmt.{the_lemmas}
use Rattle.ob_tree_types.specs.declared.tree.Function.{out-Function}
use Rattle.ob_tree_types.specs.declared.tree.CatchPart.{out-CatchPart}
use Rattle.ob_tree.specs.Scopes.{nothing}
use Rattle.ob_tree.specs.Walks.{bound_if_there, constant, variable, binding, declares_of, all, walks_of, values_of, expr_walk, prop_walk, stmt_item, head_item, body_item, decl_declared}
use Rattle.ob_names.proofs.Running.{none, both, three, four, scoped, scoped_two, in_a_function, scoped_twice, goes_on, ends}
use Rattle.ob_names.proofs.walks.+walk.Goals as goal

pub walk_expr-returns-in_ok-walk_expr-in-Binary-2 : goal.walk_expr-returns-in_ok-walk_expr-in-Binary-2
walk_expr-returns-in_ok-walk_expr-in-Binary-2 t c =
    both _ _ _ _ _ _ c.in_ok-walk_expr-in-Binary.ensures c.in_ok-walk_expr-in-Binary-2.ensures (search (rules, the_lemmas))

pub walk_expr-returns-in_ok-walk_expr-in-Compare-2 : goal.walk_expr-returns-in_ok-walk_expr-in-Compare-2
walk_expr-returns-in_ok-walk_expr-in-Compare-2 t c =
    both _ _ _ _ _ _ c.in_ok-walk_expr-in-Compare.ensures c.in_ok-walk_expr-in-Compare-2.ensures (search (rules, the_lemmas))

pub walk_expr-returns-in_ok-walk_expr-in-Logic-2 : goal.walk_expr-returns-in_ok-walk_expr-in-Logic-2
walk_expr-returns-in_ok-walk_expr-in-Logic-2 t c =
    both _ _ _ _ _ _ c.in_ok-walk_expr-in-Logic.ensures c.in_ok-walk_expr-in-Logic-2.ensures (search (rules, the_lemmas))

pub walk_expr-returns-in_ok-walk_expr-in-Assign-2 : goal.walk_expr-returns-in_ok-walk_expr-in-Assign-2
walk_expr-returns-in_ok-walk_expr-in-Assign-2 t c =
    both _ _ _ _ _ _ c.in_ok-walk_expr-in-Assign.ensures c.in_ok-walk_expr-in-Assign-2.ensures (search (rules, the_lemmas))

pub walk_expr-returns-in_ok-walk_expr-in-Index-2 : goal.walk_expr-returns-in_ok-walk_expr-in-Index-2
walk_expr-returns-in_ok-walk_expr-in-Index-2 t c =
    both _ _ _ _ _ _ c.in_ok-walk_expr-in-Index.ensures c.in_ok-walk_expr-in-Index-2.ensures (search (rules, the_lemmas))

pub walk_expr-returns-in_ok-walk_expr-in-Cond-3 : goal.walk_expr-returns-in_ok-walk_expr-in-Cond-3
walk_expr-returns-in_ok-walk_expr-in-Cond-3 t c =
    three _ _ _ _ _ _ _ _ c.in_ok-walk_expr-in-Cond.ensures c.in_ok-walk_expr-in-Cond-2.ensures c.in_ok-walk_expr-in-Cond-3.ensures (search (rules, the_lemmas))

pub walk_expr-returns-in_ok-walk_exprs-in-Call : goal.walk_expr-returns-in_ok-walk_exprs-in-Call
walk_expr-returns-in_ok-walk_exprs-in-Call t c =
    both _ _ _ _ _ _ c.in_ok-walk_expr-in-Call.ensures c.in_ok-walk_exprs-in-Call.ensures (search (rules, the_lemmas))

pub walk_expr-returns-in_ok-walk_exprs-in-New : goal.walk_expr-returns-in_ok-walk_exprs-in-New
walk_expr-returns-in_ok-walk_exprs-in-New t c =
    both _ _ _ _ _ _ c.in_ok-refer-in-New.ensures c.in_ok-walk_exprs-in-New.ensures (search (rules, the_lemmas))

pub walk_expr-returns-in-Undefined : goal.walk_expr-returns-in-Undefined
walk_expr-returns-in-Undefined t c =
    none _ _ (search (rules, the_lemmas))

pub walk_expr-returns-in-Undefined-2 : goal.walk_expr-returns-in-Undefined-2
walk_expr-returns-in-Undefined-2 t c =
    none _ _ (search (rules, the_lemmas))

pub walk_expr-returns-in-Undefined-3 : goal.walk_expr-returns-in-Undefined-3
walk_expr-returns-in-Undefined-3 t c =
    none _ _ (search (rules, the_lemmas))

pub walk_expr-returns-in-Undefined-4 : goal.walk_expr-returns-in-Undefined-4
walk_expr-returns-in-Undefined-4 t c =
    none _ _ (search (rules, the_lemmas))

pub walk_expr-returns-in-Undefined-5 : goal.walk_expr-returns-in-Undefined-5
walk_expr-returns-in-Undefined-5 t c =
    none _ _ (search (rules, the_lemmas))

pub walk_prop-returns-in_ok-walk_expr-in-Computed-2 : goal.walk_prop-returns-in_ok-walk_expr-in-Computed-2
walk_prop-returns-in_ok-walk_expr-in-Computed-2 t c =
    both _ _ _ _ _ _ c.in_ok-walk_expr-in-Computed.ensures c.in_ok-walk_expr-in-Computed-2.ensures (search (rules, the_lemmas))

pub walk_stmt-returns-in-Empty : goal.walk_stmt-returns-in-Empty
walk_stmt-returns-in-Empty t c =
    none _ _ (search (rules, the_lemmas))

pub walk_stmt-returns-in-Empty-2 : goal.walk_stmt-returns-in-Empty-2
walk_stmt-returns-in-Empty-2 t c =
    none _ _ (search (rules, the_lemmas))

pub walk_stmt-returns-in-Empty-3 : goal.walk_stmt-returns-in-Empty-3
walk_stmt-returns-in-Empty-3 t c =
    none _ _ (search (rules, the_lemmas))

pub walk_stmt-returns-in_ok-walk_optional-in-Yield : goal.walk_stmt-returns-in_ok-walk_optional-in-Yield
walk_stmt-returns-in_ok-walk_optional-in-Yield t c =
    both _ _ _ _ _ _ c.in_ok-refer_target-in-Yield.ensures c.in_ok-walk_optional-in-Yield.ensures (search (rules, the_lemmas))

pub walk_stmt-returns-in_ok-walk_optional-in-Change : goal.walk_stmt-returns-in_ok-walk_optional-in-Change
walk_stmt-returns-in_ok-walk_optional-in-Change t c =
    both _ _ _ _ _ _ c.in_ok-refer_outside-in-Change.ensures c.in_ok-walk_optional-in-Change.ensures (search (rules, the_lemmas))

pub walk_stmt-returns-in_ok-walk_stmt-in-While : goal.walk_stmt-returns-in_ok-walk_stmt-in-While
walk_stmt-returns-in_ok-walk_stmt-in-While t c =
    both _ _ _ _ _ _ c.in_ok-walk_expr-in-While.ensures c.in_ok-walk_stmt-in-While.ensures (search (rules, the_lemmas))

pub walk_stmt-returns-in_ok-walk_expr-in-DoWhile : goal.walk_stmt-returns-in_ok-walk_expr-in-DoWhile
walk_stmt-returns-in_ok-walk_expr-in-DoWhile t c =
    both _ _ _ _ _ _ c.in_ok-walk_stmt-in-DoWhile.ensures c.in_ok-walk_expr-in-DoWhile.ensures (search (rules, the_lemmas))

pub walk_handler-returns-in-None : goal.walk_handler-returns-in-None
walk_handler-returns-in-None t c =
    none _ _ (search (rules, the_lemmas))

pub walk_optional-returns-in-None : goal.walk_optional-returns-in-None
walk_optional-returns-in-None t c =
    none _ _ (search (rules, the_lemmas))

pub walk_head-returns-in-Nothing : goal.walk_head-returns-in-Nothing
walk_head-returns-in-Nothing t c =
    none _ _ (search (rules, the_lemmas))

pub walk_value-returns-in-Nothing : goal.walk_value-returns-in-Nothing
walk_value-returns-in-Nothing t c =
    none _ _ (search (rules, the_lemmas))

pub walk_expression-returns : goal.walk_expression-returns
walk_expression-returns t c =
    scoped (bound_if_there constant (out-Function c.args.function.now).name) _ _ _ _ _ _ _ c.open_count-open.ensures c.in_ok-bind_name.ensures c.in_ok-walk_function.ensures c.close_to.ensures (search (rules, the_lemmas))

pub walk_block-returns : goal.walk_block-returns
walk_block-returns t c =
    scoped _ _ _ _ _ _ _ _ c.open_count-open.ensures c.in_ok-bind_items.ensures c.in_ok-walk_items.ensures c.close_to.ensures refl

pub walk_catch-returns : goal.walk_catch-returns
walk_catch-returns t c =
    scoped_two (bound_if_there variable (out-CatchPart c.args.part.now).name) (declares_of (map stmt_item c.as_slice.result.now)) _ _ _ _ _ _ _ _ c.open_count-open.ensures c.in_ok-bind_name.ensures c.in_ok-bind_items.ensures c.in_ok-walk_items.ensures c.close_to.ensures (search (rules, the_lemmas))

pub walk_function-returns : goal.walk_function-returns
walk_function-returns t c =
    in_a_function (map (binding variable) c.as_slice.result.now) (body_item (out-Function c.args.function.now).body).declares _ _ _ _ _ _ _ _ _ _ c.in_ok-enter_function.ensures c.open_count-open.ensures c.in_ok-bind_params.ensures c.in_ok-bind_body.ensures c.in_ok-walk_body.ensures c.close_to.ensures c.leave_function.ensures (search (rules, the_lemmas))

pub walk_stmt-returns-in_ok-walk_stmt-in-If-default-default-None : goal.walk_stmt-returns-in_ok-walk_stmt-in-If-default-default-None
walk_stmt-returns-in_ok-walk_stmt-in-If-default-default-None t c =
    three _ _ nothing _ _ _ _ _ c.in_ok-walk_expr-in-If-default-default-None.ensures c.in_ok-walk_stmt-in-If-default-default-None.ensures (none nothing _ refl) (search (rules, the_lemmas))

pub walk_stmt-returns-in_ok-walk_stmt-in-If-default-default-Some-2 : goal.walk_stmt-returns-in_ok-walk_stmt-in-If-default-default-Some-2
walk_stmt-returns-in_ok-walk_stmt-in-If-default-default-Some-2 t c =
    three _ _ _ _ _ _ _ _ c.in_ok-walk_expr-in-If-default-default-Some.ensures c.in_ok-walk_stmt-in-If-default-default-Some.ensures c.in_ok-walk_stmt-in-If-default-default-Some-2.ensures (search (rules, the_lemmas))

pub walk_stmt-returns-in_ok-walk_stmt-in-For : goal.walk_stmt-returns-in_ok-walk_stmt-in-For
walk_stmt-returns-in_ok-walk_stmt-in-For t c =
    scoped (head_item c.in-For.head).declares _ _ _ _ _ _ _ c.open_count-open.ensures c.in_ok-bind_head-in-For.ensures (four _ _ _ _ _ _ _ _ _ _ c.in_ok-walk_head-in-For.ensures c.in_ok-walk_optional-in-For.ensures c.in_ok-walk_optional-in-For-2.ensures c.in_ok-walk_stmt-in-For.ensures refl) c.close_to.ensures (search (rules, the_lemmas))

pub walk_stmt-returns-in_ok-walk_stmt-in-ForOf : goal.walk_stmt-returns-in_ok-walk_stmt-in-ForOf
walk_stmt-returns-in_ok-walk_stmt-in-ForOf t c =
    scoped_twice _ _ _ _ _ _ _ _ _ _ _ _ _ c.open_count-open-in-ForOf.ensures c.in_ok-bind-in-ForOf.ensures c.in_ok-walk_expr-in-ForOf.ensures c.close_to-in-ForOf.ensures c.in_ok-bind-in-ForOf-2.ensures c.in_ok-walk_stmt-in-ForOf.ensures c.close_to-in-ForOf-2.ensures (search (rules, the_lemmas))

pub walk_stmt-returns-in_ok-walk_handler-in-Try-default-default-None : goal.walk_stmt-returns-in_ok-walk_handler-in-Try-default-default-None
walk_stmt-returns-in_ok-walk_handler-in-Try-default-default-None t c =
    three _ _ nothing _ _ _ _ _ c.in_ok-walk_block-in-Try-default-default-None.ensures c.in_ok-walk_handler-in-Try-default-default-None.ensures (none nothing _ refl) (search (rules, the_lemmas))

pub walk_stmt-returns-in_ok-walk_block-in-Try-default-default-Some-2 : goal.walk_stmt-returns-in_ok-walk_block-in-Try-default-default-Some-2
walk_stmt-returns-in_ok-walk_block-in-Try-default-default-Some-2 t c =
    three _ _ _ _ _ _ _ _ c.in_ok-walk_block-in-Try-default-default-Some.ensures c.in_ok-walk_handler-in-Try-default-default-Some.ensures c.in_ok-walk_block-in-Try-default-default-Some-2.ensures (search (rules, the_lemmas))

pub walk_exprs-returns : goal.walk_exprs-returns
walk_exprs-returns t c =
    ends (λ es. all (map expr_walk es)) expr_walk refl (λ y ys. refl) c.args.exprs.now c.loop-expr.expr-index _ _ c.loop-expr-test.false c.loop-expr.invariant

pub walk_exprs-loop-expr-preserved : goal.walk_exprs-loop-expr-preserved
walk_exprs-loop-expr-preserved t c =
    goes_on (λ es. all (map expr_walk es)) expr_walk refl (λ y ys. refl) c.args.exprs.now c.loop-expr.expr-index c.expr-item.result _ _ _ c.loop-expr-test.true c.expr-item.is c.in_ok-walk_expr.ensures c.loop-expr.invariant

pub walk_props-returns : goal.walk_props-returns
walk_props-returns t c =
    ends (λ ps. all (map prop_walk ps)) prop_walk refl (λ y ys. refl) c.args.props.now c.loop-prop.prop-index _ _ c.loop-prop-test.false c.loop-prop.invariant

pub walk_props-loop-prop-preserved : goal.walk_props-loop-prop-preserved
walk_props-loop-prop-preserved t c =
    goes_on (λ ps. all (map prop_walk ps)) prop_walk refl (λ y ys. refl) c.args.props.now c.loop-prop.prop-index c.prop-item.result _ _ _ c.loop-prop-test.true c.prop-item.is c.in_ok-walk_prop.ensures c.loop-prop.invariant

pub walk_items-returns : goal.walk_items-returns
walk_items-returns t c =
    ends (λ is. walks_of (map stmt_item is)) (λ i. (stmt_item i).walk) refl (λ y ys. refl) c.args.items.now c.loop-item.item-index _ _ c.loop-item-test.false c.loop-item.invariant

pub walk_items-loop-item-preserved : goal.walk_items-loop-item-preserved
walk_items-loop-item-preserved t c =
    goes_on (λ is. walks_of (map stmt_item is)) (λ i. (stmt_item i).walk) refl (λ y ys. refl) c.args.items.now c.loop-item.item-index c.item-item.result _ _ _ c.loop-item-test.true c.item-item.is c.in_ok-walk_stmt.ensures c.loop-item.invariant

pub walk_decls-returns : goal.walk_decls-returns
walk_decls-returns t c =
    ends (λ ds. values_of (map decl_declared ds)) (λ d. (decl_declared d).walk) refl (λ y ys. refl) c.args.decls.now c.loop-decl.decl-index _ _ c.loop-decl-test.false c.loop-decl.invariant

pub walk_decls-loop-decl-preserved : goal.walk_decls-loop-decl-preserved
walk_decls-loop-decl-preserved t c =
    goes_on (λ ds. values_of (map decl_declared ds)) (λ d. (decl_declared d).walk) refl (λ y ys. refl) c.args.decls.now c.loop-decl.decl-index c.decl-item.result _ _ _ c.loop-decl-test.true c.decl-item.is c.in_ok-walk_decl.ensures c.loop-decl.invariant
