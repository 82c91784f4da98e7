use Rattle.std.proofs.Common.{◌≡◌, rules, refl, [], ◌∷◌, map, option_map, ap, sym, ◌∙◌, Some, None}
use Rattle.ob_tree_types.specs.declared.tree.Stmt.{the_lemmas}
use Rattle.ob_tree_types.specs.declared.tree.Function.{out-Function}
use Rattle.ob_tree_types.specs.declared.tree.CatchPart.{out-CatchPart}
use Rattle.ob_grammar.specs.Early.{both, scope, value_if_there, in_turn, checks_of, every, each, each_given, name_list, declared_in, value_of, prop_check, part_of, head_of, body_of, declared_of}
use Rattle.ob_early.specs.Found.{test_of, given_check}
use Rattle.ob_early.proofs.Running.{none, two, three, four, scoped, scoped_two, in_a_function, goes_on, ends, in_loop_required, in_generator_required, tested, target_required, turned, two_alone, two_and_block}
use Rattle.ob_early.proofs.Folds.{for_check, try_alone, try_and_block}
use Rattle.ob_early.proofs.walks.+walk.Goals as goal

pub walk_expr-returns-in_ok-walk_expr-in-Binary-2 : goal.walk_expr-returns-in_ok-walk_expr-in-Binary-2
walk_expr-returns-in_ok-walk_expr-in-Binary-2 t c =
    two _ _ _ _ _ _ _ c.in_ok-walk_expr-in-Binary.ensures c.in_ok-walk_expr-in-Binary-2.ensures (search (rules, the_lemmas))

pub walk_expr-returns-in_ok-walk_expr-in-Compare-2 : goal.walk_expr-returns-in_ok-walk_expr-in-Compare-2
walk_expr-returns-in_ok-walk_expr-in-Compare-2 t c =
    two _ _ _ _ _ _ _ c.in_ok-walk_expr-in-Compare.ensures c.in_ok-walk_expr-in-Compare-2.ensures (search (rules, the_lemmas))

pub walk_expr-returns-in_ok-walk_expr-in-Logic-2 : goal.walk_expr-returns-in_ok-walk_expr-in-Logic-2
walk_expr-returns-in_ok-walk_expr-in-Logic-2 t c =
    two _ _ _ _ _ _ _ c.in_ok-walk_expr-in-Logic.ensures c.in_ok-walk_expr-in-Logic-2.ensures (search (rules, the_lemmas))

pub walk_expr-returns-in_ok-walk_expr-in-Index-2 : goal.walk_expr-returns-in_ok-walk_expr-in-Index-2
walk_expr-returns-in_ok-walk_expr-in-Index-2 t c =
    two _ _ _ _ _ _ _ c.in_ok-walk_expr-in-Index.ensures c.in_ok-walk_expr-in-Index-2.ensures (search (rules, the_lemmas))

pub walk_expr-returns-in_ok-walk_expr-in-Assign-2 : goal.walk_expr-returns-in_ok-walk_expr-in-Assign-2
walk_expr-returns-in_ok-walk_expr-in-Assign-2 t c =
    three _ _ _ _ _ _ _ _ _ (target_required _ (value_of c.get-in-Assign.result.now).name _ _ _ c.is_assignable-holds.ensures c.require.ensures) c.in_ok-walk_expr-in-Assign.ensures c.in_ok-walk_expr-in-Assign-2.ensures (search (rules, the_lemmas))

pub walk_expr-returns-in_ok-walk_expr-in-Update : goal.walk_expr-returns-in_ok-walk_expr-in-Update
walk_expr-returns-in_ok-walk_expr-in-Update t c =
    two _ _ _ _ _ _ _ (target_required _ (value_of c.get-in-Update.result.now).name _ _ _ c.is_assignable-holds-in-Update.ensures c.require-in-Update.ensures) c.in_ok-walk_expr-in-Update.ensures (search (rules, the_lemmas))

pub walk_expr-returns-in_ok-walk_expr-in-Cond-3 : goal.walk_expr-returns-in_ok-walk_expr-in-Cond-3
walk_expr-returns-in_ok-walk_expr-in-Cond-3 t c =
    three _ _ _ _ _ _ _ _ _ c.in_ok-walk_expr-in-Cond.ensures c.in_ok-walk_expr-in-Cond-2.ensures c.in_ok-walk_expr-in-Cond-3.ensures (search (rules, the_lemmas))

pub walk_expr-returns-in_ok-walk_exprs-in-Call : goal.walk_expr-returns-in_ok-walk_exprs-in-Call
walk_expr-returns-in_ok-walk_exprs-in-Call t c =
    two _ _ _ _ _ _ _ c.in_ok-walk_expr-in-Call.ensures c.in_ok-walk_exprs-in-Call.ensures (search (rules, the_lemmas))

pub walk_expr-returns-in-Undefined : goal.walk_expr-returns-in-Undefined
walk_expr-returns-in-Undefined t c =
    none _ _ _ (search (rules, the_lemmas))

pub walk_expr-returns-in-Undefined-2 : goal.walk_expr-returns-in-Undefined-2
walk_expr-returns-in-Undefined-2 t c =
    none _ _ _ (search (rules, the_lemmas))

pub walk_expr-returns-in-Undefined-3 : goal.walk_expr-returns-in-Undefined-3
walk_expr-returns-in-Undefined-3 t c =
    none _ _ _ (search (rules, the_lemmas))

pub walk_expr-returns-in-Undefined-4 : goal.walk_expr-returns-in-Undefined-4
walk_expr-returns-in-Undefined-4 t c =
    none _ _ _ (search (rules, the_lemmas))

pub walk_expr-returns-in-Undefined-5 : goal.walk_expr-returns-in-Undefined-5
walk_expr-returns-in-Undefined-5 t c =
    none _ _ _ (search (rules, the_lemmas))

pub walk_expr-returns-in-Undefined-6 : goal.walk_expr-returns-in-Undefined-6
walk_expr-returns-in-Undefined-6 t c =
    none _ _ _ (search (rules, the_lemmas))

pub walk_expr-returns-in-Undefined-7 : goal.walk_expr-returns-in-Undefined-7
walk_expr-returns-in-Undefined-7 t c =
    none _ _ _ (search (rules, the_lemmas))

pub walk_prop-returns-in-Short : goal.walk_prop-returns-in-Short
walk_prop-returns-in-Short t c =
    none _ _ _ (search (rules, the_lemmas))

pub walk_prop-returns-in_ok-walk_expr-in-Computed-2 : goal.walk_prop-returns-in_ok-walk_expr-in-Computed-2
walk_prop-returns-in_ok-walk_expr-in-Computed-2 t c =
    two _ _ _ _ _ _ _ c.in_ok-walk_expr-in-Computed.ensures c.in_ok-walk_expr-in-Computed-2.ensures (search (rules, the_lemmas))

pub walk_stmt-returns-in-Empty : goal.walk_stmt-returns-in-Empty
walk_stmt-returns-in-Empty t c =
    none _ _ _ (search (rules, the_lemmas))

pub walk_stmt-returns-in-Break : goal.walk_stmt-returns-in-Break
walk_stmt-returns-in-Break t c =
    in_loop_required _ _ _ _ c.require.ensures (search (rules, the_lemmas))

pub walk_stmt-returns-in_ok-walk_optional-in-Yield : goal.walk_stmt-returns-in_ok-walk_optional-in-Yield
walk_stmt-returns-in_ok-walk_optional-in-Yield t c =
    three _ _ _ _ _ _ _ _ _ (in_generator_required _ _ _ c.require-in-Yield.ensures) (target_required _ c.in-Yield.target _ _ _ c.is_bound-holds.ensures c.require-in-Yield-2.ensures) c.in_ok-walk_optional-in-Yield.ensures (search (rules, the_lemmas))

pub walk_stmt-returns-in_ok-walk_stmt-in-While : goal.walk_stmt-returns-in_ok-walk_stmt-in-While
walk_stmt-returns-in_ok-walk_stmt-in-While t c =
    two _ _ _ _ _ _ _ c.in_ok-walk_expr-in-While.ensures (turned _ _ _ _ _ c.turn.ensures c.in_ok-walk_stmt-in-While.ensures) (search (rules, the_lemmas))

pub walk_stmt-returns-in_ok-walk_expr-in-DoWhile : goal.walk_stmt-returns-in_ok-walk_expr-in-DoWhile
walk_stmt-returns-in_ok-walk_expr-in-DoWhile t c =
    two _ _ _ _ _ _ _ (turned _ _ _ _ _ c.turn-in-DoWhile.ensures c.in_ok-walk_stmt-in-DoWhile.ensures) c.in_ok-walk_expr-in-DoWhile.ensures (search (rules, the_lemmas))

pub walk_handler-returns-in-None : goal.walk_handler-returns-in-None
walk_handler-returns-in-None t c =
    none _ _ _ (search (rules, the_lemmas))

pub walk_optional-returns-in-None : goal.walk_optional-returns-in-None
walk_optional-returns-in-None t c =
    none _ _ _ (search (rules, the_lemmas))

pub walk_head-returns-in-Nothing : goal.walk_head-returns-in-Nothing
walk_head-returns-in-Nothing t c =
    none _ _ _ (search (rules, the_lemmas))

pub walk_value-returns-in-Nothing : goal.walk_value-returns-in-Nothing
walk_value-returns-in-Nothing t c =
    none _ _ _ (search (rules, the_lemmas))

pub walk_value-returns-in_ok-walk_optional-in-Yield : goal.walk_value-returns-in_ok-walk_optional-in-Yield
walk_value-returns-in_ok-walk_optional-in-Yield t c =
    two _ _ _ _ _ _ _ (in_generator_required _ _ _ c.require.ensures) c.in_ok-walk_optional-in-Yield.ensures (search (rules, the_lemmas))

pub walk_decl-returns : goal.walk_decl-returns
walk_decl-returns t c =
    tested _ _ _ _ _ _ _ _ c.require.ensures c.allows.ensures c.in_ok-walk_value.ensures (search (rules, the_lemmas))

pub walk_expression-returns : goal.walk_expression-returns
walk_expression-returns t c =
    scoped _ (name_list (out-Function c.args.function.now).name) _ _ _ _ _ _ _ c.open_count-open.ensures c.in_ok-bind_name.ensures c.in_ok-walk_function.ensures c.close_to.ensures (search (rules, the_lemmas))

pub walk_block-returns : goal.walk_block-returns
walk_block-returns t c =
    scoped _ (declared_in (map part_of c.args.items.now)) (each (map part_of c.args.items.now)) _ _ _ _ _ _ c.open_count-open.ensures c.in_ok-bind_items.ensures c.in_ok-walk_items.ensures c.close_to.ensures refl

pub walk_catch-returns : goal.walk_catch-returns
walk_catch-returns t c =
    scoped_two _ (name_list (out-CatchPart c.args.part.now).name) (declared_in (map part_of c.as_slice.result.now)) _ _ _ _ _ _ _ _ c.open_count-open.ensures c.in_ok-bind_items.ensures c.in_ok-bind_name.ensures c.in_ok-walk_items.ensures c.close_to.ensures (search (rules, the_lemmas))

pub walk_function-returns : goal.walk_function-returns
walk_function-returns t c =
    in_a_function _ _ _ c.as_slice.result.now (body_of (out-Function c.args.function.now).body).declares _ _ _ _ _ _ _ _ c.function-inside.ensures c.open_count-open.ensures c.in_ok-bind_body.ensures c.in_ok-bind_params.ensures c.in_ok-walk_body.ensures c.close_to.ensures (search (rules, the_lemmas))

pub walk_stmt-returns-in_ok-walk_stmt-in-For : goal.walk_stmt-returns-in_ok-walk_stmt-in-For
walk_stmt-returns-in_ok-walk_stmt-in-For t c =
    let turn : c.get-in-For.result.now ≡ c.in-For.turn = search rules in
    scoped _ (head_of c.in-For.head).declares _ _ _ _ _ _ _ c.open_count-open.ensures c.in_ok-bind_head-in-For.ensures (four _ _ _ _ _ _ _ _ _ _ _ c.in_ok-walk_head-in-For.ensures c.in_ok-walk_optional-in-For.ensures c.in_ok-walk_optional-in-For-2.ensures (turned _ _ _ _ _ c.turn-in-For.ensures c.in_ok-walk_stmt-in-For.ensures) refl) c.close_to.ensures (ap (λ x. (part_of x).check) c.in-For.is ∙ for_check c.in-For.head c.in-For.test c.in-For.update c.in-For.turn
    ∙ ap (λ x. scope (head_of c.in-For.head).declares (both (head_of c.in-For.head).check (both (value_if_there (option_map value_of c.in-For.test)) (both (value_if_there (option_map value_of c.in-For.update)) (λ s. (part_of x).check (in_turn s)))))) (sym turn))

pub walk_stmt-returns-in_ok-walk_stmt-in-ForOf : goal.walk_stmt-returns-in_ok-walk_stmt-in-ForOf
walk_stmt-returns-in_ok-walk_stmt-in-ForOf t c =
    scoped _ (c.in-ForOf.name ∷ []) _ _ _ _ _ _ _ c.open_count-open-in-ForOf.ensures c.in_ok-declare-in-ForOf.ensures (two _ _ _ _ _ _ _ c.in_ok-walk_expr-in-ForOf.ensures (turned _ _ _ _ _ c.turn-in-ForOf.ensures c.in_ok-walk_stmt-in-ForOf.ensures) refl) c.close_to-in-ForOf.ensures (search (rules, the_lemmas))

pub walk_exprs-returns : goal.walk_exprs-returns
walk_exprs-returns t c =
    ends _ (λ es. checks_of (map value_of es)) (λ e. (value_of e).check) refl (λ y ys. refl) c.args.exprs.now c.loop-expr.expr-index _ _ c.loop-expr-test.false c.loop-expr.invariant

pub walk_exprs-loop-expr-preserved : goal.walk_exprs-loop-expr-preserved
walk_exprs-loop-expr-preserved t c =
    goes_on _ (λ es. checks_of (map value_of es)) (λ e. (value_of e).check) refl (λ y ys. refl) c.args.exprs.now c.loop-expr.expr-index c.expr-item.result _ _ _ c.loop-expr-test.true c.expr-item.is c.in_ok-walk_expr.ensures c.loop-expr.invariant

pub walk_props-returns : goal.walk_props-returns
walk_props-returns t c =
    ends _ (λ ps. every (map prop_check ps)) prop_check refl (λ y ys. refl) c.args.props.now c.loop-prop.prop-index _ _ c.loop-prop-test.false c.loop-prop.invariant

pub walk_props-loop-prop-preserved : goal.walk_props-loop-prop-preserved
walk_props-loop-prop-preserved t c =
    goes_on _ (λ ps. every (map prop_check ps)) prop_check refl (λ y ys. refl) c.args.props.now c.loop-prop.prop-index c.prop-item.result _ _ _ c.loop-prop-test.true c.prop-item.is c.in_ok-walk_prop.ensures c.loop-prop.invariant

pub walk_items-returns : goal.walk_items-returns
walk_items-returns t c =
    ends _ (λ is. each (map part_of is)) (λ i. (part_of i).check) refl (λ y ys. refl) c.args.items.now c.loop-item.item-index _ _ c.loop-item-test.false c.loop-item.invariant

pub walk_items-loop-item-preserved : goal.walk_items-loop-item-preserved
walk_items-loop-item-preserved t c =
    goes_on _ (λ is. each (map part_of is)) (λ i. (part_of i).check) refl (λ y ys. refl) c.args.items.now c.loop-item.item-index c.item-item.result _ _ _ c.loop-item-test.true c.item-item.is c.in_ok-walk_stmt.ensures c.loop-item.invariant

pub walk_decls-returns : goal.walk_decls-returns
walk_decls-returns t c =
    ends _ (λ ds. each_given (test_of c.args.form) (map declared_of ds)) (λ d. given_check c.args.form (declared_of d).given) refl (λ y ys. refl) c.args.decls.now c.loop-decl.decl-index _ _ c.loop-decl-test.false c.loop-decl.invariant

pub walk_decls-loop-decl-preserved : goal.walk_decls-loop-decl-preserved
walk_decls-loop-decl-preserved t c =
    goes_on _ (λ ds. each_given (test_of c.args.form) (map declared_of ds)) (λ d. given_check c.args.form (declared_of d).given) refl (λ y ys. refl) c.args.decls.now c.loop-decl.decl-index c.decl-item.result _ _ _ c.loop-decl-test.true c.decl-item.is c.in_ok-walk_decl.ensures c.loop-decl.invariant

pub walk_stmt-returns-in-Continue : goal.walk_stmt-returns-in-Continue
walk_stmt-returns-in-Continue t c =
    in_loop_required _ _ _ _ c.require-in-Continue.ensures (search (rules, the_lemmas))

pub walk_stmt-returns-in_ok-walk_else-in-If : goal.walk_stmt-returns-in_ok-walk_else-in-If
walk_stmt-returns-in_ok-walk_else-in-If t c =
    three _ _ _ _ _ _ _ _ _ c.in_ok-walk_expr-in-If.ensures c.in_ok-walk_stmt-in-If.ensures c.in_ok-walk_else-in-If.ensures (search (rules, the_lemmas))

pub walk_else-returns-in-None : goal.walk_else-returns-in-None
walk_else-returns-in-None t c =
    none _ _ _ (search (rules, the_lemmas))

pub walk_stmt-returns-in-None : goal.walk_stmt-returns-in-None
walk_stmt-returns-in-None t c =
    let items : c.as_slice-in-Try.result.now ≡ c.in-Try.items = search rules in
    let last : c.in-Try.last ≡ None = search rules in
    two_alone _ _ _ _ _ _ _ c.in_ok-walk_block-in-Try.ensures c.in_ok-walk_handler-in-Try.ensures (try_alone _ c.in-Try.items _ c.in-Try.handler c.in-Try.last c.in-Try.is items last)

pub walk_stmt-returns-in_ok-walk_block-in-Some : goal.walk_stmt-returns-in_ok-walk_block-in-Some
walk_stmt-returns-in_ok-walk_block-in-Some t c =
    let items : c.as_slice-in-Try.result.now ≡ c.in-Try.items = search rules in
    let some : c.in-Try.last ≡ Some c.in-Some.last = search rules in
    let last : c.as_slice-in-Some.result.now ≡ c.in-Some.last = search rules in
    two_and_block _ _ _ _ (map part_of c.as_slice-in-Some.result.now) _ _ _ _ c.in_ok-walk_block-in-Try.ensures c.in_ok-walk_handler-in-Try.ensures c.in_ok-walk_block-in-Some.ensures
    (try_and_block _ c.in-Try.items _ c.in-Some.last _ c.in-Try.handler c.in-Try.last c.in-Try.is items some last)
