use Rattle.std.proofs.Common.{rules, refl, ap, []}
use Rattle.ob_tree_types.specs.declared.tree.Stmt.{the_lemmas}
use Rattle.ob_tree.specs.Print.{expr_tokens, prop_tokens, stmt_tokens, decl_tokens}
use Rattle.ob_tree.proofs.Folds.{array_tokens, call_tokens, new_tokens}
use Rattle.ob_tree.proofs.Spacing.{nothing, two, three, four, five, six, goes_on, ends, separated_more, separated_end, joined_more, joined_end}
use Rattle.ob_tree.proofs.printing.+print.Goals as goal

pub write_arguments-returns : goal.write_arguments-returns
write_arguments-returns t c =
    three _ _ _ _ _ _ _ _ c.in_ok-put_mark.ensures c.in_ok-write_exprs.ensures c.in_ok-put_mark-2.ensures (search (rules, the_lemmas))

pub write_arrow-returns : goal.write_arrow-returns
write_arrow-returns t c =
    three _ _ _ _ _ _ _ _ c.in_ok-write_params.ensures c.in_ok-put_mark.ensures c.in_ok-write_body.ensures (search (rules, the_lemmas))

pub write_block-returns : goal.write_block-returns
write_block-returns t c =
    three _ _ _ _ _ _ _ _ c.in_ok-put_mark.ensures c.in_ok-write_stmts.ensures c.in_ok-put_mark-2.ensures (search (rules, the_lemmas))

pub write_catch-returns : goal.write_catch-returns
write_catch-returns t c =
    three _ _ _ _ _ _ _ _ c.in_ok-put_word.ensures c.in_ok-put_catch_name.ensures c.in_ok-write_block.ensures (search (rules, the_lemmas))

pub write_decl-returns : goal.write_decl-returns
write_decl-returns t c =
    two _ _ _ _ _ _ c.in_ok-put_name.ensures c.in_ok-write_value.ensures (search (rules, the_lemmas))

pub write_declared-returns : goal.write_declared-returns
write_declared-returns t c =
    four _ _ _ _ _ _ _ _ _ _ c.in_ok-put_star.ensures c.in_ok-put_optional_name.ensures c.in_ok-write_params.ensures c.in_ok-write_body.ensures (search (rules, the_lemmas))

pub write_decls-loop-place-preserved : goal.write_decls-loop-place-preserved
write_decls-loop-place-preserved t c =
    goes_on _ _ _ _ _ _ (two _ _ _ _ _ _ c.in_ok-put_comma.ensures c.in_ok-write_decl.ensures refl) c.loop-place.invariant (separated_more decl_tokens c.args.decls.now c.loop-place.place c.index-decls-place.result c.index-decls-place.is c.loop-place-test.true)

pub write_decls-returns : goal.write_decls-returns
write_decls-returns t c = ends _ _ _ c.loop-place.invariant (separated_end decl_tokens c.args.decls.now c.loop-place.place c.loop-place-test.false)

pub write_enclosed-returns : goal.write_enclosed-returns
write_enclosed-returns t c =
    three _ _ _ _ _ _ _ _ c.in_ok-put_mark.ensures c.in_ok-write_expr.ensures c.in_ok-put_mark-2.ensures (search (rules, the_lemmas))

pub write_expr-returns-in_ok-put_mark-in-Array-2 : goal.write_expr-returns-in_ok-put_mark-in-Array-2
write_expr-returns-in_ok-put_mark-in-Array-2 t c =
    three _ _ _ _ _ _ _ _ c.in_ok-put_mark-in-Array.ensures c.in_ok-write_exprs-in-Array.ensures c.in_ok-put_mark-in-Array-2.ensures (cc (ap expr_tokens c.in-Array.is, array_tokens c.in-Array.items))

pub write_expr-returns-in_ok-put_mark-in-Index-2 : goal.write_expr-returns-in_ok-put_mark-in-Index-2
write_expr-returns-in_ok-put_mark-in-Index-2 t c =
    four _ _ _ _ _ _ _ _ _ _ c.in_ok-write_operand-in-Index.ensures c.in_ok-put_mark-in-Index.ensures c.in_ok-write_expr-in-Index.ensures c.in_ok-put_mark-in-Index-2.ensures (search (rules, the_lemmas))

pub write_expr-returns-in_ok-put_mark-in-Object-2 : goal.write_expr-returns-in_ok-put_mark-in-Object-2
write_expr-returns-in_ok-put_mark-in-Object-2 t c =
    three _ _ _ _ _ _ _ _ c.in_ok-put_mark-in-Object.ensures c.in_ok-write_props-in-Object.ensures c.in_ok-put_mark-in-Object-2.ensures (search (rules, the_lemmas))

pub write_expr-returns-in_ok-put_mark-in-Update-default-false-default : goal.write_expr-returns-in_ok-put_mark-in-Update-default-false-default
write_expr-returns-in_ok-put_mark-in-Update-default-false-default t c =
    two _ _ _ _ _ _ c.in_ok-write_operand-in-Update-default-false-default.ensures c.in_ok-put_mark-in-Update-default-false-default.ensures (search (rules, the_lemmas))

pub write_expr-returns-in_ok-put_name-in-Member : goal.write_expr-returns-in_ok-put_name-in-Member
write_expr-returns-in_ok-put_name-in-Member t c =
    three _ _ _ _ _ _ _ _ c.in_ok-write_operand-in-Member.ensures c.in_ok-put_mark-in-Member.ensures c.in_ok-put_name-in-Member.ensures (search (rules, the_lemmas))

pub write_expr-returns-in_ok-put_name-in-ViewofName : goal.write_expr-returns-in_ok-put_name-in-ViewofName
write_expr-returns-in_ok-put_name-in-ViewofName t c =
    two _ _ _ _ _ _ c.in_ok-put_word-in-ViewofName.ensures c.in_ok-put_name-in-ViewofName.ensures (search (rules, the_lemmas))

pub write_expr-returns-in_ok-write_arguments-in-Call : goal.write_expr-returns-in_ok-write_arguments-in-Call
write_expr-returns-in_ok-write_arguments-in-Call t c =
    two _ _ _ _ _ _ c.in_ok-write_operand-in-Call.ensures c.in_ok-write_arguments-in-Call.ensures (cc (ap expr_tokens c.in-Call.is, call_tokens c.in-Call.callee c.in-Call.arguments))

pub write_expr-returns-in_ok-write_arguments-in-New : goal.write_expr-returns-in_ok-write_arguments-in-New
write_expr-returns-in_ok-write_arguments-in-New t c =
    three _ _ _ _ _ _ _ _ c.in_ok-put_word-in-New.ensures c.in_ok-put_name-in-New.ensures c.in_ok-write_arguments-in-New.ensures (cc (ap expr_tokens c.in-New.is, new_tokens c.in-New.name c.in-New.arguments))

pub write_expr-returns-in_ok-write_declared-in-Function : goal.write_expr-returns-in_ok-write_declared-in-Function
write_expr-returns-in_ok-write_declared-in-Function t c =
    two _ _ _ _ _ _ c.in_ok-put_word-in-Function.ensures c.in_ok-write_declared-in-Function.ensures (search (rules, the_lemmas))

pub write_expr-returns-in_ok-write_operand-in-Assign-2 : goal.write_expr-returns-in_ok-write_operand-in-Assign-2
write_expr-returns-in_ok-write_operand-in-Assign-2 t c =
    three _ _ _ _ _ _ _ _ c.in_ok-write_operand-in-Assign.ensures c.in_ok-put_mark-in-Assign.ensures c.in_ok-write_operand-in-Assign-2.ensures (search (rules, the_lemmas))

pub write_expr-returns-in_ok-write_operand-in-Binary-2 : goal.write_expr-returns-in_ok-write_operand-in-Binary-2
write_expr-returns-in_ok-write_operand-in-Binary-2 t c =
    three _ _ _ _ _ _ _ _ c.in_ok-write_operand-in-Binary.ensures c.in_ok-put_mark-in-Binary.ensures c.in_ok-write_operand-in-Binary-2.ensures (search (rules, the_lemmas))

pub write_expr-returns-in_ok-write_operand-in-Compare-2 : goal.write_expr-returns-in_ok-write_operand-in-Compare-2
write_expr-returns-in_ok-write_operand-in-Compare-2 t c =
    three _ _ _ _ _ _ _ _ c.in_ok-write_operand-in-Compare.ensures c.in_ok-put_mark-in-Compare.ensures c.in_ok-write_operand-in-Compare-2.ensures (search (rules, the_lemmas))

pub write_expr-returns-in_ok-write_operand-in-Cond-3 : goal.write_expr-returns-in_ok-write_operand-in-Cond-3
write_expr-returns-in_ok-write_operand-in-Cond-3 t c =
    five _ _ _ _ _ _ _ _ _ _ _ _ c.in_ok-write_operand-in-Cond.ensures c.in_ok-put_mark-in-Cond.ensures c.in_ok-write_operand-in-Cond-2.ensures c.in_ok-put_mark-in-Cond-2.ensures c.in_ok-write_operand-in-Cond-3.ensures (search (rules, the_lemmas))

pub write_expr-returns-in_ok-write_operand-in-Logic-2 : goal.write_expr-returns-in_ok-write_operand-in-Logic-2
write_expr-returns-in_ok-write_operand-in-Logic-2 t c =
    three _ _ _ _ _ _ _ _ c.in_ok-write_operand-in-Logic.ensures c.in_ok-put_mark-in-Logic.ensures c.in_ok-write_operand-in-Logic-2.ensures (search (rules, the_lemmas))

pub write_expr-returns-in_ok-write_operand-in-Unary : goal.write_expr-returns-in_ok-write_operand-in-Unary
write_expr-returns-in_ok-write_operand-in-Unary t c =
    two _ _ _ _ _ _ c.in_ok-put_unary-in-Unary.ensures c.in_ok-write_operand-in-Unary.ensures (search (rules, the_lemmas))

pub write_expr-returns-in_ok-write_operand-in-Update-default-true-default : goal.write_expr-returns-in_ok-write_operand-in-Update-default-true-default
write_expr-returns-in_ok-write_operand-in-Update-default-true-default t c =
    two _ _ _ _ _ _ c.in_ok-put_mark-in-Update-default-true-default.ensures c.in_ok-write_operand-in-Update-default-true-default.ensures (search (rules, the_lemmas))

pub write_exprs-loop-place-preserved : goal.write_exprs-loop-place-preserved
write_exprs-loop-place-preserved t c =
    goes_on _ _ _ _ _ _ (two _ _ _ _ _ _ c.in_ok-put_comma.ensures c.in_ok-write_expr.ensures refl) c.loop-place.invariant (separated_more expr_tokens c.args.exprs.now c.loop-place.place c.index-exprs-place.result c.index-exprs-place.is c.loop-place-test.true)

pub write_exprs-returns : goal.write_exprs-returns
write_exprs-returns t c = ends _ _ _ c.loop-place.invariant (separated_end expr_tokens c.args.exprs.now c.loop-place.place c.loop-place-test.false)

pub write_given-returns-in-None : goal.write_given-returns-in-None
write_given-returns-in-None t c = nothing _ _ (search (rules, the_lemmas))

pub write_handler-returns-in-None : goal.write_handler-returns-in-None
write_handler-returns-in-None t c = nothing _ _ (search (rules, the_lemmas))

pub write_head-returns-in-Nothing : goal.write_head-returns-in-Nothing
write_head-returns-in-Nothing t c = nothing _ _ (search (rules, the_lemmas))

pub write_head-returns-in_ok-write_decls-in-Const : goal.write_head-returns-in_ok-write_decls-in-Const
write_head-returns-in_ok-write_decls-in-Const t c =
    two _ _ _ _ _ _ c.in_ok-put_word-in-Const.ensures c.in_ok-write_decls-in-Const.ensures (search (rules, the_lemmas))

pub write_head-returns-in_ok-write_decls-in-Let : goal.write_head-returns-in_ok-write_decls-in-Let
write_head-returns-in_ok-write_decls-in-Let t c =
    two _ _ _ _ _ _ c.in_ok-put_word-in-Let.ensures c.in_ok-write_decls-in-Let.ensures (search (rules, the_lemmas))

pub write_prop-returns-in_ok-write_expr-in-Computed-2 : goal.write_prop-returns-in_ok-write_expr-in-Computed-2
write_prop-returns-in_ok-write_expr-in-Computed-2 t c =
    three _ _ _ _ _ _ _ _ (three _ _ _ _ _ _ _ _ c.in_ok-put_mark-in-Computed.ensures c.in_ok-write_expr-in-Computed.ensures c.in_ok-put_mark-in-Computed-2.ensures refl) c.in_ok-put_mark-in-Computed-3.ensures c.in_ok-write_expr-in-Computed-2.ensures (search (rules, the_lemmas))

pub write_prop-returns-in_ok-write_expr-in-Fixed : goal.write_prop-returns-in_ok-write_expr-in-Fixed
write_prop-returns-in_ok-write_expr-in-Fixed t c =
    three _ _ _ _ _ _ _ _ c.in_ok-put_key-in-Fixed.ensures c.in_ok-put_mark-in-Fixed.ensures c.in_ok-write_expr-in-Fixed.ensures (search (rules, the_lemmas))

pub write_props-loop-place-preserved : goal.write_props-loop-place-preserved
write_props-loop-place-preserved t c =
    goes_on _ _ _ _ _ _ (two _ _ _ _ _ _ c.in_ok-put_comma.ensures c.in_ok-write_prop.ensures refl) c.loop-place.invariant (separated_more prop_tokens c.args.props.now c.loop-place.place c.index-props-place.result c.index-props-place.is c.loop-place-test.true)

pub write_props-returns : goal.write_props-returns
write_props-returns t c = ends _ _ _ c.loop-place.invariant (separated_end prop_tokens c.args.props.now c.loop-place.place c.loop-place-test.false)

pub write_stmt-returns-in-None : goal.write_stmt-returns-in-None
write_stmt-returns-in-None t c =
    four _ _ _ _ _ _ _ _ _ _ c.in_ok-put_word-in-If.ensures c.in_ok-write_enclosed-in-If.ensures c.in_ok-write_stmt-in-If.ensures (nothing _ [] refl) (search (rules, the_lemmas))

pub write_stmt-returns-in-None-last : goal.write_stmt-returns-in-None-last
write_stmt-returns-in-None-last t c =
    four _ _ _ _ _ _ _ _ _ _ c.in_ok-put_word-in-Try.ensures c.in_ok-write_block-in-Try.ensures c.in_ok-write_handler-in-Try.ensures (nothing _ [] refl) (search (rules, the_lemmas))

pub write_stmt-returns-in_ok-put_mark-in-Break : goal.write_stmt-returns-in_ok-put_mark-in-Break
write_stmt-returns-in_ok-put_mark-in-Break t c =
    two _ _ _ _ _ _ c.in_ok-put_word-in-Break.ensures c.in_ok-put_mark-in-Break.ensures (search (rules, the_lemmas))

pub write_stmt-returns-in_ok-put_mark-in-Change-2 : goal.write_stmt-returns-in_ok-put_mark-in-Change-2
write_stmt-returns-in_ok-put_mark-in-Change-2 t c =
    five _ _ _ _ _ _ _ _ _ _ _ _ c.in_ok-put_word-in-Change.ensures c.in_ok-put_name-in-Change.ensures c.in_ok-put_mark-in-Change.ensures c.in_ok-write_given-in-Change.ensures c.in_ok-put_mark-in-Change-2.ensures (search (rules, the_lemmas))

pub write_stmt-returns-in_ok-put_mark-in-Const : goal.write_stmt-returns-in_ok-put_mark-in-Const
write_stmt-returns-in_ok-put_mark-in-Const t c =
    three _ _ _ _ _ _ _ _ c.in_ok-put_word-in-Const.ensures c.in_ok-write_decls-in-Const.ensures c.in_ok-put_mark-in-Const.ensures (search (rules, the_lemmas))

pub write_stmt-returns-in_ok-put_mark-in-Continue : goal.write_stmt-returns-in_ok-put_mark-in-Continue
write_stmt-returns-in_ok-put_mark-in-Continue t c =
    two _ _ _ _ _ _ c.in_ok-put_word-in-Continue.ensures c.in_ok-put_mark-in-Continue.ensures (search (rules, the_lemmas))

pub write_stmt-returns-in_ok-put_mark-in-DoWhile : goal.write_stmt-returns-in_ok-put_mark-in-DoWhile
write_stmt-returns-in_ok-put_mark-in-DoWhile t c =
    two _ _ _ _ _ _ (four _ _ _ _ _ _ _ _ _ _ c.in_ok-put_word-in-DoWhile.ensures c.in_ok-write_stmt-in-DoWhile.ensures c.in_ok-put_word-in-DoWhile-2.ensures c.in_ok-write_enclosed-in-DoWhile.ensures refl) c.in_ok-put_mark-in-DoWhile.ensures (search (rules, the_lemmas))

pub write_stmt-returns-in_ok-put_mark-in-Expr : goal.write_stmt-returns-in_ok-put_mark-in-Expr
write_stmt-returns-in_ok-put_mark-in-Expr t c =
    two _ _ _ _ _ _ c.in_ok-write_enclosed-in-Expr.ensures c.in_ok-put_mark-in-Expr.ensures (search (rules, the_lemmas))

pub write_stmt-returns-in_ok-put_mark-in-Let : goal.write_stmt-returns-in_ok-put_mark-in-Let
write_stmt-returns-in_ok-put_mark-in-Let t c =
    three _ _ _ _ _ _ _ _ c.in_ok-put_word-in-Let.ensures c.in_ok-write_decls-in-Let.ensures c.in_ok-put_mark-in-Let.ensures (search (rules, the_lemmas))

pub write_stmt-returns-in_ok-put_mark-in-Return : goal.write_stmt-returns-in_ok-put_mark-in-Return
write_stmt-returns-in_ok-put_mark-in-Return t c =
    three _ _ _ _ _ _ _ _ c.in_ok-put_word-in-Return.ensures c.in_ok-write_given-in-Return.ensures c.in_ok-put_mark-in-Return.ensures (search (rules, the_lemmas))

pub write_stmt-returns-in_ok-put_mark-in-Throw : goal.write_stmt-returns-in_ok-put_mark-in-Throw
write_stmt-returns-in_ok-put_mark-in-Throw t c =
    three _ _ _ _ _ _ _ _ c.in_ok-put_word-in-Throw.ensures c.in_ok-write_expr-in-Throw.ensures c.in_ok-put_mark-in-Throw.ensures (search (rules, the_lemmas))

pub write_stmt-returns-in_ok-put_mark-in-Yield : goal.write_stmt-returns-in_ok-put_mark-in-Yield
write_stmt-returns-in_ok-put_mark-in-Yield t c =
    four _ _ _ _ _ _ _ _ _ _ c.in_ok-put_target-in-Yield.ensures c.in_ok-put_word-in-Yield.ensures c.in_ok-write_given-in-Yield.ensures c.in_ok-put_mark-in-Yield.ensures (search (rules, the_lemmas))

pub write_stmt-returns-in_ok-write_block-in-Some-last : goal.write_stmt-returns-in_ok-write_block-in-Some-last
write_stmt-returns-in_ok-write_block-in-Some-last t c =
    five _ _ _ _ _ _ _ _ _ _ _ _ c.in_ok-put_word-in-Try.ensures c.in_ok-write_block-in-Try.ensures c.in_ok-write_handler-in-Try.ensures c.in_ok-put_word-in-Some-last.ensures c.in_ok-write_block-in-Some-last.ensures (search (rules, the_lemmas))

pub write_stmt-returns-in_ok-write_declared-in-Function : goal.write_stmt-returns-in_ok-write_declared-in-Function
write_stmt-returns-in_ok-write_declared-in-Function t c =
    two _ _ _ _ _ _ c.in_ok-put_word-in-Function.ensures c.in_ok-write_declared-in-Function.ensures (search (rules, the_lemmas))

pub write_stmt-returns-in_ok-write_stmt-in-For : goal.write_stmt-returns-in_ok-write_stmt-in-For
write_stmt-returns-in_ok-write_stmt-in-For t c =
    three _ _ _ _ _ _ _ _ c.in_ok-put_word-in-For.ensures (three _ _ _ _ _ _ _ _ c.in_ok-put_mark-in-For.ensures (five _ _ _ _ _ _ _ _ _ _ _ _ c.in_ok-write_head-in-For.ensures c.in_ok-put_mark-in-For-2.ensures c.in_ok-write_given-in-For.ensures c.in_ok-put_mark-in-For-3.ensures c.in_ok-write_given-in-For-2.ensures refl) c.in_ok-put_mark-in-For-4.ensures refl) c.in_ok-write_stmt-in-For.ensures (search (rules, the_lemmas))

pub write_stmt-returns-in_ok-write_stmt-in-ForOf : goal.write_stmt-returns-in_ok-write_stmt-in-ForOf
write_stmt-returns-in_ok-write_stmt-in-ForOf t c =
    three _ _ _ _ _ _ _ _ c.in_ok-put_word-in-ForOf.ensures (six _ _ _ _ _ _ _ _ _ _ _ _ _ _ c.in_ok-put_mark-in-ForOf.ensures c.in_ok-put_declaring-in-ForOf.ensures c.in_ok-put_name-in-ForOf.ensures c.in_ok-put_word-in-ForOf-2.ensures c.in_ok-write_expr-in-ForOf.ensures c.in_ok-put_mark-in-ForOf-2.ensures refl) c.in_ok-write_stmt-in-ForOf.ensures (search (rules, the_lemmas))

pub write_stmt-returns-in_ok-write_stmt-in-Some : goal.write_stmt-returns-in_ok-write_stmt-in-Some
write_stmt-returns-in_ok-write_stmt-in-Some t c =
    five _ _ _ _ _ _ _ _ _ _ _ _ c.in_ok-put_word-in-If.ensures c.in_ok-write_enclosed-in-If.ensures c.in_ok-write_stmt-in-If.ensures c.in_ok-put_word-in-Some.ensures c.in_ok-write_stmt-in-Some.ensures (search (rules, the_lemmas))

pub write_stmt-returns-in_ok-write_stmt-in-While : goal.write_stmt-returns-in_ok-write_stmt-in-While
write_stmt-returns-in_ok-write_stmt-in-While t c =
    three _ _ _ _ _ _ _ _ c.in_ok-put_word-in-While.ensures c.in_ok-write_enclosed-in-While.ensures c.in_ok-write_stmt-in-While.ensures (search (rules, the_lemmas))

pub write_stmts-loop-stmt-preserved : goal.write_stmts-loop-stmt-preserved
write_stmts-loop-stmt-preserved t c =
    goes_on _ _ _ _ _ _ c.in_ok-write_stmt.ensures c.loop-stmt.invariant (joined_more stmt_tokens c.args.stmts.now c.loop-stmt.stmt-index c.stmt-item.result c.stmt-item.is c.loop-stmt-test.true)

pub write_stmts-returns : goal.write_stmts-returns
write_stmts-returns t c = ends _ _ _ c.loop-stmt.invariant (joined_end stmt_tokens c.args.stmts.now c.loop-stmt.stmt-index c.loop-stmt-test.false)

pub write_value-returns-in-Nothing : goal.write_value-returns-in-Nothing
write_value-returns-in-Nothing t c = nothing _ _ (search (rules, the_lemmas))

pub write_value-returns-in_ok-write_expr-in-Value : goal.write_value-returns-in_ok-write_expr-in-Value
write_value-returns-in_ok-write_expr-in-Value t c =
    two _ _ _ _ _ _ c.in_ok-put_mark-in-Value.ensures c.in_ok-write_expr-in-Value.ensures (search (rules, the_lemmas))

pub write_value-returns-in_ok-write_given-in-Yield : goal.write_value-returns-in_ok-write_given-in-Yield
write_value-returns-in_ok-write_given-in-Yield t c =
    three _ _ _ _ _ _ _ _ c.in_ok-put_mark-in-Yield.ensures c.in_ok-put_word-in-Yield.ensures c.in_ok-write_given-in-Yield.ensures (search (rules, the_lemmas))
