-- Which cells have early errors.
use Rattle.std.proofs.Common.{◌≡◌, pos, true, false, [], ◌∷◌, Some, None, rules}
use Rattle.std.specs.Prelude.{codes}
use Rattle.ob_base.specs.declared.operators.AssignOp.TheVariants as assign
use Rattle.ob_base.specs.declared.operators.UpdateOp.TheVariants as count
use Rattle.ob_tree_types.specs.declared.tree.Expr.TheVariants as node
use Rattle.ob_tree_types.specs.declared.tree.FnBody.TheVariants as body
use Rattle.ob_tree_types.specs.declared.tree.DeclValue.TheVariants as value
use Rattle.ob_tree_types.specs.declared.tree.ForHead.TheVariants as head
use Rattle.ob_tree_types.specs.declared.tree.Stmt.{the_lemmas}
use Rattle.ob_tree_types.specs.declared.tree.Stmt.TheVariants as stmt
use Rattle.ob_tree_types.specs.declared.cell.CellTree.TheVariants as cell
use Rattle.ob_grammar.specs.Cells.{of_block, of_value}
use Rattle.ob_grammar.specs.Early.{is_free_of_errors, catch_check, nothing_around}
use Rattle.ob_grammar.specs.Yields.{yields, yields_in}

-- { let a = 1; let a = 2 }
two_lets : is_free_of_errors (cell.Bare (of_block ((stmt.Let (record { name = codes "a"; value = value.Nothing } ∷ [])) ∷ (stmt.Let (record { name = codes "a"; value = value.Nothing } ∷ [])) ∷ []))) ≡ false
unfolding is_free_of_errors yields yields_in
two_lets = search (rules, the_lemmas)

-- { let a, a }
two_names_in_a_let : is_free_of_errors (cell.Bare (of_block ((stmt.Let (record { name = codes "a"; value = value.Nothing } ∷ record { name = codes "a"; value = value.Nothing } ∷ [])) ∷ []))) ≡ false
unfolding is_free_of_errors yields yields_in
two_names_in_a_let = search (rules, the_lemmas)

-- { let a; { let a } }
a_block_inside : is_free_of_errors (cell.Bare (of_block ((stmt.Let (record { name = codes "a"; value = value.Nothing } ∷ [])) ∷ (stmt.Block ((stmt.Let (record { name = codes "a"; value = value.Nothing } ∷ [])) ∷ [])) ∷ []))) ≡ true
unfolding is_free_of_errors yields yields_in
a_block_inside = search (rules, the_lemmas)

-- { let f; function f() {} }
a_let_and_a_function : is_free_of_errors (cell.Bare (of_block ((stmt.Let (record { name = codes "f"; value = value.Nothing } ∷ [])) ∷ (stmt.Function (record { name = Some (codes "f"); params = ([]); generator = false; body = body.Items ([]) })) ∷ []))) ≡ false
unfolding is_free_of_errors yields yields_in
a_let_and_a_function = search (rules, the_lemmas)

-- (a, a) => {}
two_params : is_free_of_errors (cell.Bare (of_value (node.Arrow (record { name = None; params = (codes "a" ∷ codes "a" ∷ []); generator = false; body = body.Items ([]) })))) ≡ false
unfolding is_free_of_errors yields yields_in
two_params = search (rules, the_lemmas)

-- a => { let a }
a_param_and_a_let : is_free_of_errors (cell.Bare (of_value (node.Arrow (record { name = None; params = (codes "a" ∷ []); generator = false; body = body.Items ((stmt.Let (record { name = codes "a"; value = value.Nothing } ∷ [])) ∷ []) })))) ≡ false
unfolding is_free_of_errors yields yields_in
a_param_and_a_let = search (rules, the_lemmas)

-- catch (e) { let e }
a_catch_name_and_a_let : catch_check (record { name = Some (codes "e"); items = stmt.Let (record { name = codes "e"; value = value.Nothing } ∷ []) ∷ [] }) nothing_around ≡ false
a_catch_name_and_a_let = search (rules, the_lemmas)

-- { const a }
const_alone : is_free_of_errors (cell.Bare (of_block ((stmt.Const (record { name = codes "a"; value = value.Nothing } ∷ [])) ∷ []))) ≡ false
unfolding is_free_of_errors yields yields_in
const_alone = search (rules, the_lemmas)

-- { const a = 1 }
const_with_a_value : is_free_of_errors (cell.Bare (of_block ((stmt.Const (record { name = codes "a"; value = value.Value (node.Int (pos 1)) } ∷ [])) ∷ []))) ≡ true
unfolding is_free_of_errors yields yields_in
const_with_a_value = search (rules, the_lemmas)

-- { for (const a of b) ; }
const_of : is_free_of_errors (cell.Bare (of_block ((stmt.ForOf true (codes "a") (node.Name (codes "b")) stmt.Empty) ∷ []))) ≡ true
unfolding is_free_of_errors yields yields_in
const_of = search (rules, the_lemmas)

-- { for (const a; ;) ; }
const_in_a_head : is_free_of_errors (cell.Bare (of_block ((stmt.For (head.Const (record { name = codes "a"; value = value.Nothing } ∷ [])) None None stmt.Empty) ∷ []))) ≡ false
unfolding is_free_of_errors yields yields_in
const_in_a_head = search (rules, the_lemmas)

-- { for (let a = yield; ;) ; }
yield_in_a_head : is_free_of_errors (cell.Bare (of_block ((stmt.For (head.Let (record { name = codes "a"; value = value.Yield None } ∷ [])) None None stmt.Empty) ∷ []))) ≡ false
unfolding is_free_of_errors yields yields_in
yield_in_a_head = search (rules, the_lemmas)

-- { let a = yield }
yield_in_a_let : is_free_of_errors (cell.Bare (of_block ((stmt.Let (record { name = codes "a"; value = value.Yield None } ∷ [])) ∷ []))) ≡ true
unfolding is_free_of_errors yields yields_in
yield_in_a_let = search (rules, the_lemmas)

-- { break }
break_outside : is_free_of_errors (cell.Bare (of_block (stmt.Break ∷ []))) ≡ false
unfolding is_free_of_errors yields yields_in
break_outside = search (rules, the_lemmas)

-- { while (b) break }
break_in_a_loop : is_free_of_errors (cell.Bare (of_block ((stmt.While (node.Name (codes "b")) stmt.Break) ∷ []))) ≡ true
unfolding is_free_of_errors yields yields_in
break_in_a_loop = search (rules, the_lemmas)

-- { while (b) (() => { continue }) }
continue_in_a_function : is_free_of_errors (cell.Bare (of_block ((stmt.While (node.Name (codes "b")) (stmt.Expr (node.Arrow (record { name = None; params = ([]); generator = false; body = body.Items (stmt.Continue ∷ []) })))) ∷ []))) ≡ false
unfolding is_free_of_errors yields yields_in
continue_in_a_function = search (rules, the_lemmas)

-- { yield }
yield_in_a_cell : is_free_of_errors (cell.Bare (of_block ((stmt.Yield None None) ∷ []))) ≡ true
unfolding is_free_of_errors yields yields_in
yield_in_a_cell = search (rules, the_lemmas)

-- { (() => { yield }) }
yield_in_an_arrow : is_free_of_errors (cell.Bare (of_block ((stmt.Expr (node.Arrow (record { name = None; params = ([]); generator = false; body = body.Items ((stmt.Yield None None) ∷ []) }))) ∷ []))) ≡ false
unfolding is_free_of_errors yields yields_in
yield_in_an_arrow = search (rules, the_lemmas)

-- { function* g() { yield } }
yield_in_a_generator : is_free_of_errors (cell.Bare (of_block ((stmt.Function (record { name = Some (codes "g"); params = ([]); generator = true; body = body.Items ((stmt.Yield None None) ∷ []) })) ∷ []))) ≡ true
unfolding is_free_of_errors yields yields_in
yield_in_a_generator = search (rules, the_lemmas)

-- { a = yield }
yield_to_a_free_name : is_free_of_errors (cell.Bare (of_block ((stmt.Yield (Some (codes "a")) None) ∷ []))) ≡ false
unfolding is_free_of_errors yields yields_in
yield_to_a_free_name = search (rules, the_lemmas)

-- { let a; a = yield }
yield_to_a_bound_name : is_free_of_errors (cell.Bare (of_block ((stmt.Let (record { name = codes "a"; value = value.Nothing } ∷ [])) ∷ (stmt.Yield (Some (codes "a")) None) ∷ []))) ≡ true
unfolding is_free_of_errors yields yields_in
yield_to_a_bound_name = search (rules, the_lemmas)

-- a = 1
assigned_free : is_free_of_errors (cell.Bare (of_value (node.Assign assign.Set (node.Name (codes "a")) (node.Int (pos 1))))) ≡ false
unfolding is_free_of_errors yields yields_in
assigned_free = search (rules, the_lemmas)

-- { let a; (() => { a++ }) }
counted_in_a_function : is_free_of_errors (cell.Bare (of_block ((stmt.Let (record { name = codes "a"; value = value.Nothing } ∷ [])) ∷ (stmt.Expr (node.Arrow (record { name = None; params = ([]); generator = false; body = body.Items ((stmt.Expr (node.Update count.Up false (node.Name (codes "a")))) ∷ []) }))) ∷ []))) ≡ true
unfolding is_free_of_errors yields yields_in
counted_in_a_function = search (rules, the_lemmas)

-- { { let a } a++ }
counted_outside : is_free_of_errors (cell.Bare (of_block ((stmt.Block ((stmt.Let (record { name = codes "a"; value = value.Nothing } ∷ [])) ∷ [])) ∷ (stmt.Expr (node.Update count.Up false (node.Name (codes "a")))) ∷ []))) ≡ false
unfolding is_free_of_errors yields yields_in
counted_outside = search (rules, the_lemmas)

-- a = { a = 1 }
own_cell_name : is_free_of_errors (cell.Named (codes "a") (of_block ((stmt.Expr (node.Assign assign.Set (node.Name (codes "a")) (node.Int (pos 1)))) ∷ []))) ≡ false
unfolding is_free_of_errors yields yields_in
own_cell_name = search (rules, the_lemmas)

-- function f() { f = 1 }
own_function_name : is_free_of_errors (cell.Function (record { name = Some (codes "f"); params = ([]); generator = false; body = body.Items ((stmt.Expr (node.Assign assign.Set (node.Name (codes "f")) (node.Int (pos 1)))) ∷ []) })) ≡ true
unfolding is_free_of_errors yields yields_in
own_function_name = search (rules, the_lemmas)

-- { for (let a of b) a++ }
counted_of : is_free_of_errors (cell.Bare (of_block ((stmt.ForOf false (codes "a") (node.Name (codes "b")) (stmt.Expr (node.Update count.Up false (node.Name (codes "a"))))) ∷ []))) ≡ true
unfolding is_free_of_errors yields yields_in
counted_of = search (rules, the_lemmas)
