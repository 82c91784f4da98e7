-- A tree that a turn of a loop makes is a part of the tree of the derivation, and so no deeper.
use Rattle.std.proofs.Common.{ℕ, ◌≤◌, true, false, List, [], Option, Some, None, map, arith}
use Rattle.ob_base.specs.declared.operators.BinaryOp.TheVariants as binary
use Rattle.ob_lex.specs.declared.punctuator.Punctuator.{Punctuator}
use Rattle.ob_lex.specs.declared.token.Token.{Token}
use Rattle.ob_tree_types.specs.declared.tree.Expr.{Expr}
use Rattle.ob_tree_types.specs.declared.tree.PropNode.{PropNode}
use Rattle.ob_tree_types.specs.declared.tree.Function.{Function}
use Rattle.ob_tree_types.specs.declared.tree.FnBody.{FnBody}
use Rattle.ob_tree_types.specs.declared.tree.FnBody.TheVariants as body
use Rattle.ob_tree_types.specs.declared.tree.Decl.{Decl}
use Rattle.ob_tree_types.specs.declared.tree.DeclValue.TheVariants as value
use Rattle.ob_tree_types.specs.declared.tree.Stmt.{Stmt}
use Rattle.ob_tree_types.specs.declared.tree.ForHead.{ForHead}
use Rattle.ob_tree_types.specs.declared.tree.CatchPart.{CatchPart}
use Rattle.ob_tree.specs.Depth.{deepest, expr_depth, prop_depth, stmt_depth, body_depth, head_depth, catch_depth, decl_depth, function_depth}
use Rattle.ob_grammar.specs.declared.form.Form.{Form}
use Rattle.ob_grammar.specs.Grammar.{Rule, arrow_function, Reads, Continues, Steps, ReadsList, ReadsProps, ReadsProp, ReadsArrowBody, ReadsFunction, ReadsBlock, ReadsItems, ReadsItem, ReadsDecls, ReadsDecl, ReadsYield, ReadsStmt, ReadsTest, ReadsHead, ReadsOptional, ReadsCatch}
use Rattle.ob_grammar.specs.Grammar.{arrow, assigned, unassigned, chosen, unchosen, disjoined, coalesced, operands, unraised, raised, signed, unsigned, counted_before, counted_behind, uncounted, steps, literal, name, viewof_name, made, parentheses, array, object, function_expression, no_more, goes_on, no_step, member, index, call, no_item, last_item, more_list, no_prop, last_prop, more_props, short_prop, fixed_prop, computed_prop, block_body, value_body, function, block, no_items, more_items, statement, let_item, const_item, function_item, last_decl, more_decls, decl_name, decl_value, decl_yield, yield_alone, yield_value, block_statement, empty, expression, yielded, yield_assigned, changed, stepped, if_alone, if_else, while_loop, do_loop, do_loop_ended, for_loop, for_of, break, continue, return_alone, return_value, throw, try_catch, test, no_head, let_head, const_head, expr_head, absent, present, catch_all, catch_name}
use Rattle.ob_grammar.specs.Cells.{ReadsBody, of_block}
use Rattle.ob_grammar.specs.Cells as cells
use Rattle.ob_grammar.proofs.Depths.{array_depth, object_depth, made_depth, function_expression_depth, arrow_depth, unary_depth, binary_depth, joined_depth, cond_depth, assign_depth, update_depth, member_depth, index_depth, call_depth, fixed_depth, computed_depth, function_of_depth, items_depth, body_value_depth, decl_value_depth, value_value_depth, optional_depth, value_yield_depth, block_depth, expression_depth, let_depth, const_depth, function_item_depth, yield_depth, change_depth, if_alone_depth, if_else_depth, while_depth, do_depth, for_depth, for_of_depth, return_depth, throw_depth, try_depth, catch_part_depth, let_head_depth, const_head_depth, expr_head_depth}
use Rattle.ob_grammar.proofs.Tall.{tall, tall_continues, tall_steps, tall_list, tall_props, tall_prop, tall_arrow_body, tall_function, tall_block, tall_items, tall_item, tall_decls, tall_decl, tall_yield, tall_stmt, tall_test, tall_head, tall_optional, tall_catch}
use Rattle.ob_grammar.proofs.Statements.{CellsBuildWithin, tall_body}

mutual
  built : {r : Rule} {ts : List Token} {a : Expr} {f : Form} {rest : List Token} (read : Reads r ts a f rest) → tall read ≤ expr_depth a
  built (arrow ts mid rest t xs b f h1 h2 h3 d1) = omega (arith, arrow_depth (arrow_function xs b), function_of_depth None xs false b, built_arrow_body d1)
  built (assigned ts mid rest t op a b f d1 h1 d2) = omega (arith, assign_depth op a b, built d1, built d2)
  built (unassigned ts rest a f d1) = built d1
  built (chosen ts first second rest q c a b d f g h d1 h1 d2 h2 d3) = omega (arith, cond_depth a b d, built d1, built d2, built d3)
  built (unchosen ts rest a f d1) = built d1
  built (disjoined ts rest a f d1) = built d1
  built (coalesced ts mid rest first a f g d1 d2) = let q = built_continues d2 in omega (arith, built d1, q.0, q.1)
  built (operands k ts mid rest first a f g d1 d2) = let q = built_continues d2 in omega (arith, built d1, q.0, q.1)
  built (unraised ts rest a f d1) = built d1
  built (raised ts mid rest t a b f g d1 h1 d2) = omega (arith, binary_depth binary.Pow a b, built d1, built d2)
  built (signed t ts rest op a f h1 d1) = omega (arith, unary_depth op a, built d1)
  built (unsigned ts rest a f d1) = built d1
  built (counted_before t ts rest op a h1 d1) = omega (arith, update_depth op true a, built d1)
  built (counted_behind ts rest t op a d1 h1 h2) = omega (arith, update_depth op false a, built d1)
  built (uncounted ts rest a f d1) = built d1
  built (steps ts mid rest first a f g d1 d2) = let q = built_steps d2 in omega (arith, built d1, q.0, q.1)
  built (literal t ts a h1) = omega arith
  built (name t ts x h1) = omega arith
  built (viewof_name t n ts x h1 h2) = omega arith
  built (made t n p ts rest x args h1 h2 h3 d1) = omega (arith, made_depth x args, built_list d1)
  built (parentheses t c ts rest a f h1 d1 h2) = omega (arith, built d1)
  built (array t ts rest items h1 d1) = omega (arith, array_depth items, built_list d1)
  built (object t ts rest props h1 d1) = omega (arith, object_depth props, built_props d1)
  built (function_expression ts rest g d1) = omega (arith, function_expression_depth g, built_function d1)

  built_continues : {r : Rule} {n : ℕ} {a : Expr} {f : Form} {ts : List Token} {b : Expr} {g : Form} {rest : List Token} (read : Continues r n a f ts b g rest) → (tall_continues read ≤ expr_depth b) × (expr_depth a ≤ expr_depth b)
  built_continues (no_more r n a f ts) = (omega arith, omega arith)
  built_continues (goes_on r n a b c f g h t ts mid rest op h1 h2 d1 d2) =
      let q = built_continues d2 in (omega (arith, joined_depth op a b, built d1, q.0, q.1), omega (arith, joined_depth op a b, q.1))

  built_steps : {a : Expr} {f : Form} {ts : List Token} {b : Expr} {g : Form} {rest : List Token} (read : Steps a f ts b g rest) → (tall_steps read ≤ expr_depth b) × (expr_depth a ≤ expr_depth b)
  built_steps (no_step a f ts) = (omega arith, omega arith)
  built_steps (member a b f g t n x ts rest h1 h2 d1) = let q = built_steps d1 in (omega (arith, member_depth a x, q.0, q.1), omega (arith, member_depth a x, q.1))
  built_steps (index a b k f g h t c ts mid rest h1 d1 h2 d2) = let q = built_steps d2 in (omega (arith, index_depth a k, built d1, q.0, q.1), omega (arith, index_depth a k, q.1))
  built_steps (call a b f g t args ts mid rest h1 d1 d2) =
      let q = built_steps d2 in (omega (arith, call_depth a args, built_list d1, q.0, q.1), omega (arith, call_depth a args, q.1))

  built_list : {close : Punctuator} {ts : List Token} {items : List Expr} {rest : List Token} (read : ReadsList close ts items rest) → tall_list read ≤ deepest (map expr_depth items)
  built_list (no_item close t ts h1) = omega arith
  built_list (last_item close c ts rest a f d1 h1) = omega (arith, built d1)
  built_list (more_list close c ts mid rest a f items d1 h1 d2) = omega (arith, built d1, built_list d2)

  built_props : {ts : List Token} {props : List PropNode} {rest : List Token} (read : ReadsProps ts props rest) → tall_props read ≤ deepest (map prop_depth props)
  built_props (no_prop t ts h1) = omega arith
  built_props (last_prop c ts rest p d1 h1) = omega (arith, built_prop d1)
  built_props (more_props c ts mid rest p ps d1 h1 d2) = omega (arith, built_prop d1, built_props d2)

  built_prop : {ts : List Token} {p : PropNode} {rest : List Token} (read : ReadsProp ts p rest) → tall_prop read ≤ prop_depth p
  built_prop (short_prop t ts x h1) = omega arith
  built_prop (fixed_prop t c ts rest key a f h1 h2 d1) = omega (arith, fixed_depth key a, built d1)
  built_prop (computed_prop t e c ts mid rest k a f g h1 d1 h2 h3 d2) = omega (arith, computed_depth k a, built d1, built d2)

  built_arrow_body : {ts : List Token} {b : FnBody} {f : Form} {rest : List Token} (read : ReadsArrowBody ts b f rest) → tall_arrow_body read ≤ body_depth b
  built_arrow_body (block_body ts rest items d1) = omega (arith, items_depth items, built_block d1)
  built_arrow_body (value_body ts rest a f h1 d1) = omega (arith, body_value_depth a, built d1)

  built_function : {ts : List Token} {g : Function} {rest : List Token} (read : ReadsFunction ts g rest) → tall_function read ≤ function_depth g
  built_function (function t ts mid rest s items h1 h2 d1) = omega (arith, function_of_depth s.name s.params s.generator (body.Items items), items_depth items, built_block d1)

  built_block : {ts : List Token} {items : List Stmt} {rest : List Token} (read : ReadsBlock ts items rest) → tall_block read ≤ deepest (map stmt_depth items)
  built_block (block t ts rest items h1 d1) = omega (arith, built_items d1)

  built_items : {ts : List Token} {items : List Stmt} {rest : List Token} (read : ReadsItems ts items rest) → tall_items read ≤ deepest (map stmt_depth items)
  built_items (no_items t ts h1) = omega arith
  built_items (more_items ts mid rest s items d1 d2) = omega (arith, built_item d1, built_items d2)

  built_item : {ts : List Token} {s : Stmt} {rest : List Token} (read : ReadsItem ts s rest) → tall_item read ≤ stmt_depth s
  built_item (statement ts rest s d1) = built_stmt d1
  built_item (let_item t ts mid rest ds f h1 d1 h2) = omega (arith, let_depth ds, built_decls d1)
  built_item (const_item t ts mid rest ds f h1 d1 h2) = omega (arith, const_depth ds, built_decls d1)
  built_item (function_item ts rest g x d1 h1) = omega (arith, function_item_depth g, built_function d1)

  built_decls : {ts : List Token} {ds : List Decl} {f : Form} {rest : List Token} (read : ReadsDecls ts ds f rest) → tall_decls read ≤ deepest (map decl_depth ds)
  built_decls (last_decl ts rest d f d1) = omega (arith, built_decl d1)
  built_decls (more_decls c ts mid rest d ds f g d1 h1 d2) = omega (arith, built_decl d1, built_decls d2)

  built_decl : {ts : List Token} {d : Decl} {f : Form} {rest : List Token} (read : ReadsDecl ts d f rest) → tall_decl read ≤ decl_depth d
  built_decl (decl_name t ts x h1) = omega arith
  built_decl (decl_value t q ts rest x a f h1 h2 d1) = omega (arith, decl_value_depth x (value.Value a), value_value_depth a, built d1)
  built_decl (decl_yield t q ts rest x a f h1 h2 d1) = omega (arith, decl_value_depth x (value.Yield a), value_yield_depth a, built_yield d1)

  built_yield : {ts : List Token} {a : Option Expr} {f : Form} {rest : List Token} (read : ReadsYield ts a f rest) → tall_yield read ≤ optional_depth a
  built_yield (yield_alone t ts h1) = omega arith
  built_yield (yield_value t ts rest a f h1 h2 d1) = omega (arith, built d1)

  built_stmt : {ts : List Token} {s : Stmt} {rest : List Token} (read : ReadsStmt ts s rest) → tall_stmt read ≤ stmt_depth s
  built_stmt (block_statement ts rest items d1) = omega (arith, block_depth items, built_block d1)
  built_stmt (empty t ts h1) = omega arith
  built_stmt (expression ts mid rest a f h1 h2 d1 h3) = omega (arith, expression_depth a, built d1)
  built_stmt (yielded ts mid rest a f d1 h1) = omega (arith, yield_depth None a, built_yield d1)
  built_stmt (yield_assigned t q ts mid rest x a f h1 h2 d1 h3) = omega (arith, yield_depth (Some x) a, built_yield d1)
  built_stmt (changed t n q ts mid rest x op a f h1 h2 h3 d1 h4) = omega (arith, change_depth x op (Some a), built d1)
  built_stmt (stepped t n q ts rest x op h1 h2 h3 h4 h5) = omega arith
  built_stmt (if_alone t ts mid rest a s h1 d1 d2 h2) = omega (arith, if_alone_depth a s, built_test d1, built_stmt d2)
  built_stmt (if_else t e ts mid next rest a s u h1 d1 d2 h2 d3) = omega (arith, if_else_depth a s u, built_test d1, built_stmt d2, built_stmt d3)
  built_stmt (while_loop t ts mid rest a s h1 d1 d2) = omega (arith, while_depth a s, built_test d1, built_stmt d2)
  built_stmt (do_loop t w ts mid rest s a h1 d1 h2 d2 h3) = omega (arith, do_depth s a, built_stmt d1, built_test d2)
  built_stmt (do_loop_ended t w e ts mid rest s a h1 d1 h2 d2 h3) = omega (arith, do_depth s a, built_stmt d1, built_test d2)
  built_stmt (for_loop t p ts tested counted turn rest h a b s h1 h2 d1 d2 d3 d4) =
      omega (arith, for_depth h a b s, built_head d1, built_optional d2, built_optional d3, built_stmt d4)
  built_stmt (for_of t p d n o c ts mid rest constant x a f s h1 h2 h3 h4 h5 d1 h6 d2) = omega (arith, for_of_depth constant x a s, built d1, built_stmt d2)
  built_stmt (break t ts rest h1 h2) = omega arith
  built_stmt (continue t ts rest h1 h2) = omega arith
  built_stmt (return_alone t ts rest h1 h2) = omega arith
  built_stmt (return_value t ts mid rest a f h1 h2 d1 h3) = omega (arith, return_depth (Some a), built d1)
  built_stmt (throw t ts mid rest a f h1 h2 d1 h3) = omega (arith, throw_depth a, built d1)
  built_stmt (try_catch t c ts mid rest items p h1 d1 h2 d2) = omega (arith, try_depth items p, built_block d1, built_catch d2)

  built_test : {ts : List Token} {a : Expr} {rest : List Token} (read : ReadsTest ts a rest) → tall_test read ≤ expr_depth a
  built_test (test t c ts rest a f h1 d1 h2) = omega (arith, built d1)

  built_head : {ts : List Token} {h : ForHead} {rest : List Token} (read : ReadsHead ts h rest) → tall_head read ≤ head_depth h
  built_head (no_head t ts h1) = omega arith
  built_head (let_head t e ts rest ds f h1 d1 h2) = omega (arith, let_head_depth ds, built_decls d1)
  built_head (const_head t e ts rest ds f h1 d1 h2) = omega (arith, const_head_depth ds, built_decls d1)
  built_head (expr_head e ts rest a f d1 h1) = omega (arith, expr_head_depth a, built d1)

  built_optional : {close : Punctuator} {ts : List Token} {a : Option Expr} {rest : List Token} (read : ReadsOptional close ts a rest) → tall_optional read ≤ optional_depth a
  built_optional (absent close t ts h1) = omega arith
  built_optional (present close c ts rest a f d1 h1) = omega (arith, built d1)

  built_catch : {ts : List Token} {p : CatchPart} {rest : List Token} (read : ReadsCatch ts p rest) → tall_catch read ≤ catch_depth p
  built_catch (catch_all ts rest items d1) = omega (arith, catch_part_depth None items, built_block d1)
  built_catch (catch_name t n c ts rest x items h1 h2 h3 d1) = omega (arith, catch_part_depth (Some x) items, built_block d1)

-- ---- cells

body_built : {ts : List Token} {g : Function} {rest : List Token} (d : ReadsBody ts g rest) → tall_body d ≤ function_depth g
body_built (cells.block ts rest items d) = omega (arith, function_of_depth None [] (of_block items).generator (body.Items items), items_depth items, built_block d)
body_built (cells.value ts rest a f h d) = omega (arith, function_of_depth None [] false (body.Value a), body_value_depth a, built d)

pub cells_build_within : CellsBuildWithin
cells_build_within ts tree cells.nothing = omega arith
cells_build_within ts tree (cells.imported _ rest i d e) = omega arith
cells_build_within ts tree (cells.function_cell _ g d) = omega (arith, built_function d.reads)
cells_build_within ts tree (cells.bare _ rest g d e other) = omega (arith, body_built d)
cells_build_within ts tree (cells.named n q after rest x g hn hq d e) = omega (arith, body_built d)
cells_build_within ts tree (cells.view t n q after rest x g ht hn hq d e) = omega (arith, body_built d)
cells_build_within ts tree (cells.mutable_cell t n q after rest x g ht hn hq d e) = omega (arith, body_built d)
