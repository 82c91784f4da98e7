-- The greatest depth of a tree that a turn of a loop makes in a derivation, where `limit` of the descent has to let it pass.
use Rattle.std.specs.Prelude.{ℕ, max, List, Option}
use Rattle.ob_lex.specs.declared.punctuator.Punctuator.{Punctuator}
use Rattle.ob_lex.specs.declared.token.Token.{Token}
use Rattle.ob_tree_types.specs.declared.tree.Expr.{Expr}
use Rattle.ob_tree_types.specs.declared.tree.Expr.TheVariants as node
use Rattle.ob_tree_types.specs.declared.tree.PropNode.{PropNode}
use Rattle.ob_tree_types.specs.declared.tree.Function.{Function}
use Rattle.ob_tree_types.specs.declared.tree.FnBody.{FnBody}
use Rattle.ob_tree_types.specs.declared.tree.Decl.{Decl}
use Rattle.ob_tree_types.specs.declared.tree.Stmt.{Stmt}
use Rattle.ob_tree_types.specs.declared.tree.ForHead.{ForHead}
use Rattle.ob_tree_types.specs.declared.tree.CatchPart.{CatchPart}
use Rattle.ob_tree.specs.Depth.{expr_depth}
use Rattle.ob_grammar.specs.declared.form.Form.{Form}
use Rattle.ob_grammar.specs.Marks.{joined}
use Rattle.ob_grammar.specs.Grammar.{Rule, Reads, Continues, Steps, ReadsList, ReadsProps, ReadsProp, ReadsArrowBody, ReadsFunction, ReadsBlock, ReadsItems, ReadsItem, ReadsDecls, ReadsDecl, ReadsYield, ReadsStmt, ReadsTest, ReadsHead, ReadsOptional, ReadsCatch}
use Rattle.ob_grammar.specs.Grammar.{arrow, assigned, unassigned, chosen, unchosen, disjoined, coalesced, operands, unraised, raised, signed, unsigned, counted_before, counted_behind, uncounted, steps, literal, name, viewof_name, made, parentheses, array, object, function_expression, no_more, goes_on, no_step, member, index, call, no_item, last_item, more_list, no_prop, last_prop, more_props, short_prop, fixed_prop, computed_prop, block_body, value_body, function, block, no_items, more_items, statement, let_item, const_item, function_item, last_decl, more_decls, decl_name, decl_value, decl_yield, yield_alone, yield_value, block_statement, empty, expression, yielded, yield_assigned, changed, stepped, if_alone, if_else, while_loop, do_loop, do_loop_ended, for_loop, for_of, break, continue, return_alone, return_value, throw, try_catch, test, no_head, let_head, const_head, expr_head, absent, present, catch_all, catch_name}

abbrev mutual
  pub tall : {r : Rule} {ts : List Token} {a : Expr} {f : Form} {rest : List Token} → Reads r ts a f rest → ℕ
  tall (arrow ts mid rest t xs b f h1 h2 h3 d1) = tall_arrow_body d1
  tall (assigned ts mid rest t op a b f d1 h1 d2) = max (tall d1) (tall d2)
  tall (unassigned ts rest a f d1) = tall d1
  tall (chosen ts first second rest q c a b d f g h d1 h1 d2 h2 d3) = max (tall d1) (max (tall d2) (tall d3))
  tall (unchosen ts rest a f d1) = tall d1
  tall (disjoined ts rest a f d1) = tall d1
  tall (coalesced ts mid rest first a f g d1 d2) = max (tall d1) (tall_continues d2)
  tall (operands k ts mid rest first a f g d1 d2) = max (tall d1) (tall_continues d2)
  tall (unraised ts rest a f d1) = tall d1
  tall (raised ts mid rest t a b f g d1 h1 d2) = max (tall d1) (tall d2)
  tall (signed t ts rest op a f h1 d1) = tall d1
  tall (unsigned ts rest a f d1) = tall d1
  tall (counted_before t ts rest op a h1 d1) = tall d1
  tall (counted_behind ts rest t op a d1 h1 h2) = tall d1
  tall (uncounted ts rest a f d1) = tall d1
  tall (steps ts mid rest first a f g d1 d2) = max (tall d1) (tall_steps d2)
  tall (literal t ts a h1) = 0
  tall (name t ts x h1) = 0
  tall (viewof_name t n ts x h1 h2) = 0
  tall (made t n p ts rest x args h1 h2 h3 d1) = tall_list d1
  tall (parentheses t c ts rest a f h1 d1 h2) = tall d1
  tall (array t ts rest items h1 d1) = tall_list d1
  tall (object t ts rest props h1 d1) = tall_props d1
  tall (function_expression ts rest g d1) = tall_function d1

  pub tall_continues : {r : Rule} {n : ℕ} {a : Expr} {f : Form} {ts : List Token} {b : Expr} {g : Form} {rest : List Token} → Continues r n a f ts b g rest → ℕ
  tall_continues (no_more r n a f ts) = 0
  tall_continues (goes_on r n a b c f g h t ts mid rest op h1 h2 d1 d2) = max (tall d1) (max (expr_depth (joined op a b)) (tall_continues d2))

  pub tall_steps : {a : Expr} {f : Form} {ts : List Token} {b : Expr} {g : Form} {rest : List Token} → Steps a f ts b g rest → ℕ
  tall_steps (no_step a f ts) = 0
  tall_steps (member a b f g t n x ts rest h1 h2 d1) = max (expr_depth (node.Member a x)) (tall_steps d1)
  tall_steps (index a b k f g h t c ts mid rest h1 d1 h2 d2) = max (tall d1) (max (expr_depth (node.Index a k)) (tall_steps d2))
  tall_steps (call a b f g t args ts mid rest h1 d1 d2) = max (tall_list d1) (max (expr_depth (node.Call a args)) (tall_steps d2))

  pub tall_list : {close : Punctuator} {ts : List Token} {items : List Expr} {rest : List Token} → ReadsList close ts items rest → ℕ
  tall_list (no_item close t ts h1) = 0
  tall_list (last_item close c ts rest a f d1 h1) = tall d1
  tall_list (more_list close c ts mid rest a f items d1 h1 d2) = max (tall d1) (tall_list d2)

  pub tall_props : {ts : List Token} {props : List PropNode} {rest : List Token} → ReadsProps ts props rest → ℕ
  tall_props (no_prop t ts h1) = 0
  tall_props (last_prop c ts rest p d1 h1) = tall_prop d1
  tall_props (more_props c ts mid rest p ps d1 h1 d2) = max (tall_prop d1) (tall_props d2)

  pub tall_prop : {ts : List Token} {p : PropNode} {rest : List Token} → ReadsProp ts p rest → ℕ
  tall_prop (short_prop t ts x h1) = 0
  tall_prop (fixed_prop t c ts rest key a f h1 h2 d1) = tall d1
  tall_prop (computed_prop t e c ts mid rest k a f g h1 d1 h2 h3 d2) = max (tall d1) (tall d2)

  pub tall_arrow_body : {ts : List Token} {b : FnBody} {f : Form} {rest : List Token} → ReadsArrowBody ts b f rest → ℕ
  tall_arrow_body (block_body ts rest items d1) = tall_block d1
  tall_arrow_body (value_body ts rest a f h1 d1) = tall d1

  pub tall_function : {ts : List Token} {g : Function} {rest : List Token} → ReadsFunction ts g rest → ℕ
  tall_function (function t ts mid rest s items h1 h2 d1) = tall_block d1

  pub tall_block : {ts : List Token} {items : List Stmt} {rest : List Token} → ReadsBlock ts items rest → ℕ
  tall_block (block t ts rest items h1 d1) = tall_items d1

  pub tall_items : {ts : List Token} {items : List Stmt} {rest : List Token} → ReadsItems ts items rest → ℕ
  tall_items (no_items t ts h1) = 0
  tall_items (more_items ts mid rest s items d1 d2) = max (tall_item d1) (tall_items d2)

  pub tall_item : {ts : List Token} {s : Stmt} {rest : List Token} → ReadsItem ts s rest → ℕ
  tall_item (statement ts rest s d1) = tall_stmt d1
  tall_item (let_item t ts mid rest ds f h1 d1 h2) = tall_decls d1
  tall_item (const_item t ts mid rest ds f h1 d1 h2) = tall_decls d1
  tall_item (function_item ts rest g x d1 h1) = tall_function d1

  pub tall_decls : {ts : List Token} {ds : List Decl} {f : Form} {rest : List Token} → ReadsDecls ts ds f rest → ℕ
  tall_decls (last_decl ts rest d f d1) = tall_decl d1
  tall_decls (more_decls c ts mid rest d ds f g d1 h1 d2) = max (tall_decl d1) (tall_decls d2)

  pub tall_decl : {ts : List Token} {d : Decl} {f : Form} {rest : List Token} → ReadsDecl ts d f rest → ℕ
  tall_decl (decl_name t ts x h1) = 0
  tall_decl (decl_value t q ts rest x a f h1 h2 d1) = tall d1
  tall_decl (decl_yield t q ts rest x a f h1 h2 d1) = tall_yield d1

  pub tall_yield : {ts : List Token} {a : Option Expr} {f : Form} {rest : List Token} → ReadsYield ts a f rest → ℕ
  tall_yield (yield_alone t ts h1) = 0
  tall_yield (yield_value t ts rest a f h1 h2 d1) = tall d1

  pub tall_stmt : {ts : List Token} {s : Stmt} {rest : List Token} → ReadsStmt ts s rest → ℕ
  tall_stmt (block_statement ts rest items d1) = tall_block d1
  tall_stmt (empty t ts h1) = 0
  tall_stmt (expression ts mid rest a f h1 h2 d1 h3) = tall d1
  tall_stmt (yielded ts mid rest a f d1 h1) = tall_yield d1
  tall_stmt (yield_assigned t q ts mid rest x a f h1 h2 d1 h3) = tall_yield d1
  tall_stmt (changed t n q ts mid rest x op a f h1 h2 h3 d1 h4) = tall d1
  tall_stmt (stepped t n q ts rest x op h1 h2 h3 h4 h5) = 0
  tall_stmt (if_alone t ts mid rest a s h1 d1 d2 h2) = max (tall_test d1) (tall_stmt d2)
  tall_stmt (if_else t e ts mid next rest a s u h1 d1 d2 h2 d3) = max (tall_test d1) (max (tall_stmt d2) (tall_stmt d3))
  tall_stmt (while_loop t ts mid rest a s h1 d1 d2) = max (tall_test d1) (tall_stmt d2)
  tall_stmt (do_loop t w ts mid rest s a h1 d1 h2 d2 h3) = max (tall_stmt d1) (tall_test d2)
  tall_stmt (do_loop_ended t w e ts mid rest s a h1 d1 h2 d2 h3) = max (tall_stmt d1) (tall_test d2)
  tall_stmt (for_loop t p ts tested counted turn rest h a b s h1 h2 d1 d2 d3 d4) = max (tall_head d1) (max (tall_optional d2) (max (tall_optional d3) (tall_stmt d4)))
  tall_stmt (for_of t p d n o c ts mid rest constant x a f s h1 h2 h3 h4 h5 d1 h6 d2) = max (tall d1) (tall_stmt d2)
  tall_stmt (break t ts rest h1 h2) = 0
  tall_stmt (continue t ts rest h1 h2) = 0
  tall_stmt (return_alone t ts rest h1 h2) = 0
  tall_stmt (return_value t ts mid rest a f h1 h2 d1 h3) = tall d1
  tall_stmt (throw t ts mid rest a f h1 h2 d1 h3) = tall d1
  tall_stmt (try_catch t c ts mid rest items p h1 d1 h2 d2) = max (tall_block d1) (tall_catch d2)

  pub tall_test : {ts : List Token} {a : Expr} {rest : List Token} → ReadsTest ts a rest → ℕ
  tall_test (test t c ts rest a f h1 d1 h2) = tall d1

  pub tall_head : {ts : List Token} {h : ForHead} {rest : List Token} → ReadsHead ts h rest → ℕ
  tall_head (no_head t ts h1) = 0
  tall_head (let_head t e ts rest ds f h1 d1 h2) = tall_decls d1
  tall_head (const_head t e ts rest ds f h1 d1 h2) = tall_decls d1
  tall_head (expr_head e ts rest a f d1 h1) = tall d1

  pub tall_optional : {close : Punctuator} {ts : List Token} {a : Option Expr} {rest : List Token} → ReadsOptional close ts a rest → ℕ
  tall_optional (absent close t ts h1) = 0
  tall_optional (present close c ts rest a f d1 h1) = tall d1

  pub tall_catch : {ts : List Token} {p : CatchPart} {rest : List Token} → ReadsCatch ts p rest → ℕ
  tall_catch (catch_all ts rest items d1) = tall_block d1
  tall_catch (catch_name t n c ts rest x items h1 h2 h3 d1) = tall_block d1
