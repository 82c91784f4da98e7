-- How deep the descent nests on a derivation.
use Rattle.std.specs.Prelude.{ℕ, ◌+◌, max, List, Option}
use Rattle.ob_lex.specs.declared.punctuator.Punctuator.{Punctuator}
use Rattle.ob_lex.specs.declared.token.Token.{Token}
use Rattle.ob_tree_types.specs.declared.tree.Expr.{Expr}
use Rattle.ob_tree_types.specs.declared.tree.PropNode.{PropNode}
use Rattle.ob_tree_types.specs.declared.tree.Function.{Function}
use Rattle.ob_tree_types.specs.declared.tree.FnBody.{FnBody}
use Rattle.ob_tree_types.specs.declared.tree.Decl.{Decl}
use Rattle.ob_tree_types.specs.declared.tree.Stmt.{Stmt}
use Rattle.ob_tree_types.specs.declared.tree.ForHead.{ForHead}
use Rattle.ob_tree_types.specs.declared.tree.CatchPart.{CatchPart}
use Rattle.ob_grammar.specs.declared.form.Form.{Form}
use Rattle.ob_grammar.specs.Grammar.{Rule, Reads, Continues, Steps, ReadsList, ReadsProps, ReadsProp, ReadsArrowBody, ReadsFunction, ReadsBlock, ReadsItems, ReadsItem, ReadsDecls, ReadsDecl, ReadsYield, ReadsStmt, ReadsTest, ReadsHead, ReadsOptional, ReadsCatch}
use Rattle.ob_grammar.specs.Grammar.{arrow, assigned, unassigned, chosen, unchosen, disjoined, coalesced, operands, unraised, raised, signed, unsigned, counted_before, counted_behind, uncounted, steps, literal, name, viewof_name, made, parentheses, array, object, function_expression, no_more, goes_on, no_step, member, index, call, no_item, last_item, more_list, no_prop, last_prop, more_props, short_prop, fixed_prop, computed_prop, block_body, value_body, function, block, no_items, more_items, statement, let_item, const_item, function_item, last_decl, more_decls, decl_name, decl_value, decl_yield, yield_alone, yield_value, block_statement, empty, expression, yielded, yield_assigned, changed, stepped, if_alone, if_else, while_loop, do_loop, do_loop_ended, for_loop, for_of, break, continue, return_alone, return_value, throw, try_catch, test, no_head, let_head, const_head, expr_head, absent, present, catch_all, catch_name}

abbrev mutual
  pub need : {r : Rule} {ts : List Token} {a : Expr} {f : Form} {rest : List Token} → Reads r ts a f rest → ℕ
  need (arrow ts mid rest t xs b f h1 h2 h3 d1) = need_arrow_body d1
  need (assigned ts mid rest t op a b f d1 h1 d2) = max (need d1) (1 + need d2)
  need (unassigned ts rest a f d1) = need d1
  need (chosen ts first second rest q c a b d f g h d1 h1 d2 h2 d3) = max (need d1) (max (1 + need d2) (1 + need d3))
  need (unchosen ts rest a f d1) = need d1
  need (disjoined ts rest a f d1) = need d1
  need (coalesced ts mid rest first a f g d1 d2) = max (need d1) (need_continues d2)
  need (operands k ts mid rest first a f g d1 d2) = max (need d1) (need_continues d2)
  need (unraised ts rest a f d1) = need d1
  need (raised ts mid rest t a b f g d1 h1 d2) = max (need d1) (1 + need d2)
  need (signed t ts rest op a f h1 d1) = 1 + need d1
  need (unsigned ts rest a f d1) = need d1
  need (counted_before t ts rest op a h1 d1) = need d1
  need (counted_behind ts rest t op a d1 h1 h2) = need d1
  need (uncounted ts rest a f d1) = need d1
  need (steps ts mid rest first a f g d1 d2) = max (need d1) (need_steps d2)
  need (literal t ts a h1) = 0
  need (name t ts x h1) = 0
  need (viewof_name t n ts x h1 h2) = 0
  need (made t n p ts rest x args h1 h2 h3 d1) = need_list d1
  need (parentheses t c ts rest a f h1 d1 h2) = 1 + need d1
  need (array t ts rest items h1 d1) = need_list d1
  need (object t ts rest props h1 d1) = need_props d1
  need (function_expression ts rest g d1) = need_function d1

  pub need_continues : {r : Rule} {n : ℕ} {a : Expr} {f : Form} {ts : List Token} {b : Expr} {g : Form} {rest : List Token} → Continues r n a f ts b g rest → ℕ
  need_continues (no_more r n a f ts) = 0
  need_continues (goes_on r n a b c f g h t ts mid rest op h1 h2 d1 d2) = max (1 + need d1) (need_continues d2)

  pub need_steps : {a : Expr} {f : Form} {ts : List Token} {b : Expr} {g : Form} {rest : List Token} → Steps a f ts b g rest → ℕ
  need_steps (no_step a f ts) = 0
  need_steps (member a b f g t n x ts rest h1 h2 d1) = need_steps d1
  need_steps (index a b k f g h t c ts mid rest h1 d1 h2 d2) = max (1 + need d1) (need_steps d2)
  need_steps (call a b f g t args ts mid rest h1 d1 d2) = max (need_list d1) (need_steps d2)

  pub need_list : {close : Punctuator} {ts : List Token} {items : List Expr} {rest : List Token} → ReadsList close ts items rest → ℕ
  need_list (no_item close t ts h1) = 0
  need_list (last_item close c ts rest a f d1 h1) = 1 + need d1
  need_list (more_list close c ts mid rest a f items d1 h1 d2) = max (1 + need d1) (need_list d2)

  pub need_props : {ts : List Token} {props : List PropNode} {rest : List Token} → ReadsProps ts props rest → ℕ
  need_props (no_prop t ts h1) = 0
  need_props (last_prop c ts rest p d1 h1) = need_prop d1
  need_props (more_props c ts mid rest p ps d1 h1 d2) = max (need_prop d1) (need_props d2)

  pub need_prop : {ts : List Token} {p : PropNode} {rest : List Token} → ReadsProp ts p rest → ℕ
  need_prop (short_prop t ts x h1) = 0
  need_prop (fixed_prop t c ts rest key a f h1 h2 d1) = 1 + need d1
  need_prop (computed_prop t e c ts mid rest k a f g h1 d1 h2 h3 d2) = max (1 + need d1) (1 + need d2)

  pub need_arrow_body : {ts : List Token} {b : FnBody} {f : Form} {rest : List Token} → ReadsArrowBody ts b f rest → ℕ
  need_arrow_body (block_body ts rest items d1) = need_block d1
  need_arrow_body (value_body ts rest a f h1 d1) = 1 + need d1

  pub need_function : {ts : List Token} {g : Function} {rest : List Token} → ReadsFunction ts g rest → ℕ
  need_function (function t ts mid rest s items h1 h2 d1) = need_block d1

  pub need_block : {ts : List Token} {items : List Stmt} {rest : List Token} → ReadsBlock ts items rest → ℕ
  need_block (block t ts rest items h1 d1) = need_items d1

  pub need_items : {ts : List Token} {items : List Stmt} {rest : List Token} → ReadsItems ts items rest → ℕ
  need_items (no_items t ts h1) = 0
  need_items (more_items ts mid rest s items d1 d2) = max (1 + need_item d1) (need_items d2)

  pub need_item : {ts : List Token} {s : Stmt} {rest : List Token} → ReadsItem ts s rest → ℕ
  need_item (statement ts rest s d1) = need_stmt d1
  need_item (let_item t ts mid rest ds f h1 d1 h2) = need_decls d1
  need_item (const_item t ts mid rest ds f h1 d1 h2) = need_decls d1
  need_item (function_item ts rest g x d1 h1) = need_function d1

  pub need_decls : {ts : List Token} {ds : List Decl} {f : Form} {rest : List Token} → ReadsDecls ts ds f rest → ℕ
  need_decls (last_decl ts rest d f d1) = need_decl d1
  need_decls (more_decls c ts mid rest d ds f g d1 h1 d2) = max (need_decl d1) (need_decls d2)

  pub need_decl : {ts : List Token} {d : Decl} {f : Form} {rest : List Token} → ReadsDecl ts d f rest → ℕ
  need_decl (decl_name t ts x h1) = 0
  need_decl (decl_value t q ts rest x a f h1 h2 d1) = 1 + need d1
  need_decl (decl_yield t q ts rest x a f h1 h2 d1) = need_yield d1

  pub need_yield : {ts : List Token} {a : Option Expr} {f : Form} {rest : List Token} → ReadsYield ts a f rest → ℕ
  need_yield (yield_alone t ts h1) = 0
  need_yield (yield_value t ts rest a f h1 h2 d1) = 1 + need d1

  pub need_stmt : {ts : List Token} {s : Stmt} {rest : List Token} → ReadsStmt ts s rest → ℕ
  need_stmt (block_statement ts rest items d1) = need_block d1
  need_stmt (empty t ts h1) = 0
  need_stmt (expression ts mid rest a f h1 h2 d1 h3) = 1 + need d1
  need_stmt (yielded ts mid rest a f d1 h1) = need_yield d1
  need_stmt (yield_assigned t q ts mid rest x a f h1 h2 d1 h3) = need_yield d1
  need_stmt (changed t n q ts mid rest x op a f h1 h2 h3 d1 h4) = 1 + need d1
  need_stmt (stepped t n q ts rest x op h1 h2 h3 h4 h5) = 0
  need_stmt (if_alone t ts mid rest a s h1 d1 d2 h2) = max (need_test d1) (1 + need_stmt d2)
  need_stmt (if_else t e ts mid next rest a s u h1 d1 d2 h2 d3) = max (need_test d1) (max (1 + need_stmt d2) (1 + need_stmt d3))
  need_stmt (while_loop t ts mid rest a s h1 d1 d2) = max (need_test d1) (1 + need_stmt d2)
  need_stmt (do_loop t w ts mid rest s a h1 d1 h2 d2 h3) = max (1 + need_stmt d1) (need_test d2)
  need_stmt (do_loop_ended t w e ts mid rest s a h1 d1 h2 d2 h3) = max (1 + need_stmt d1) (need_test d2)
  need_stmt (for_loop t p ts tested counted turn rest h a b s h1 h2 d1 d2 d3 d4) = max (need_head d1) (max (need_optional d2) (max (need_optional d3) (1 + need_stmt d4)))
  need_stmt (for_of t p d n o c ts mid rest constant x a f s h1 h2 h3 h4 h5 d1 h6 d2) = max (1 + need d1) (1 + need_stmt d2)
  need_stmt (break t ts rest h1 h2) = 0
  need_stmt (continue t ts rest h1 h2) = 0
  need_stmt (return_alone t ts rest h1 h2) = 0
  need_stmt (return_value t ts mid rest a f h1 h2 d1 h3) = 1 + need d1
  need_stmt (throw t ts mid rest a f h1 h2 d1 h3) = 1 + need d1
  need_stmt (try_catch t c ts mid rest items p h1 d1 h2 d2) = max (need_block d1) (need_catch d2)

  pub need_test : {ts : List Token} {a : Expr} {rest : List Token} → ReadsTest ts a rest → ℕ
  need_test (test t c ts rest a f h1 d1 h2) = 1 + need d1

  pub need_head : {ts : List Token} {h : ForHead} {rest : List Token} → ReadsHead ts h rest → ℕ
  need_head (no_head t ts h1) = 0
  need_head (let_head t e ts rest ds f h1 d1 h2) = need_decls d1
  need_head (const_head t e ts rest ds f h1 d1 h2) = need_decls d1
  need_head (expr_head e ts rest a f d1 h1) = 1 + need d1

  pub need_optional : {close : Punctuator} {ts : List Token} {a : Option Expr} {rest : List Token} → ReadsOptional close ts a rest → ℕ
  need_optional (absent close t ts h1) = 0
  need_optional (present close c ts rest a f d1 h1) = 1 + need d1

  pub need_catch : {ts : List Token} {p : CatchPart} {rest : List Token} → ReadsCatch ts p rest → ℕ
  need_catch (catch_all ts rest items d1) = need_block d1
  need_catch (catch_name t n c ts rest x items h1 h2 h3 d1) = need_block d1
