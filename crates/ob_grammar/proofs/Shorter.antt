-- What follows a piece is shorter than what the piece begins.
use Rattle.std.proofs.Common.{ℕ, ◌≤◌, ◌<◌, Bool, List, length, Option, arith}
use Rattle.ob_lex.specs.declared.punctuator.Punctuator.{Punctuator}
use Rattle.ob_lex.specs.declared.token.Token.{Token}
use Rattle.ob_tree_types.specs.declared.tree.Expr.{Expr}
use Rattle.ob_tree_types.specs.declared.tree.PropNode.{PropNode}
use Rattle.ob_tree_types.specs.declared.tree.Function.{Function}
use Rattle.ob_tree_types.specs.declared.tree.FnBody.{FnBody}
use Rattle.ob_tree_types.specs.declared.tree.Decl.{Decl}
use Rattle.ob_tree_types.specs.declared.tree.Stmt.{Stmt}
use Rattle.ob_tree_types.specs.declared.tree.ForHead.{ForHead}
use Rattle.ob_tree_types.specs.declared.tree.CatchPart.{CatchPart}
use Rattle.ob_grammar.specs.declared.form.Form.{Form}
use Rattle.ob_grammar.specs.Forms.{Ends, written, before_brace, at_end, at_line}
use Rattle.ob_grammar.specs.Grammar.{Rule, Reads, Continues, Steps, ReadsList, ReadsProps, ReadsProp, ReadsArrowBody, ReadsFunction, ReadsBlock, ReadsItems, ReadsItem, ReadsDecls, ReadsDecl, ReadsYield, ReadsStmt, ReadsTest, ReadsHead, ReadsOptional, ReadsCatch}
use Rattle.ob_grammar.specs.Grammar.{arrow, assigned, unassigned, chosen, unchosen, disjoined, coalesced, operands, unraised, raised, signed, unsigned, counted_before, counted_behind, uncounted, steps, literal, name, viewof_name, made, parentheses, array, object, function_expression, no_more, goes_on, no_step, member, index, call, no_item, last_item, more_list, no_prop, last_prop, more_props, short_prop, fixed_prop, computed_prop, block_body, value_body, function, block, no_items, more_items, statement, let_item, const_item, function_item, last_decl, more_decls, decl_name, decl_value, decl_yield, yield_alone, yield_value, block_statement, empty, expression, yielded, yield_assigned, changed, stepped, if_alone, if_else, while_loop, do_loop, do_loop_ended, for_loop, for_of, break, continue, return_alone, return_value, throw, try_catch, test, no_head, let_head, const_head, expr_head, absent, present, catch_all, catch_name}
use Rattle.ob_grammar.specs.declared.piece.Signature.{Signature}
use Rattle.ob_grammar.specs.Lists.{ReadsNames, no_names, last_name, more_names, ReadsParams, params, ReadsArrowHead, one_param, all_params, ReadsStar, star, no_star, ReadsOwnName, own_name, no_name, ReadsSignature, signature}

shorter_names : {ts : List Token} {xs : List (List ℕ)} {rest : List Token} → ReadsNames ts xs rest → length rest < length ts
shorter_names (no_names t ts h) = omega arith
shorter_names (last_name t c ts x h1 h2) = omega arith
shorter_names (more_names t c ts rest x xs h1 h2 d) = omega (arith, shorter_names d)

pub shorter_params : {ts : List Token} {xs : List (List ℕ)} {rest : List Token} → ReadsParams ts xs rest → length rest < length ts
shorter_params (params t ts rest xs h d) = omega (arith, shorter_names d)

pub shorter_arrow_head : {ts : List Token} {xs : List (List ℕ)} {rest : List Token} → ReadsArrowHead ts xs rest → length rest < length ts
shorter_arrow_head (one_param t ts x h) = omega arith
shorter_arrow_head (all_params ts rest xs d) = shorter_params d

shorter_star : {ts : List Token} {g : Bool} {rest : List Token} → ReadsStar ts g rest → length rest ≤ length ts
shorter_star (star t ts h) = omega arith
shorter_star (no_star ts) = omega arith

shorter_own_name : {ts : List Token} {x : Option (List ℕ)} {rest : List Token} → ReadsOwnName ts x rest → length rest ≤ length ts
shorter_own_name (own_name t ts x h) = omega arith
shorter_own_name (no_name ts) = omega arith

pub shorter_signature : {ts : List Token} {s : Signature} {rest : List Token} → ReadsSignature ts s rest → length rest < length ts
shorter_signature (signature ts named list rest g x xs a b c) = omega (arith, shorter_star a, shorter_own_name b, shorter_params c)

pub shorter_end : {f : Form} {ts rest : List Token} → Ends f ts rest → length rest ≤ length ts
shorter_end (written t ts h) = omega arith
shorter_end (before_brace t ts h) = omega arith
shorter_end at_end = omega arith
shorter_end (at_line t ts hb s) = omega arith

mutual
  pub shorter : {r : Rule} {ts : List Token} {a : Expr} {f : Form} {rest : List Token} → Reads r ts a f rest → length rest < length ts
  shorter (arrow ts mid rest t xs b f h1 h2 h3 d1) = omega (arith, shorter_arrow_head h1, shorter_arrow_body d1)
  shorter (assigned ts mid rest t op a b f d1 h1 d2) = omega (arith, shorter d1, shorter d2)
  shorter (unassigned ts rest a f d1) = omega (arith, shorter d1)
  shorter (chosen ts first second rest q c a b d f g h d1 h1 d2 h2 d3) = omega (arith, shorter d1, shorter d2, shorter d3)
  shorter (unchosen ts rest a f d1) = omega (arith, shorter d1)
  shorter (disjoined ts rest a f d1) = omega (arith, shorter d1)
  shorter (coalesced ts mid rest first a f g d1 d2) = omega (arith, shorter d1, shorter_continues d2)
  shorter (operands k ts mid rest first a f g d1 d2) = omega (arith, shorter d1, shorter_continues d2)
  shorter (unraised ts rest a f d1) = omega (arith, shorter d1)
  shorter (raised ts mid rest t a b f g d1 h1 d2) = omega (arith, shorter d1, shorter d2)
  shorter (signed t ts rest op a f h1 d1) = omega (arith, shorter d1)
  shorter (unsigned ts rest a f d1) = omega (arith, shorter d1)
  shorter (counted_before t ts rest op a h1 d1) = omega (arith, shorter d1)
  shorter (counted_behind ts rest t op a d1 h1 h2) = omega (arith, shorter d1)
  shorter (uncounted ts rest a f d1) = omega (arith, shorter d1)
  shorter (steps ts mid rest first a f g d1 d2) = omega (arith, shorter d1, shorter_steps d2)
  shorter (literal t ts a h1) = omega arith
  shorter (name t ts x h1) = omega arith
  shorter (viewof_name t n ts x h1 h2) = omega arith
  shorter (made t n p ts rest x args h1 h2 h3 d1) = omega (arith, shorter_list d1)
  shorter (parentheses t c ts rest a f h1 d1 h2) = omega (arith, shorter d1)
  shorter (array t ts rest items h1 d1) = omega (arith, shorter_list d1)
  shorter (object t ts rest props h1 d1) = omega (arith, shorter_props d1)
  shorter (function_expression ts rest g d1) = omega (arith, shorter_function d1)

  pub shorter_continues : {r : Rule} {n : ℕ} {a : Expr} {f : Form} {ts : List Token} {b : Expr} {g : Form} {rest : List Token} → Continues r n a f ts b g rest → length rest ≤ length ts
  shorter_continues (no_more r n a f ts) = omega arith
  shorter_continues (goes_on r n a b c f g h t ts mid rest op h1 h2 d1 d2) = omega (arith, shorter d1, shorter_continues d2)

  pub shorter_steps : {a : Expr} {f : Form} {ts : List Token} {b : Expr} {g : Form} {rest : List Token} → Steps a f ts b g rest → length rest ≤ length ts
  shorter_steps (no_step a f ts) = omega arith
  shorter_steps (member a b f g t n x ts rest h1 h2 d1) = omega (arith, shorter_steps d1)
  shorter_steps (index a b k f g h t c ts mid rest h1 d1 h2 d2) = omega (arith, shorter d1, shorter_steps d2)
  shorter_steps (call a b f g t args ts mid rest h1 d1 d2) = omega (arith, shorter_list d1, shorter_steps d2)

  pub shorter_list : {close : Punctuator} {ts : List Token} {items : List Expr} {rest : List Token} → ReadsList close ts items rest → length rest < length ts
  shorter_list (no_item close t ts h1) = omega arith
  shorter_list (last_item close c ts rest a f d1 h1) = omega (arith, shorter d1)
  shorter_list (more_list close c ts mid rest a f items d1 h1 d2) = omega (arith, shorter d1, shorter_list d2)

  pub shorter_props : {ts : List Token} {props : List PropNode} {rest : List Token} → ReadsProps ts props rest → length rest < length ts
  shorter_props (no_prop t ts h1) = omega arith
  shorter_props (last_prop c ts rest p d1 h1) = omega (arith, shorter_prop d1)
  shorter_props (more_props c ts mid rest p ps d1 h1 d2) = omega (arith, shorter_prop d1, shorter_props d2)

  pub shorter_prop : {ts : List Token} {p : PropNode} {rest : List Token} → ReadsProp ts p rest → length rest < length ts
  shorter_prop (short_prop t ts x h1) = omega arith
  shorter_prop (fixed_prop t c ts rest key a f h1 h2 d1) = omega (arith, shorter d1)
  shorter_prop (computed_prop t e c ts mid rest k a f g h1 d1 h2 h3 d2) = omega (arith, shorter d1, shorter d2)

  pub shorter_arrow_body : {ts : List Token} {b : FnBody} {f : Form} {rest : List Token} → ReadsArrowBody ts b f rest → length rest < length ts
  shorter_arrow_body (block_body ts rest items d1) = omega (arith, shorter_block d1)
  shorter_arrow_body (value_body ts rest a f h1 d1) = omega (arith, shorter d1)

  pub shorter_function : {ts : List Token} {g : Function} {rest : List Token} → ReadsFunction ts g rest → length rest < length ts
  shorter_function (function t ts mid rest s items h1 h2 d1) = omega (arith, shorter_signature h2, shorter_block d1)

  pub shorter_block : {ts : List Token} {items : List Stmt} {rest : List Token} → ReadsBlock ts items rest → length rest < length ts
  shorter_block (block t ts rest items h1 d1) = omega (arith, shorter_items d1)

  pub shorter_items : {ts : List Token} {items : List Stmt} {rest : List Token} → ReadsItems ts items rest → length rest < length ts
  shorter_items (no_items t ts h1) = omega arith
  shorter_items (more_items ts mid rest s items d1 d2) = omega (arith, shorter_item d1, shorter_items d2)

  pub shorter_item : {ts : List Token} {s : Stmt} {rest : List Token} → ReadsItem ts s rest → length rest < length ts
  shorter_item (statement ts rest s d1) = omega (arith, shorter_stmt d1)
  shorter_item (let_item t ts mid rest ds f h1 d1 h2) = omega (arith, shorter_decls d1, shorter_end h2)
  shorter_item (const_item t ts mid rest ds f h1 d1 h2) = omega (arith, shorter_decls d1, shorter_end h2)
  shorter_item (function_item ts rest g x d1 h1) = omega (arith, shorter_function d1)

  pub shorter_decls : {ts : List Token} {ds : List Decl} {f : Form} {rest : List Token} → ReadsDecls ts ds f rest → length rest < length ts
  shorter_decls (last_decl ts rest d f d1) = omega (arith, shorter_decl d1)
  shorter_decls (more_decls c ts mid rest d ds f g d1 h1 d2) = omega (arith, shorter_decl d1, shorter_decls d2)

  pub shorter_decl : {ts : List Token} {d : Decl} {f : Form} {rest : List Token} → ReadsDecl ts d f rest → length rest < length ts
  shorter_decl (decl_name t ts x h1) = omega arith
  shorter_decl (decl_value t q ts rest x a f h1 h2 d1) = omega (arith, shorter d1)
  shorter_decl (decl_yield t q ts rest x a f h1 h2 d1) = omega (arith, shorter_yield d1)

  pub shorter_yield : {ts : List Token} {a : Option Expr} {f : Form} {rest : List Token} → ReadsYield ts a f rest → length rest < length ts
  shorter_yield (yield_alone t ts h1) = omega arith
  shorter_yield (yield_value t ts rest a f h1 h2 d1) = omega (arith, shorter d1)

  pub shorter_stmt : {ts : List Token} {s : Stmt} {rest : List Token} → ReadsStmt ts s rest → length rest < length ts
  shorter_stmt (block_statement ts rest items d1) = omega (arith, shorter_block d1)
  shorter_stmt (empty t ts h1) = omega arith
  shorter_stmt (expression ts mid rest a f h1 h2 d1 h3) = omega (arith, shorter d1, shorter_end h3)
  shorter_stmt (yielded ts mid rest a f d1 h1) = omega (arith, shorter_yield d1, shorter_end h1)
  shorter_stmt (yield_assigned t q ts mid rest x a f h1 h2 d1 h3) = omega (arith, shorter_yield d1, shorter_end h3)
  shorter_stmt (changed t n q ts mid rest x op a f h1 h2 h3 d1 h4) = omega (arith, shorter d1, shorter_end h4)
  shorter_stmt (stepped t n q ts rest x op h1 h2 h3 h4 h5) = omega (arith, shorter_end h5)
  shorter_stmt (if_alone t ts mid rest a s h1 d1 d2 h2) = omega (arith, shorter_test d1, shorter_stmt d2)
  shorter_stmt (if_else t e ts mid next rest a s u h1 d1 d2 h2 d3) = omega (arith, shorter_test d1, shorter_stmt d2, shorter_stmt d3)
  shorter_stmt (while_loop t ts mid rest a s h1 d1 d2) = omega (arith, shorter_test d1, shorter_stmt d2)
  shorter_stmt (do_loop t w ts mid rest s a h1 d1 h2 d2 h3) = omega (arith, shorter_stmt d1, shorter_test d2)
  shorter_stmt (do_loop_ended t w e ts mid rest s a h1 d1 h2 d2 h3) = omega (arith, shorter_stmt d1, shorter_test d2)
  shorter_stmt (for_loop t p ts tested counted turn rest h a b s h1 h2 d1 d2 d3 d4) = omega (arith, shorter_head d1, shorter_optional d2, shorter_optional d3, shorter_stmt d4)
  shorter_stmt (for_of t p d n o c ts mid rest constant x a f s h1 h2 h3 h4 h5 d1 h6 d2) = omega (arith, shorter d1, shorter_stmt d2)
  shorter_stmt (break t ts rest h1 h2) = omega (arith, shorter_end h2)
  shorter_stmt (continue t ts rest h1 h2) = omega (arith, shorter_end h2)
  shorter_stmt (return_alone t ts rest h1 h2) = omega (arith, shorter_end h2)
  shorter_stmt (return_value t ts mid rest a f h1 h2 d1 h3) = omega (arith, shorter d1, shorter_end h3)
  shorter_stmt (throw t ts mid rest a f h1 h2 d1 h3) = omega (arith, shorter d1, shorter_end h3)
  shorter_stmt (try_catch t c ts mid rest items p h1 d1 h2 d2) = omega (arith, shorter_block d1, shorter_catch d2)

  pub shorter_test : {ts : List Token} {a : Expr} {rest : List Token} → ReadsTest ts a rest → length rest < length ts
  shorter_test (test t c ts rest a f h1 d1 h2) = omega (arith, shorter d1)

  pub shorter_head : {ts : List Token} {h : ForHead} {rest : List Token} → ReadsHead ts h rest → length rest < length ts
  shorter_head (no_head t ts h1) = omega arith
  shorter_head (let_head t e ts rest ds f h1 d1 h2) = omega (arith, shorter_decls d1)
  shorter_head (const_head t e ts rest ds f h1 d1 h2) = omega (arith, shorter_decls d1)
  shorter_head (expr_head e ts rest a f d1 h1) = omega (arith, shorter d1)

  pub shorter_optional : {close : Punctuator} {ts : List Token} {a : Option Expr} {rest : List Token} → ReadsOptional close ts a rest → length rest < length ts
  shorter_optional (absent close t ts h1) = omega arith
  shorter_optional (present close c ts rest a f d1 h1) = omega (arith, shorter d1)

  pub shorter_catch : {ts : List Token} {p : CatchPart} {rest : List Token} → ReadsCatch ts p rest → length rest < length ts
  shorter_catch (catch_all ts rest items d1) = omega (arith, shorter_block d1)
  shorter_catch (catch_name t n c ts rest x items h1 h2 h3 d1) = omega (arith, shorter_block d1)
