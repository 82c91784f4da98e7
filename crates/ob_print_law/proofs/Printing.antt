-- What is read from some tokens is read from its printed tokens again: by induction over the first reading.
use Rattle.std.proofs.Common.{◌≡◌, ℕ, Bool, List, [], Option, Some, subst}
use Rattle.ob_base.specs.declared.operators.BinaryOp.TheVariants.{Pow}
use Rattle.ob_base.specs.declared.reserved.ReservedWord.TheVariants as word
use Rattle.ob_lex.specs.declared.punctuator.Punctuator.{Punctuator}
use Rattle.ob_lex.specs.declared.token.Token.{Token}
use Rattle.ob_lex.specs.declared.token.TokenKind.{TokenKind}
use Rattle.ob_lex.specs.declared.token.TokenKind.TheVariants as kind
use Rattle.ob_tree_types.specs.declared.tree.Expr.{Expr}
use Rattle.ob_tree_types.specs.declared.tree.PropNode.{PropNode}
use Rattle.ob_tree_types.specs.declared.tree.Function.{Function}
use Rattle.ob_tree_types.specs.declared.tree.FnBody.{FnBody}
use Rattle.ob_tree_types.specs.declared.tree.Decl.{Decl}
use Rattle.ob_tree_types.specs.declared.tree.Stmt.{Stmt}
use Rattle.ob_tree_types.specs.declared.tree.ForHead.{ForHead}
use Rattle.ob_tree_types.specs.declared.tree.CatchPart.{CatchPart}
use Rattle.ob_grammar.specs.declared.form.Form.{Form}
use Rattle.ob_grammar.specs.declared.form.Form.TheVariants.{Target, Other}
use Rattle.ob_grammar.specs.declared.piece.Signature.{Signature}
use Rattle.ob_grammar.specs.Marks.{NotWord, literal_of}
use Rattle.ob_grammar.specs.Forms.{edge, Ends, written, before_brace, at_end, at_line}
use Rattle.ob_grammar.specs.Lists.{ReadsNames, no_names, last_name, more_names, ReadsParams, params, ReadsArrowHead, one_param, all_params, ReadsStar, star, no_star, ReadsOwnName, own_name, no_name, ReadsSignature, signature}
use Rattle.ob_grammar.specs.Grammar.{Rule, Reads, Continues, Steps, ReadsList, ReadsProps, ReadsProp, ReadsArrowBody, ReadsFunction, ReadsBlock, ReadsItems, ReadsItem, ReadsDecls, ReadsDecl, ReadsYield, ReadsStmt, ReadsTest, ReadsHead, ReadsOptional, ReadsCatch}
use Rattle.ob_grammar.specs.Grammar.{arrow, assigned, unassigned, chosen, unchosen, disjoined, coalesced, operands, unraised, raised, signed, unsigned, counted_before, counted_behind, uncounted, steps, literal, name, viewof_name, made, parentheses, array, object, function_expression, no_more, goes_on, no_step, member, index, call, no_item, last_item, more_list, no_prop, last_prop, more_props, short_prop, fixed_prop, computed_prop, block_body, value_body, function, block, no_items, more_items, statement, let_item, const_item, function_item, last_decl, more_decls, decl_name, decl_value, decl_yield, yield_alone, yield_value, block_statement, empty, expression, yielded, yield_assigned, changed, stepped, if_alone, if_else, while_loop, do_loop, do_loop_ended, for_loop, for_of, break, continue, return_alone, return_value, throw, try_catch, test, no_head, let_head, const_head, expr_head, absent, present, catch_all, catch_name}
use Rattle.ob_print_law.proofs.Valid.{ValidKind, Valid, named}
use Rattle.ob_print_law.proofs.Words as spelt
use Rattle.ob_print_law.proofs.Keys.{word_reads, key_reads}
use Rattle.ob_print_law.proofs.Expressions.{Prints, edge_no_target, other_no_target, name_prints, viewof_prints, int_prints, text_prints, true_prints, false_prints, null_prints, undefined_prints, binary_prints, joined_prints, unary_prints, before_prints, behind_prints, assign_prints, cond_prints, member_prints, index_prints}
use Rattle.ob_print_law.proofs.Listed.{EachExpr, no_exprs, more_exprs, array_prints, call_prints, new_prints, ValidNames}
use Rattle.ob_print_law.proofs.Functions.{ItemPrints, EachItem, ValidOwn, FunctionPrints, function_prints, expression_prints, BodyPrints, block_body_prints, value_body_prints, arrow_prints, EachProp, PropPrints, object_prints, short_prints, fixed_prints, computed_prints}
use Rattle.ob_print_law.proofs.Declarations.{Printed, printed, MayPrint, DeclPrints, name_decl, value_decl, yield_decl, AllDeclare, last_declares, more_declare, HeadPrints, no_head_prints, let_head_prints, const_head_prints, expr_head_prints}
use Rattle.ob_print_law.proofs.Statements as stmts
use Rattle.ob_print_law.proofs.Statements.{StmtPrints, CatchPrints}

-- ---- small parts

ends_valid : {f : Form} {ts rest : List Token} → Ends f ts rest → Valid ts → Valid rest
ends_valid (written t ts h) v = v.1
ends_valid (before_brace t ts h) v = v
ends_valid at_end v = v
ends_valid (at_line t ts h d) v = v

names_valid : {ts : List Token} {xs : List (List ℕ)} {rest : List Token} → ReadsNames ts xs rest → Valid ts → ValidNames xs × Valid rest
names_valid (no_names t ts h) v = (tt, v.1)
names_valid (last_name t c ts x h1 h2) v = ((named x t h1 v.0, tt), v.1.1)
names_valid (more_names t c ts rest x xs h1 h2 d) v = let p = names_valid d v.1.1 in ((named x t h1 v.0, p.0), p.1)

params_valid : {ts : List Token} {xs : List (List ℕ)} {rest : List Token} → ReadsParams ts xs rest → Valid ts → ValidNames xs × Valid rest
params_valid (params t ts rest xs h d) v = names_valid d v.1

head_valid : {ts : List Token} {xs : List (List ℕ)} {rest : List Token} → ReadsArrowHead ts xs rest → Valid ts → ValidNames xs × Valid rest
head_valid (one_param t ts x h) v = ((named x t h v.0, tt), v.1)
head_valid (all_params ts rest xs d) v = params_valid d v

star_valid : {ts : List Token} {b : Bool} {rest : List Token} → ReadsStar ts b rest → Valid ts → Valid rest
star_valid (star t ts h) v = v.1
star_valid (no_star ts) v = v

own_valid : {ts : List Token} {x : Option (List ℕ)} {rest : List Token} → ReadsOwnName ts x rest → Valid ts → ValidOwn x × Valid rest
own_valid (own_name t ts x h) v = (named x t h v.0, v.1)
own_valid (no_name ts) v = (tt, v)

signature_valid : {ts : List Token} {s : Signature} {rest : List Token} → ReadsSignature ts s rest → Valid ts → ValidOwn s.name × (ValidNames s.params × Valid rest)
signature_valid (signature ts own list rest g x xs a b c) v = let p = own_valid b (star_valid a v) in let q = params_valid c p.1 in (p.0, (q.0, q.1))

body_no_target : {ts : List Token} {b : FnBody} {f : Form} {rest : List Token} → ReadsArrowBody ts b f rest → f ≡ Target → ⊥
body_no_target (block_body ts rest items d) e = cc
body_no_target (value_body ts rest a f h d) e = edge_no_target f e

-- in parentheses it is no target
as_other : {a : Expr} {f : Form} → Prints a f → Prints a Other
as_other p = record { lexes = p.lexes; some = p.some; at_whole = p.at_whole; at_left = p.at_left; as_target = λ e. absurd (other_no_target e) }

same_tree : {a b : Expr} → Some a ≡ Some b → Prints a Other → Prints b Other
same_tree {a} {b} e p = let h : a ≡ b = cc in subst (λ c. Prints c Other) h p

literal_prints : (k : TokenKind) (a : Expr) → ValidKind k → literal_of k ≡ Some a → Prints a Other
unfolding literal_of
literal_prints (kind.Number n) a v e = same_tree e (int_prints n v)
literal_prints (kind.Text units) a v e = same_tree e (text_prints units v)
literal_prints (kind.Reserved word.True) a v e = same_tree e (true_prints spelt.true_lexes)
literal_prints (kind.Reserved word.False) a v e = same_tree e (false_prints spelt.false_lexes)
literal_prints (kind.Reserved word.Null) a v e = same_tree e (null_prints spelt.null_lexes)
literal_prints (kind.Reserved word.Undefined) a v e = same_tree e (undefined_prints spelt.undefined_lexes)
literal_prints _ a v e = cc

-- ---- constructor by constructor

mutual
  pub prints : {r : Rule} {ts : List Token} {a : Expr} {f : Form} {rest : List Token} → Reads r ts a f rest → Valid ts → Prints a f × Valid rest
  prints (arrow ts mid rest t xs b f h1 h2 h3 d) v =
      let p = head_valid h1 v in let q = body_prints d p.1.1 in (arrow_prints xs b f p.0 q.0 (body_no_target d), q.1)
  prints (assigned ts mid rest t o a b f d1 h d2) v = let p = prints d1 v in let q = prints d2 p.1.1 in (assign_prints o p.0 q.0, q.1)
  prints (unassigned ts rest a f d) v = prints d v
  prints (chosen ts first second rest q c a b e f g h d1 h1 d2 h2 d3) v =
      let i = prints d1 v in let j = prints d2 i.1.1 in let k = prints d3 j.1.1 in (cond_prints i.0 j.0 k.0, k.1)
  prints (unchosen ts rest a f d) v = prints d v
  prints (disjoined ts rest a f d) v = prints d v
  prints (coalesced ts mid rest first a f g d1 d2) v = let p = prints d1 v in continued d2 p.0 p.1
  prints (operands k ts mid rest first a f g d1 d2) v = let p = prints d1 v in continued d2 p.0 p.1
  prints (unraised ts rest a f d) v = prints d v
  prints (raised ts mid rest t a b f g d1 h d2) v =
      let p = prints d1 v in let q = prints d2 p.1.1 in (binary_prints Pow (edge g) p.0 q.0 (edge_no_target g), q.1)
  prints (signed t ts rest o a f h d) v = let p = prints d v.1 in (unary_prints o spelt.typeof_lexes spelt.void_lexes p.0, p.1)
  prints (unsigned ts rest a f d) v = prints d v
  prints (counted_before t ts rest o a h d) v = let p = prints d v.1 in (before_prints o p.0, p.1)
  prints (counted_behind ts rest t o a d h1 h2) v = let p = prints d v in (behind_prints o p.0, p.1.1)
  prints (uncounted ts rest a f d) v = prints d v
  prints (steps ts mid rest first a f g d1 d2) v = let p = prints d1 v in stepped_on d2 p.0 p.1
  prints (literal t ts a h) v = (literal_prints t.kind a v.0 h, v.1)
  prints (name t ts x h) v = (name_prints x Target (named x t h v.0), v.1)
  prints (viewof_name t n ts x h1 h2) v = (viewof_prints x (named x n h2 v.1.0) spelt.viewof_lexes, v.1.1)
  prints (made t n p ts rest x args h1 h2 h3 d) v = let q = list_prints d v.1.1.1 in (new_prints x args spelt.new_lexes (named x n h2 v.1.0) q.0, q.1)
  prints (parentheses t c ts rest a f h1 d h2) v = let p = prints d v.1 in (as_other p.0, p.1.1)
  prints (array t ts rest items h d) v = let q = list_prints d v.1 in (array_prints items q.0, q.1)
  prints (object t ts rest ps h d) v = let q = props_print d v.1 in (object_prints ps q.0, q.1)
  prints (function_expression ts rest g d) v = let q = function_print d v in (expression_prints g q.0, q.1)

  continued : {r : Rule} {n : ℕ} {a b : Expr} {f g : Form} {ts rest : List Token} → Continues r n a f ts b g rest → Prints a f → Valid ts → Prints b g × Valid rest
  continued (no_more r n a f ts) p v = (p, v)
  continued (goes_on r n a b c f g h t ts mid rest o hr ho d1 d2) p v = let q = prints d1 v.1 in continued d2 (joined_prints o p q.0) q.1

  stepped_on : {a b : Expr} {f g : Form} {ts rest : List Token} → Steps a f ts b g rest → Prints a f → Valid ts → Prints b g × Valid rest
  stepped_on (no_step a f ts) p v = (p, v)
  stepped_on (member a b f g t n x ts rest h1 h2 d) p v = let w = word_reads n.kind x v.1.0 h2 in stepped_on d (member_prints x p w.0 w.1) v.1.1
  stepped_on (index a b k f g h t c ts mid rest h1 d1 h2 d2) p v = let q = prints d1 v.1 in stepped_on d2 (index_prints p q.0) q.1.1
  stepped_on (call a b f g t args ts mid rest h d1 d2) p v = let q = list_prints d1 v.1 in stepped_on d2 (call_prints args p q.0) q.1

  list_prints : {close : Punctuator} {ts : List Token} {items : List Expr} {rest : List Token} → ReadsList close ts items rest → Valid ts → EachExpr items × Valid rest
  list_prints (no_item close t ts h) v = (no_exprs, v.1)
  list_prints (last_item close c ts rest a f d h) v = let p = prints d v in (more_exprs [] p.0 no_exprs, p.1.1)
  list_prints (more_list close c ts mid rest a f items d h d2) v = let p = prints d v in let q = list_prints d2 p.1.1 in (more_exprs items p.0 q.0, q.1)

  props_print : {ts : List Token} {ps : List PropNode} {rest : List Token} → ReadsProps ts ps rest → Valid ts → EachProp ps × Valid rest
  props_print (no_prop t ts h) v = (tt, v.1)
  props_print (last_prop c ts rest p d h) v = let q = prop_print d v in ((q.0, tt), q.1.1)
  props_print (more_props c ts mid rest p ps d h d2) v = let q = prop_print d v in let r = props_print d2 q.1.1 in ((q.0, r.0), r.1)

  prop_print : {ts : List Token} {p : PropNode} {rest : List Token} → ReadsProp ts p rest → Valid ts → PropPrints p × Valid rest
  prop_print (short_prop t ts x h) v = (short_prints x (named x t h v.0), v.1)
  prop_print (fixed_prop t c ts rest key a f h1 h2 d) v = let p = prints d v.1.1 in (fixed_prints key (key_reads t.kind key v.0 h1) p.0, p.1)
  prop_print (computed_prop t e c ts mid rest k a f g h1 d1 h2 h3 d2) v = let p = prints d1 v.1 in let q = prints d2 p.1.1.1 in (computed_prints p.0 q.0, q.1)

  body_prints : {ts : List Token} {b : FnBody} {f : Form} {rest : List Token} → ReadsArrowBody ts b f rest → Valid ts → BodyPrints b × Valid rest
  body_prints (block_body ts rest items d) v = let q = block_print d v in (block_body_prints items q.0, q.1)
  body_prints (value_body ts rest a f h d) v = let p = prints d v in (value_body_prints p.0, p.1)

  pub function_print : {ts : List Token} {g : Function} {rest : List Token} → ReadsFunction ts g rest → Valid ts → FunctionPrints g × Valid rest
  function_print (function t ts mid rest g items h1 h2 d) v =
      let p = signature_valid h2 v.1 in
      let q = block_print d p.1.1 in
      (function_prints g items spelt.function_lexes (record { own = p.0; params = p.1.0; items = q.0 }), q.1)

  pub block_print : {ts : List Token} {items : List Stmt} {rest : List Token} → ReadsBlock ts items rest → Valid ts → EachItem items × Valid rest
  block_print (block t ts rest items h d) v = items_print d v.1

  items_print : {ts : List Token} {items : List Stmt} {rest : List Token} → ReadsItems ts items rest → Valid ts → EachItem items × Valid rest
  items_print (no_items t ts h) v = (tt, v.1)
  items_print (more_items ts mid rest a items d1 d2) v = let p = item_print d1 v in let q = items_print d2 p.1 in ((p.0, q.0), q.1)

  item_print : {ts : List Token} {a : Stmt} {rest : List Token} → ReadsItem ts a rest → Valid ts → ItemPrints a × Valid rest
  item_print (statement ts rest a d) v = let p = stmt_print d v in (stmts.statement_prints p.0, p.1)
  item_print (let_item t ts mid rest ds f h d e) v = let p = decls_print d v.1 in (stmts.let_prints p.0, ends_valid e p.1)
  item_print (const_item t ts mid rest ds f h d e) v = let p = decls_print d v.1 in (stmts.const_prints p.0, ends_valid e p.1)
  item_print (function_item ts rest g x d h) v = let p = function_print d v in (stmts.function_item_prints x h p.0, p.1)

  decls_print : {ts : List Token} {ds : List Decl} {f : Form} {rest : List Token} → ReadsDecls ts ds f rest → Valid ts → AllDeclare ds × Valid rest
  decls_print (last_decl ts rest a f d) v = let p = decl_print d v in (last_declares p.0, p.1)
  decls_print (more_decls c ts mid rest a ds f g d h d2) v = let p = decl_print d v in let q = decls_print d2 p.1.1 in (more_declare d2 p.0 q.0, q.1)

  decl_print : {ts : List Token} {a : Decl} {f : Form} {rest : List Token} → ReadsDecl ts a f rest → Valid ts → DeclPrints a × Valid rest
  decl_print (decl_name t ts x h) v = (name_decl x (named x t h v.0), v.1)
  decl_print (decl_value t q ts rest x a f h1 h2 d) v = let p = prints d v.1.1 in (value_decl x a (named x t h1 v.0) (printed p.0), p.1)
  decl_print (decl_yield t q ts rest x a f h1 h2 d) v = let p = yield_print d v.1.1 in (yield_decl x a (named x t h1 v.0) spelt.yield_lexes p.0, p.1)

  yield_print : {ts : List Token} {a : Option Expr} {f : Form} {rest : List Token} → ReadsYield ts a f rest → Valid ts → MayPrint a × Valid rest
  yield_print (yield_alone t ts h) v = (tt, v.1)
  yield_print (yield_value t ts rest a f h1 h2 d) v = let p = prints d v.1 in (printed p.0, p.1)

  stmt_print : {ts : List Token} {a : Stmt} {rest : List Token} → ReadsStmt ts a rest → Valid ts → StmtPrints (NotWord word.Else rest) a × Valid rest
  stmt_print (block_statement ts rest items d) v = let p = block_print d v in (stmts.block_prints items p.0, p.1)
  stmt_print (empty t ts h) v = (stmts.empty_prints, v.1)
  stmt_print (expression ts mid rest a f h1 h2 d e) v = let p = prints d v in (stmts.expression_stmt (printed p.0), ends_valid e p.1)
  stmt_print (yielded ts mid rest a f d e) v = let p = yield_print d v in (stmts.yielded_prints a spelt.yield_lexes p.0, ends_valid e p.1)
  stmt_print (yield_assigned t q ts mid rest x a f h1 h2 d e) v =
      let p = yield_print d v.1.1 in (stmts.yield_assigned_prints x a (named x t h1 v.0) spelt.yield_lexes p.0, ends_valid e p.1)
  stmt_print (changed t n q ts mid rest x o a f h1 h2 h3 d e) v =
      let p = prints d v.1.1.1 in (stmts.changed_prints x o q.kind h3 (named x n h2 v.1.0) (printed p.0), ends_valid e p.1)
  stmt_print (stepped t n q ts rest x o h1 h2 h3 h4 e) v = (stmts.stepped_prints x o q.kind h3 (named x n h2 v.1.0), ends_valid e v.1.1.1)
  stmt_print (if_alone t ts mid rest a b h d1 d2 unmet) v = let p = test_print d1 v.1 in let q = stmt_print d2 p.1 in (stmts.if_alone_prints unmet p.0 q.0, q.1)
  stmt_print (if_else t e ts mid next rest a b c h1 d1 d2 h2 d3) v =
      let p = test_print d1 v.1 in let q = stmt_print d2 p.1 in let r = stmt_print d3 q.1.1 in (stmts.if_else_prints (λ unmet. unmet h2) p.0 q.0 r.0, r.1)
  stmt_print (while_loop t ts mid rest a b h d1 d2) v = let p = test_print d1 v.1 in let q = stmt_print d2 p.1 in (stmts.while_prints p.0 q.0, q.1)
  stmt_print (do_loop t w ts mid rest b a h1 d1 h2 d2 unmet) v = let q = stmt_print d1 v.1 in let p = test_print d2 q.1.1 in (stmts.do_prints q.0 p.0, p.1)
  stmt_print (do_loop_ended t w e ts mid rest b a h1 d1 h2 d2 h3) v = let q = stmt_print d1 v.1 in let p = test_print d2 q.1.1 in (stmts.do_prints q.0 p.0, p.1.1)
  stmt_print (for_loop t p ts tested counted turn rest h a b c h1 h2 d1 d2 d3 d4) v =
      let i = head_print d1 v.1.1 in
      let j = optional_print d2 i.1 in
      let k = optional_print d3 j.1 in
      let l = stmt_print d4 k.1 in
      (stmts.for_prints h a b i.0 j.0 k.0 l.0, l.1)
  stmt_print (for_of t p d n o c ts mid rest constant x a f b h1 h2 h3 h4 h5 d1 h6 d2) v =
      let i = prints d1 v.1.1.1.1.1 in let j = stmt_print d2 i.1.1 in (stmts.for_of_prints constant x (named x n h4 v.1.1.1.0) (printed i.0) j.0, j.1)
  stmt_print (break t ts rest h e) v = (stmts.break_prints, ends_valid e v.1)
  stmt_print (continue t ts rest h e) v = (stmts.continue_prints, ends_valid e v.1)
  stmt_print (return_alone t ts rest h e) v = (stmts.return_alone_prints, ends_valid e v.1)
  stmt_print (return_value t ts mid rest a f h1 h2 d e) v = let p = prints d v.1 in (stmts.return_value_prints (printed p.0), ends_valid e p.1)
  stmt_print (throw t ts mid rest a f h1 h2 d e) v = let p = prints d v.1 in (stmts.throw_prints (printed p.0), ends_valid e p.1)
  stmt_print (try_catch t c ts mid rest items p h1 d1 h2 d2) v =
      let i = block_print d1 v.1 in let j = catch_print d2 i.1.1 in (stmts.try_prints items p i.0 j.0, j.1)

  test_print : {ts : List Token} {a : Expr} {rest : List Token} → ReadsTest ts a rest → Valid ts → Printed a × Valid rest
  test_print (test t c ts rest a f h1 d h2) v = let p = prints d v.1 in (printed p.0, p.1.1)

  head_print : {ts : List Token} {h : ForHead} {rest : List Token} → ReadsHead ts h rest → Valid ts → HeadPrints h × Valid rest
  head_print (no_head t ts h) v = (no_head_prints, v.1)
  head_print (let_head t e ts rest ds f h1 d h2) v = let p = decls_print d v.1 in (let_head_prints spelt.let_lexes p.0, p.1.1)
  head_print (const_head t e ts rest ds f h1 d h2) v = let p = decls_print d v.1 in (const_head_prints spelt.const_lexes p.0, p.1.1)
  head_print (expr_head e ts rest a f d h) v = let p = prints d v in (expr_head_prints (printed p.0), p.1.1)

  optional_print : {close : Punctuator} {ts : List Token} {a : Option Expr} {rest : List Token} → ReadsOptional close ts a rest → Valid ts → MayPrint a × Valid rest
  optional_print (absent close t ts h) v = (tt, v.1)
  optional_print (present close c ts rest a f d h) v = let p = prints d v in (printed p.0, p.1.1)

  catch_print : {ts : List Token} {p : CatchPart} {rest : List Token} → ReadsCatch ts p rest → Valid ts → CatchPrints p × Valid rest
  catch_print (catch_all ts rest items d) v = let q = block_print d v in ((tt, q.0), q.1)
  catch_print (catch_name t n c ts rest x items h1 h2 h3 d) v = let q = block_print d v.1.1.1 in ((named x n h2 v.1.0, q.0), q.1)
