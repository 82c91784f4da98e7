-- Worked rows: generator objects and loops over them. Each has its outcome as a report shows it, and mostly its steps.
use Rattle.std.proofs.Common.{◌≡◌, refl}
use Rattle.std.specs.Fmt.{digits}
use Rattle.std.specs.Prelude.{pos, true, false, [], ◌∷◌, Some, None, codes}
use Rattle.std.specs.Str.{chars}
use Rattle.ob_base.specs.Escapes.{unit_text}
use Rattle.ob_base.specs.Utf16.{utf16}
use Rattle.ob_base.specs.declared.operators.AssignOp.TheVariants as A
use Rattle.ob_base.specs.declared.operators.BinaryOp.TheVariants as O
use Rattle.ob_base.specs.declared.operators.CompareOp.TheVariants as C
use Rattle.ob_tree_types.specs.declared.tree.DeclValue.TheBlock as tree
use Rattle.ob_tree_types.specs.declared.tree.DeclValue.TheVariants as d
use Rattle.ob_tree_types.specs.declared.tree.Expr.TheVariants as e
use Rattle.ob_tree_types.specs.declared.tree.Expr.{out-Expr}
use Rattle.ob_tree_types.specs.declared.tree.FnBody.TheVariants as f
use Rattle.ob_tree_types.specs.declared.tree.Function.{Function}
use Rattle.ob_tree_types.specs.declared.tree.Stmt.TheVariants as s
use Rattle.ob_tree_types.specs.declared.tree.Stmt.{out-Stmt}
use Rattle.ob_values.specs.Inspect.{print_body, quoted, is_plain_key, key_text, message_text}
use Rattle.ob_values.specs.PlainOf.{tree_elements, goes_down, plain_from}
use Rattle.ob_values.specs.TextMethods.{cut}
use Rattle.ob_actions.specs.Act.{◌>>=◌}
use Rattle.ob_sem.specs.Whole.{lift, carries}
use Rattle.ob_sem.proofs.RowParts.{fn, decl, catch, run_of, no_texts, shown}

-- { const g = (function* () { const a = yield 1; const b = yield a + 1; return b * 2; })(); return [g.next().value, g.next(5).value, g.next(7), g.next()]; }
text_generator : Function
text_generator = fn None [] false (f.Items (s.Const (decl (codes "g") (d.Value (e.Call (e.Function (fn None [] true (f.Items (s.Const (decl (codes "a") (d.Yield (Some (e.Int (pos 1)))) ∷ []) ∷ s.Const (decl (codes "b") (d.Yield (Some (e.Binary O.Add (e.Name (codes "a")) (e.Int (pos 1))))) ∷ []) ∷ s.Return (Some (e.Binary O.Mul (e.Name (codes "b")) (e.Int (pos 2)))) ∷ [])))) [])) ∷ []) ∷ s.Return (Some (e.Array ((e.Member (e.Call (e.Member (e.Name (codes "g")) (codes "next")) []) (codes "value")) ∷ (e.Member (e.Call (e.Member (e.Name (codes "g")) (codes "next")) ((e.Int (pos 5)) ∷ [])) (codes "value")) ∷ (e.Call (e.Member (e.Name (codes "g")) (codes "next")) ((e.Int (pos 7)) ∷ [])) ∷ (e.Call (e.Member (e.Name (codes "g")) (codes "next")) []) ∷ []))) ∷ []))

row_generator : shown (run_of no_texts text_generator [] 0) ≡ (codes "[1, 6, {value: 14, done: true}, {value: undefined, done: true}]", 28)
unfolding ◌>>=◌ lift carries chars tree.hidden-the_row-Expr-0 tree.hidden-the_row-Expr-2 tree.hidden-the_row-PropNode-1 tree.hidden-the_row-Stmt-3 tree.hidden-the_row-Stmt-5 tree.hidden-the_row-Decl-4 denote.Hole.Carrier.hidden denote.Hole.Carrier.out out-Expr out-Stmt digits utf16 print_body quoted is_plain_key key_text message_text unit_text lib.Utf8.encode cut tree_elements goes_down plain_from text_generator
row_generator = refl

-- { const g = function* () { yield 1; yield 2; yield 3; }; let t = 0; for (let x of g()) { if (x > 2) break; t = t + x; } return t; }
text_forgen : Function
text_forgen = fn None [] false (f.Items (s.Const (decl (codes "g") (d.Value (e.Function (fn None [] true (f.Items (s.Yield None (Some (e.Int (pos 1))) ∷ s.Yield None (Some (e.Int (pos 2))) ∷ s.Yield None (Some (e.Int (pos 3))) ∷ []))))) ∷ []) ∷ s.Let (decl (codes "t") (d.Value (e.Int (pos 0))) ∷ []) ∷ s.ForOf false (codes "x") (e.Call (e.Name (codes "g")) []) (s.Block (s.If (e.Compare C.Greater (e.Name (codes "x")) (e.Int (pos 2))) (s.Break) None ∷ s.Expr (e.Assign A.Set (e.Name (codes "t")) (e.Binary O.Add (e.Name (codes "t")) (e.Name (codes "x")))) ∷ [])) ∷ s.Return (Some (e.Name (codes "t"))) ∷ []))

row_forgen : shown (run_of no_texts text_forgen [] 0) ≡ (codes "3", 10)
unfolding ◌>>=◌ lift carries chars tree.hidden-the_row-Expr-0 tree.hidden-the_row-Expr-2 tree.hidden-the_row-PropNode-1 tree.hidden-the_row-Stmt-3 tree.hidden-the_row-Stmt-5 tree.hidden-the_row-Decl-4 denote.Hole.Carrier.hidden denote.Hole.Carrier.out out-Expr out-Stmt digits utf16 print_body quoted is_plain_key key_text message_text unit_text lib.Utf8.encode cut tree_elements goes_down plain_from text_forgen
row_forgen = refl

-- { const g = (function* () { g.next(); })(); g.next(); }
text_twice : Function
text_twice = fn None [] false (f.Items (s.Const (decl (codes "g") (d.Value (e.Call (e.Function (fn None [] true (f.Items (s.Expr (e.Call (e.Member (e.Name (codes "g")) (codes "next")) []) ∷ [])))) [])) ∷ []) ∷ s.Expr (e.Call (e.Member (e.Name (codes "g")) (codes "next")) []) ∷ []))

row_twice : shown (run_of no_texts text_twice [] 0) ≡ (codes "TypeError: generator is running", 9)
unfolding ◌>>=◌ lift carries chars tree.hidden-the_row-Expr-0 tree.hidden-the_row-Expr-2 tree.hidden-the_row-PropNode-1 tree.hidden-the_row-Stmt-3 tree.hidden-the_row-Stmt-5 tree.hidden-the_row-Decl-4 denote.Hole.Carrier.hidden denote.Hole.Carrier.out out-Expr out-Stmt digits utf16 print_body quoted is_plain_key key_text message_text unit_text lib.Utf8.encode cut tree_elements goes_down plain_from text_twice
row_twice = refl

-- { const g = (function* () { yield 1; yield 2; })(); for (const x of g) { break; } return g.next(); }
text_leaving : Function
text_leaving = fn None [] false (f.Items (s.Const (decl (codes "g") (d.Value (e.Call (e.Function (fn None [] true (f.Items (s.Yield None (Some (e.Int (pos 1))) ∷ s.Yield None (Some (e.Int (pos 2))) ∷ [])))) [])) ∷ []) ∷ s.ForOf true (codes "x") (e.Name (codes "g")) (s.Block (s.Break ∷ [])) ∷ s.Return (Some (e.Call (e.Member (e.Name (codes "g")) (codes "next")) [])) ∷ []))

row_leaving : shown (run_of no_texts text_leaving [] 0) ≡ (codes "{value: undefined, done: true}", 10)
unfolding ◌>>=◌ lift carries chars tree.hidden-the_row-Expr-0 tree.hidden-the_row-Expr-2 tree.hidden-the_row-PropNode-1 tree.hidden-the_row-Stmt-3 tree.hidden-the_row-Stmt-5 tree.hidden-the_row-Decl-4 denote.Hole.Carrier.hidden denote.Hole.Carrier.out out-Expr out-Stmt digits utf16 print_body quoted is_plain_key key_text message_text unit_text lib.Utf8.encode cut tree_elements goes_down plain_from text_leaving
row_leaving = refl

-- { const g = (function* () { yield 1; yield 2; })(); try { for (const x of g) { throw x; } } catch (e) { return [e, g.next()]; } }
text_throwof : Function
text_throwof = fn None [] false (f.Items (s.Const (decl (codes "g") (d.Value (e.Call (e.Function (fn None [] true (f.Items (s.Yield None (Some (e.Int (pos 1))) ∷ s.Yield None (Some (e.Int (pos 2))) ∷ [])))) [])) ∷ []) ∷ s.Try (s.ForOf true (codes "x") (e.Name (codes "g")) (s.Block (s.Throw (e.Name (codes "x")) ∷ [])) ∷ []) (Some (catch (Some (codes "e")) (s.Return (Some (e.Array ((e.Name (codes "e")) ∷ (e.Call (e.Member (e.Name (codes "g")) (codes "next")) []) ∷ []))) ∷ []))) None ∷ []))

row_throwof : shown (run_of no_texts text_throwof [] 0) ≡ (codes "[1, {value: undefined, done: true}]", 13)
unfolding ◌>>=◌ lift carries chars tree.hidden-the_row-Expr-0 tree.hidden-the_row-Expr-2 tree.hidden-the_row-PropNode-1 tree.hidden-the_row-Stmt-3 tree.hidden-the_row-Stmt-5 tree.hidden-the_row-Decl-4 denote.Hole.Carrier.hidden denote.Hole.Carrier.out out-Expr out-Stmt digits utf16 print_body quoted is_plain_key key_text message_text unit_text lib.Utf8.encode cut tree_elements goes_down plain_from text_throwof
row_throwof = refl

-- { const h = function* (n) { if (n > 0) { for (const x of h(n - 1)) yield x; yield n; } }; const r = []; for (const x of h(2)) r.push(x); return r; }
text_nestgen : Function
text_nestgen = fn None [] false (f.Items (s.Const (decl (codes "h") (d.Value (e.Function (fn None ((codes "n") ∷ []) true (f.Items (s.If (e.Compare C.Greater (e.Name (codes "n")) (e.Int (pos 0))) (s.Block (s.ForOf true (codes "x") (e.Call (e.Name (codes "h")) ((e.Binary O.Sub (e.Name (codes "n")) (e.Int (pos 1))) ∷ [])) (s.Yield None (Some (e.Name (codes "x")))) ∷ s.Yield None (Some (e.Name (codes "n"))) ∷ [])) None ∷ []))))) ∷ []) ∷ s.Const (decl (codes "r") (d.Value (e.Array [])) ∷ []) ∷ s.ForOf true (codes "x") (e.Call (e.Name (codes "h")) ((e.Int (pos 2)) ∷ [])) (s.Expr (e.Call (e.Member (e.Name (codes "r")) (codes "push")) ((e.Name (codes "x")) ∷ []))) ∷ s.Return (Some (e.Name (codes "r"))) ∷ []))

row_nestgen : shown (run_of no_texts text_nestgen [] 0) ≡ (codes "[1, 2]", 23)
unfolding ◌>>=◌ lift carries chars tree.hidden-the_row-Expr-0 tree.hidden-the_row-Expr-2 tree.hidden-the_row-PropNode-1 tree.hidden-the_row-Stmt-3 tree.hidden-the_row-Stmt-5 tree.hidden-the_row-Decl-4 denote.Hole.Carrier.hidden denote.Hole.Carrier.out out-Expr out-Stmt digits utf16 print_body quoted is_plain_key key_text message_text unit_text lib.Utf8.encode cut tree_elements goes_down plain_from text_nestgen
row_nestgen = refl

-- { const g = (function* () { yield 1; throw 2; })(); g.next(); try { g.next(); } catch (e) { return [e, g.next()]; } }
text_byathrow : Function
text_byathrow = fn None [] false (f.Items (s.Const (decl (codes "g") (d.Value (e.Call (e.Function (fn None [] true (f.Items (s.Yield None (Some (e.Int (pos 1))) ∷ s.Throw (e.Int (pos 2)) ∷ [])))) [])) ∷ []) ∷ s.Expr (e.Call (e.Member (e.Name (codes "g")) (codes "next")) []) ∷ s.Try (s.Expr (e.Call (e.Member (e.Name (codes "g")) (codes "next")) []) ∷ []) (Some (catch (Some (codes "e")) (s.Return (Some (e.Array ((e.Name (codes "e")) ∷ (e.Call (e.Member (e.Name (codes "g")) (codes "next")) []) ∷ []))) ∷ []))) None ∷ []))

row_byathrow : shown (run_of no_texts text_byathrow [] 0) ≡ (codes "[2, {value: undefined, done: true}]", 18)
unfolding ◌>>=◌ lift carries chars tree.hidden-the_row-Expr-0 tree.hidden-the_row-Expr-2 tree.hidden-the_row-PropNode-1 tree.hidden-the_row-Stmt-3 tree.hidden-the_row-Stmt-5 tree.hidden-the_row-Decl-4 denote.Hole.Carrier.hidden denote.Hole.Carrier.out out-Expr out-Stmt digits utf16 print_body quoted is_plain_key key_text message_text unit_text lib.Utf8.encode cut tree_elements goes_down plain_from text_byathrow
row_byathrow = refl

-- { let f = null; const r = (function* () { yield 1; try { f.next(); } catch (e) { yield e; } })(); f = (function* () { for (const x of r) { yield x; break; } })(); f.next(); return r.next().value; }
text_leftrunning : Function
text_leftrunning = fn None [] false (f.Items (s.Let (decl (codes "f") (d.Value e.Null) ∷ []) ∷ s.Const (decl (codes "r") (d.Value (e.Call (e.Function (fn None [] true (f.Items (s.Yield None (Some (e.Int (pos 1))) ∷ s.Try (s.Expr (e.Call (e.Member (e.Name (codes "f")) (codes "next")) []) ∷ []) (Some (catch (Some (codes "e")) (s.Yield None (Some (e.Name (codes "e"))) ∷ []))) None ∷ [])))) [])) ∷ []) ∷ s.Expr (e.Assign A.Set (e.Name (codes "f")) (e.Call (e.Function (fn None [] true (f.Items (s.ForOf true (codes "x") (e.Name (codes "r")) (s.Block (s.Yield None (Some (e.Name (codes "x"))) ∷ s.Break ∷ [])) ∷ [])))) [])) ∷ s.Expr (e.Call (e.Member (e.Name (codes "f")) (codes "next")) []) ∷ s.Return (Some (e.Member (e.Call (e.Member (e.Name (codes "r")) (codes "next")) []) (codes "value"))) ∷ []))

row_leftrunning : (shown (run_of no_texts text_leftrunning [] 0)).0 ≡ codes "TypeError(\"generator is running\")"
unfolding ◌>>=◌ lift carries chars tree.hidden-the_row-Expr-0 tree.hidden-the_row-Expr-2 tree.hidden-the_row-PropNode-1 tree.hidden-the_row-Stmt-3 tree.hidden-the_row-Stmt-5 tree.hidden-the_row-Decl-4 denote.Hole.Carrier.hidden denote.Hole.Carrier.out out-Expr out-Stmt digits utf16 print_body quoted is_plain_key key_text message_text unit_text lib.Utf8.encode cut tree_elements goes_down plain_from text_leftrunning
row_leftrunning = refl

-- { let f = null; const r = (function* () { yield 1; try { f.next(); } catch (e) { yield e; } })(); f = (function* () { for (const x of r) { yield x; throw 7; } })(); f.next(); return r.next().value; }
text_thrownrunning : Function
text_thrownrunning = fn None [] false (f.Items (s.Let (decl (codes "f") (d.Value e.Null) ∷ []) ∷ s.Const (decl (codes "r") (d.Value (e.Call (e.Function (fn None [] true (f.Items (s.Yield None (Some (e.Int (pos 1))) ∷ s.Try (s.Expr (e.Call (e.Member (e.Name (codes "f")) (codes "next")) []) ∷ []) (Some (catch (Some (codes "e")) (s.Yield None (Some (e.Name (codes "e"))) ∷ []))) None ∷ [])))) [])) ∷ []) ∷ s.Expr (e.Assign A.Set (e.Name (codes "f")) (e.Call (e.Function (fn None [] true (f.Items (s.ForOf true (codes "x") (e.Name (codes "r")) (s.Block (s.Yield None (Some (e.Name (codes "x"))) ∷ s.Throw (e.Int (pos 7)) ∷ [])) ∷ [])))) [])) ∷ s.Expr (e.Call (e.Member (e.Name (codes "f")) (codes "next")) []) ∷ s.Return (Some (e.Member (e.Call (e.Member (e.Name (codes "r")) (codes "next")) []) (codes "value"))) ∷ []))

row_thrownrunning : (shown (run_of no_texts text_thrownrunning [] 0)).0 ≡ codes "7"
unfolding ◌>>=◌ lift carries chars tree.hidden-the_row-Expr-0 tree.hidden-the_row-Expr-2 tree.hidden-the_row-PropNode-1 tree.hidden-the_row-Stmt-3 tree.hidden-the_row-Stmt-5 tree.hidden-the_row-Decl-4 denote.Hole.Carrier.hidden denote.Hole.Carrier.out out-Expr out-Stmt digits utf16 print_body quoted is_plain_key key_text message_text unit_text lib.Utf8.encode cut tree_elements goes_down plain_from text_thrownrunning
row_thrownrunning = refl

-- { const f = function* () { return 5; }; const g = f(); return [g.next(), g.next()]; }
text_returnsof : Function
text_returnsof = fn None [] false (f.Items (s.Const (decl (codes "f") (d.Value (e.Function (fn None [] true (f.Items (s.Return (Some (e.Int (pos 5))) ∷ []))))) ∷ []) ∷ s.Const (decl (codes "g") (d.Value (e.Call (e.Name (codes "f")) [])) ∷ []) ∷ s.Return (Some (e.Array ((e.Call (e.Member (e.Name (codes "g")) (codes "next")) []) ∷ (e.Call (e.Member (e.Name (codes "g")) (codes "next")) []) ∷ []))) ∷ []))

row_returnsof : (shown (run_of no_texts text_returnsof [] 0)).0 ≡ codes "[{value: 5, done: true}, {value: undefined, done: true}]"
unfolding ◌>>=◌ lift carries chars tree.hidden-the_row-Expr-0 tree.hidden-the_row-Expr-2 tree.hidden-the_row-PropNode-1 tree.hidden-the_row-Stmt-3 tree.hidden-the_row-Stmt-5 tree.hidden-the_row-Decl-4 denote.Hole.Carrier.hidden denote.Hole.Carrier.out out-Expr out-Stmt digits utf16 print_body quoted is_plain_key key_text message_text unit_text lib.Utf8.encode cut tree_elements goes_down plain_from text_returnsof
row_returnsof = refl

-- { const g = (function* () { const a = yield 1; yield a; })(); const r = []; for (const x of g) r.push(x); return r; }
text_sendsundefined : Function
text_sendsundefined = fn None [] false (f.Items (s.Const (decl (codes "g") (d.Value (e.Call (e.Function (fn None [] true (f.Items (s.Const (decl (codes "a") (d.Yield (Some (e.Int (pos 1)))) ∷ []) ∷ s.Yield None (Some (e.Name (codes "a"))) ∷ [])))) [])) ∷ []) ∷ s.Const (decl (codes "r") (d.Value (e.Array [])) ∷ []) ∷ s.ForOf true (codes "x") (e.Name (codes "g")) (s.Expr (e.Call (e.Member (e.Name (codes "r")) (codes "push")) ((e.Name (codes "x")) ∷ []))) ∷ s.Return (Some (e.Name (codes "r"))) ∷ []))

row_sendsundefined : (shown (run_of no_texts text_sendsundefined [] 0)).0 ≡ codes "[1, undefined]"
unfolding ◌>>=◌ lift carries chars tree.hidden-the_row-Expr-0 tree.hidden-the_row-Expr-2 tree.hidden-the_row-PropNode-1 tree.hidden-the_row-Stmt-3 tree.hidden-the_row-Stmt-5 tree.hidden-the_row-Decl-4 denote.Hole.Carrier.hidden denote.Hole.Carrier.out out-Expr out-Stmt digits utf16 print_body quoted is_plain_key key_text message_text unit_text lib.Utf8.encode cut tree_elements goes_down plain_from text_sendsundefined
row_sendsundefined = refl
