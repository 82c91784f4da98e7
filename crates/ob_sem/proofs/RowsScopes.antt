-- Worked rows: scopes, captured bindings and function values. Each has its outcome as a report shows it, and mostly its steps.
use Rattle.std.proofs.Common.{◌≡◌, refl}
use Rattle.std.specs.Fmt.{digits}
use Rattle.std.specs.Prelude.{pos, true, false, [], ◌∷◌, Some, None, codes}
use Rattle.std.specs.Str.{chars}
use Rattle.ob_base.specs.Escapes.{unit_text}
use Rattle.ob_base.specs.Utf16.{utf16}
use Rattle.ob_base.specs.declared.operators.AssignOp.TheVariants as A
use Rattle.ob_base.specs.declared.operators.BinaryOp.TheVariants as O
use Rattle.ob_base.specs.declared.operators.CompareOp.TheVariants as C
use Rattle.ob_base.specs.declared.operators.UnaryOp.TheVariants as U
use Rattle.ob_base.specs.declared.operators.UpdateOp.TheVariants as P
use Rattle.ob_tree_types.specs.declared.tree.DeclValue.TheBlock as tree
use Rattle.ob_tree_types.specs.declared.tree.DeclValue.TheVariants as d
use Rattle.ob_tree_types.specs.declared.tree.Expr.TheVariants as e
use Rattle.ob_tree_types.specs.declared.tree.Expr.{out-Expr}
use Rattle.ob_tree_types.specs.declared.tree.FnBody.TheVariants as f
use Rattle.ob_tree_types.specs.declared.tree.ForHead.TheVariants as h
use Rattle.ob_tree_types.specs.declared.tree.Function.{Function}
use Rattle.ob_tree_types.specs.declared.tree.Stmt.TheVariants as s
use Rattle.ob_tree_types.specs.declared.tree.Stmt.{out-Stmt}
use Rattle.ob_values.specs.Inspect.{print_body, quoted, is_plain_key, key_text, message_text}
use Rattle.ob_values.specs.PlainOf.{tree_elements, goes_down, plain_from}
use Rattle.ob_values.specs.TextMethods.{cut}
use Rattle.ob_actions.specs.Act.{◌>>=◌}
use Rattle.ob_sem.specs.Whole.{lift, carries}
use Rattle.ob_sem.proofs.RowParts.{fn, decl, catch, run_of, no_texts, shown}

-- { const fs = []; for (let i = 0; i < 2; i++) { fs.push(() => i); } return [fs[0](), fs[1]()]; }
text_closures : Function
text_closures = fn None [] false (f.Items (s.Const (decl (codes "fs") (d.Value (e.Array [])) ∷ []) ∷ s.For (h.Let (decl (codes "i") (d.Value (e.Int (pos 0))) ∷ [])) (Some (e.Compare C.Less (e.Name (codes "i")) (e.Int (pos 2)))) (Some (e.Update P.Up false (e.Name (codes "i")))) (s.Block (s.Expr (e.Call (e.Member (e.Name (codes "fs")) (codes "push")) ((e.Arrow (fn None [] false (f.Value (e.Name (codes "i"))))) ∷ [])) ∷ [])) ∷ s.Return (Some (e.Array ((e.Call (e.Index (e.Name (codes "fs")) (e.Int (pos 0))) []) ∷ (e.Call (e.Index (e.Name (codes "fs")) (e.Int (pos 1))) []) ∷ []))) ∷ []))

row_closures : shown (run_of no_texts text_closures [] 0) ≡ (codes "[0, 1]", 19)
unfolding ◌>>=◌ lift carries chars tree.hidden-the_row-Expr-0 tree.hidden-the_row-Expr-2 tree.hidden-the_row-PropNode-1 tree.hidden-the_row-Stmt-3 tree.hidden-the_row-Stmt-5 tree.hidden-the_row-Decl-4 denote.Hole.Carrier.hidden denote.Hole.Carrier.out out-Expr out-Stmt digits utf16 print_body quoted is_plain_key key_text message_text unit_text lib.Utf8.encode cut tree_elements goes_down plain_from text_closures
row_closures = refl

-- { const f = () => z; f(); let z = 1; }
text_tdz : Function
text_tdz = fn None [] false (f.Items (s.Const (decl (codes "f") (d.Value (e.Arrow (fn None [] false (f.Value (e.Name (codes "z")))))) ∷ []) ∷ s.Expr (e.Call (e.Name (codes "f")) []) ∷ s.Let (decl (codes "z") (d.Value (e.Int (pos 1))) ∷ []) ∷ []))

row_tdz : shown (run_of no_texts text_tdz [] 0) ≡ (codes "ReferenceError: used before its declaration", 5)
unfolding ◌>>=◌ lift carries chars tree.hidden-the_row-Expr-0 tree.hidden-the_row-Expr-2 tree.hidden-the_row-PropNode-1 tree.hidden-the_row-Stmt-3 tree.hidden-the_row-Stmt-5 tree.hidden-the_row-Decl-4 denote.Hole.Carrier.hidden denote.Hole.Carrier.out out-Expr out-Stmt digits utf16 print_body quoted is_plain_key key_text message_text unit_text lib.Utf8.encode cut tree_elements goes_down plain_from text_tdz
row_tdz = refl

-- { const a = 1; a = 2; }
text_constant : Function
text_constant = fn None [] false (f.Items (s.Const (decl (codes "a") (d.Value (e.Int (pos 1))) ∷ []) ∷ s.Expr (e.Assign A.Set (e.Name (codes "a")) (e.Int (pos 2))) ∷ []))

row_constant : shown (run_of no_texts text_constant [] 0) ≡ (codes "TypeError: constant", 2)
unfolding ◌>>=◌ lift carries chars tree.hidden-the_row-Expr-0 tree.hidden-the_row-Expr-2 tree.hidden-the_row-PropNode-1 tree.hidden-the_row-Stmt-3 tree.hidden-the_row-Stmt-5 tree.hidden-the_row-Decl-4 denote.Hole.Carrier.hidden denote.Hole.Carrier.out out-Expr out-Stmt digits utf16 print_body quoted is_plain_key key_text message_text unit_text lib.Utf8.encode cut tree_elements goes_down plain_from text_constant
row_constant = refl

-- { const x = 1; const f = () => { const x = 2; { const x = 3; return () => x; } }; return [x, f()()]; }
text_shadow : Function
text_shadow = fn None [] false (f.Items (s.Const (decl (codes "x") (d.Value (e.Int (pos 1))) ∷ []) ∷ s.Const (decl (codes "f") (d.Value (e.Arrow (fn None [] false (f.Items (s.Const (decl (codes "x") (d.Value (e.Int (pos 2))) ∷ []) ∷ s.Block (s.Const (decl (codes "x") (d.Value (e.Int (pos 3))) ∷ []) ∷ s.Return (Some (e.Arrow (fn None [] false (f.Value (e.Name (codes "x")))))) ∷ []) ∷ []))))) ∷ []) ∷ s.Return (Some (e.Array ((e.Name (codes "x")) ∷ (e.Call (e.Call (e.Name (codes "f")) []) []) ∷ []))) ∷ []))

row_shadow : shown (run_of no_texts text_shadow [] 0) ≡ (codes "[1, 3]", 9)
unfolding ◌>>=◌ lift carries chars tree.hidden-the_row-Expr-0 tree.hidden-the_row-Expr-2 tree.hidden-the_row-PropNode-1 tree.hidden-the_row-Stmt-3 tree.hidden-the_row-Stmt-5 tree.hidden-the_row-Decl-4 denote.Hole.Carrier.hidden denote.Hole.Carrier.out out-Expr out-Stmt digits utf16 print_body quoted is_plain_key key_text message_text unit_text lib.Utf8.encode cut tree_elements goes_down plain_from text_shadow
row_shadow = refl

-- { const f = function g(n) { return n ? g(n - 1) : typeof g; }; return f(2); }
text_own : Function
text_own = fn None [] false (f.Items (s.Const (decl (codes "f") (d.Value (e.Function (fn (Some (codes "g")) ((codes "n") ∷ []) false (f.Items (s.Return (Some (e.Cond (e.Name (codes "n")) (e.Call (e.Name (codes "g")) ((e.Binary O.Sub (e.Name (codes "n")) (e.Int (pos 1))) ∷ [])) (e.Unary U.Typeof (e.Name (codes "g"))))) ∷ []))))) ∷ []) ∷ s.Return (Some (e.Call (e.Name (codes "f")) ((e.Int (pos 2)) ∷ []))) ∷ []))

row_own : shown (run_of no_texts text_own [] 0) ≡ (codes "\"function\"", 6)
unfolding ◌>>=◌ lift carries chars tree.hidden-the_row-Expr-0 tree.hidden-the_row-Expr-2 tree.hidden-the_row-PropNode-1 tree.hidden-the_row-Stmt-3 tree.hidden-the_row-Stmt-5 tree.hidden-the_row-Decl-4 denote.Hole.Carrier.hidden denote.Hole.Carrier.out out-Expr out-Stmt digits utf16 print_body quoted is_plain_key key_text message_text unit_text lib.Utf8.encode cut tree_elements goes_down plain_from text_own
row_own = refl

-- { return f(); function f() { return 6; } }
text_hoisted : Function
text_hoisted = fn None [] false (f.Items (s.Return (Some (e.Call (e.Name (codes "f")) [])) ∷ s.Function (fn (Some (codes "f")) [] false (f.Items (s.Return (Some (e.Int (pos 6))) ∷ []))) ∷ []))

row_hoisted : shown (run_of no_texts text_hoisted [] 0) ≡ (codes "6", 3)
unfolding ◌>>=◌ lift carries chars tree.hidden-the_row-Expr-0 tree.hidden-the_row-Expr-2 tree.hidden-the_row-PropNode-1 tree.hidden-the_row-Stmt-3 tree.hidden-the_row-Stmt-5 tree.hidden-the_row-Decl-4 denote.Hole.Carrier.hidden denote.Hole.Carrier.out out-Expr out-Stmt digits utf16 print_body quoted is_plain_key key_text message_text unit_text lib.Utf8.encode cut tree_elements goes_down plain_from text_hoisted
row_hoisted = refl

-- function f(n) { return n < 2 ? 1 : n * f(n - 1); }
text_fact : Function
text_fact = fn None [] false (f.Value (e.Function (fn (Some (codes "f")) ((codes "n") ∷ []) false (f.Items (s.Return (Some (e.Cond (e.Compare C.Less (e.Name (codes "n")) (e.Int (pos 2))) (e.Int (pos 1)) (e.Binary O.Mul (e.Name (codes "n")) (e.Call (e.Name (codes "f")) ((e.Binary O.Sub (e.Name (codes "n")) (e.Int (pos 1))) ∷ []))))) ∷ [])))))

row_fact : shown (run_of no_texts text_fact [] 0) ≡ (codes "function", 3)
unfolding ◌>>=◌ lift carries chars tree.hidden-the_row-Expr-0 tree.hidden-the_row-Expr-2 tree.hidden-the_row-PropNode-1 tree.hidden-the_row-Stmt-3 tree.hidden-the_row-Stmt-5 tree.hidden-the_row-Decl-4 denote.Hole.Carrier.hidden denote.Hole.Carrier.out out-Expr out-Stmt digits utf16 print_body quoted is_plain_key key_text message_text unit_text lib.Utf8.encode cut tree_elements goes_down plain_from text_fact
row_fact = refl

-- { function f(n) { return n < 2 ? 1 : n * f(n - 1); } return f(4); }
text_factorial : Function
text_factorial = fn None [] false (f.Items (s.Function (fn (Some (codes "f")) ((codes "n") ∷ []) false (f.Items (s.Return (Some (e.Cond (e.Compare C.Less (e.Name (codes "n")) (e.Int (pos 2))) (e.Int (pos 1)) (e.Binary O.Mul (e.Name (codes "n")) (e.Call (e.Name (codes "f")) ((e.Binary O.Sub (e.Name (codes "n")) (e.Int (pos 1))) ∷ []))))) ∷ []))) ∷ s.Return (Some (e.Call (e.Name (codes "f")) ((e.Int (pos 4)) ∷ []))) ∷ []))

row_factorial : shown (run_of no_texts text_factorial [] 0) ≡ (codes "24", 7)
unfolding ◌>>=◌ lift carries chars tree.hidden-the_row-Expr-0 tree.hidden-the_row-Expr-2 tree.hidden-the_row-PropNode-1 tree.hidden-the_row-Stmt-3 tree.hidden-the_row-Stmt-5 tree.hidden-the_row-Decl-4 denote.Hole.Carrier.hidden denote.Hole.Carrier.out out-Expr out-Stmt digits utf16 print_body quoted is_plain_key key_text message_text unit_text lib.Utf8.encode cut tree_elements goes_down plain_from text_factorial
row_factorial = refl

-- { let f = null; for (let i = 0, g = () => i; i < 2; i++) { f = g; } return f(); }
text_headcap : Function
text_headcap = fn None [] false (f.Items (s.Let (decl (codes "f") (d.Value e.Null) ∷ []) ∷ s.For (h.Let (decl (codes "i") (d.Value (e.Int (pos 0))) ∷ decl (codes "g") (d.Value (e.Arrow (fn None [] false (f.Value (e.Name (codes "i")))))) ∷ [])) (Some (e.Compare C.Less (e.Name (codes "i")) (e.Int (pos 2)))) (Some (e.Update P.Up false (e.Name (codes "i")))) (s.Block (s.Expr (e.Assign A.Set (e.Name (codes "f")) (e.Name (codes "g"))) ∷ [])) ∷ s.Return (Some (e.Call (e.Name (codes "f")) [])) ∷ []))

row_headcap : shown (run_of no_texts text_headcap [] 0) ≡ (codes "0", 9)
unfolding ◌>>=◌ lift carries chars tree.hidden-the_row-Expr-0 tree.hidden-the_row-Expr-2 tree.hidden-the_row-PropNode-1 tree.hidden-the_row-Stmt-3 tree.hidden-the_row-Stmt-5 tree.hidden-the_row-Decl-4 denote.Hole.Carrier.hidden denote.Hole.Carrier.out out-Expr out-Stmt digits utf16 print_body quoted is_plain_key key_text message_text unit_text lib.Utf8.encode cut tree_elements goes_down plain_from text_headcap
row_headcap = refl

-- { const fs = []; for (const x of [1, 2]) fs.push(() => x); return [fs[0](), fs[1]()]; }
text_capof : Function
text_capof = fn None [] false (f.Items (s.Const (decl (codes "fs") (d.Value (e.Array [])) ∷ []) ∷ s.ForOf true (codes "x") (e.Array ((e.Int (pos 1)) ∷ (e.Int (pos 2)) ∷ [])) (s.Expr (e.Call (e.Member (e.Name (codes "fs")) (codes "push")) ((e.Arrow (fn None [] false (f.Value (e.Name (codes "x"))))) ∷ []))) ∷ s.Return (Some (e.Array ((e.Call (e.Index (e.Name (codes "fs")) (e.Int (pos 0))) []) ∷ (e.Call (e.Index (e.Name (codes "fs")) (e.Int (pos 1))) []) ∷ []))) ∷ []))

row_capof : shown (run_of no_texts text_capof [] 0) ≡ (codes "[1, 2]", 20)
unfolding ◌>>=◌ lift carries chars tree.hidden-the_row-Expr-0 tree.hidden-the_row-Expr-2 tree.hidden-the_row-PropNode-1 tree.hidden-the_row-Stmt-3 tree.hidden-the_row-Stmt-5 tree.hidden-the_row-Decl-4 denote.Hole.Carrier.hidden denote.Hole.Carrier.out out-Expr out-Stmt digits utf16 print_body quoted is_plain_key key_text message_text unit_text lib.Utf8.encode cut tree_elements goes_down plain_from text_capof
row_capof = refl

-- { try { for (const x of [() => x]) { x(); } } catch (e) { return e; } }
text_tdzof : Function
text_tdzof = fn None [] false (f.Items (s.Try (s.ForOf true (codes "x") (e.Array ((e.Arrow (fn None [] false (f.Value (e.Name (codes "x"))))) ∷ [])) (s.Block (s.Expr (e.Call (e.Name (codes "x")) []) ∷ [])) ∷ []) (Some (catch (Some (codes "e")) (s.Return (Some (e.Name (codes "e"))) ∷ []))) None ∷ []))

row_tdzof : shown (run_of no_texts text_tdzof [] 0) ≡ (codes "ReferenceError(\"used before its declaration\")", 8)
unfolding ◌>>=◌ lift carries chars tree.hidden-the_row-Expr-0 tree.hidden-the_row-Expr-2 tree.hidden-the_row-PropNode-1 tree.hidden-the_row-Stmt-3 tree.hidden-the_row-Stmt-5 tree.hidden-the_row-Decl-4 denote.Hole.Carrier.hidden denote.Hole.Carrier.out out-Expr out-Stmt digits utf16 print_body quoted is_plain_key key_text message_text unit_text lib.Utf8.encode cut tree_elements goes_down plain_from text_tdzof
row_tdzof = refl

-- { const f = function g() { g = 1; }; f(); }
text_ownconst : Function
text_ownconst = fn None [] false (f.Items (s.Const (decl (codes "f") (d.Value (e.Function (fn (Some (codes "g")) [] false (f.Items (s.Expr (e.Assign A.Set (e.Name (codes "g")) (e.Int (pos 1))) ∷ []))))) ∷ []) ∷ s.Expr (e.Call (e.Name (codes "f")) []) ∷ []))

row_ownconst : shown (run_of no_texts text_ownconst [] 0) ≡ (codes "TypeError: constant", 5)
unfolding ◌>>=◌ lift carries chars tree.hidden-the_row-Expr-0 tree.hidden-the_row-Expr-2 tree.hidden-the_row-PropNode-1 tree.hidden-the_row-Stmt-3 tree.hidden-the_row-Stmt-5 tree.hidden-the_row-Decl-4 denote.Hole.Carrier.hidden denote.Hole.Carrier.out out-Expr out-Stmt digits utf16 print_body quoted is_plain_key key_text message_text unit_text lib.Utf8.encode cut tree_elements goes_down plain_from text_ownconst
row_ownconst = refl

-- ((x) => () => x)(7)()
text_param : Function
text_param = fn None [] false (f.Value (e.Call (e.Call (e.Arrow (fn None ((codes "x") ∷ []) false (f.Value (e.Arrow (fn None [] false (f.Value (e.Name (codes "x")))))))) ((e.Int (pos 7)) ∷ [])) []))

row_param : shown (run_of no_texts text_param [] 0) ≡ (codes "7", 6)
unfolding ◌>>=◌ lift carries chars tree.hidden-the_row-Expr-0 tree.hidden-the_row-Expr-2 tree.hidden-the_row-PropNode-1 tree.hidden-the_row-Stmt-3 tree.hidden-the_row-Stmt-5 tree.hidden-the_row-Decl-4 denote.Hole.Carrier.hidden denote.Hole.Carrier.out out-Expr out-Stmt digits utf16 print_body quoted is_plain_key key_text message_text unit_text lib.Utf8.encode cut tree_elements goes_down plain_from text_param
row_param = refl

-- { const r = []; { r.push(g()); function g() { return 1; } } r.push(typeof r); return r; }
text_blockfn : Function
text_blockfn = fn None [] false (f.Items (s.Const (decl (codes "r") (d.Value (e.Array [])) ∷ []) ∷ s.Block (s.Expr (e.Call (e.Member (e.Name (codes "r")) (codes "push")) ((e.Call (e.Name (codes "g")) []) ∷ [])) ∷ s.Function (fn (Some (codes "g")) [] false (f.Items (s.Return (Some (e.Int (pos 1))) ∷ []))) ∷ []) ∷ s.Expr (e.Call (e.Member (e.Name (codes "r")) (codes "push")) ((e.Unary U.Typeof (e.Name (codes "r"))) ∷ [])) ∷ s.Return (Some (e.Name (codes "r"))) ∷ []))

row_blockfn : shown (run_of no_texts text_blockfn [] 0) ≡ (codes "[1, \"object\"]", 8)
unfolding ◌>>=◌ lift carries chars tree.hidden-the_row-Expr-0 tree.hidden-the_row-Expr-2 tree.hidden-the_row-PropNode-1 tree.hidden-the_row-Stmt-3 tree.hidden-the_row-Stmt-5 tree.hidden-the_row-Decl-4 denote.Hole.Carrier.hidden denote.Hole.Carrier.out out-Expr out-Stmt digits utf16 print_body quoted is_plain_key key_text message_text unit_text lib.Utf8.encode cut tree_elements goes_down plain_from text_blockfn
row_blockfn = refl

-- { x = 1; let x; }
text_latelocal : Function
text_latelocal = fn None [] false (f.Items (s.Expr (e.Assign A.Set (e.Name (codes "x")) (e.Int (pos 1))) ∷ s.Let (decl (codes "x") d.Nothing ∷ []) ∷ []))

row_latelocal : shown (run_of no_texts text_latelocal [] 0) ≡ (codes "ReferenceError: used before its declaration", 2)
unfolding ◌>>=◌ lift carries chars tree.hidden-the_row-Expr-0 tree.hidden-the_row-Expr-2 tree.hidden-the_row-PropNode-1 tree.hidden-the_row-Stmt-3 tree.hidden-the_row-Stmt-5 tree.hidden-the_row-Decl-4 denote.Hole.Carrier.hidden denote.Hole.Carrier.out out-Expr out-Stmt digits utf16 print_body quoted is_plain_key key_text message_text unit_text lib.Utf8.encode cut tree_elements goes_down plain_from text_latelocal
row_latelocal = refl

-- { const mk = () => { let n = 0; return () => { n++; return n; }; }; const a = mk(); const b = mk(); a(); return [a(), b()]; }
text_noshare : Function
text_noshare = fn None [] false (f.Items (s.Const (decl (codes "mk") (d.Value (e.Arrow (fn None [] false (f.Items (s.Let (decl (codes "n") (d.Value (e.Int (pos 0))) ∷ []) ∷ s.Return (Some (e.Arrow (fn None [] false (f.Items (s.Expr (e.Update P.Up false (e.Name (codes "n"))) ∷ s.Return (Some (e.Name (codes "n"))) ∷ []))))) ∷ []))))) ∷ []) ∷ s.Const (decl (codes "a") (d.Value (e.Call (e.Name (codes "mk")) [])) ∷ []) ∷ s.Const (decl (codes "b") (d.Value (e.Call (e.Name (codes "mk")) [])) ∷ []) ∷ s.Expr (e.Call (e.Name (codes "a")) []) ∷ s.Return (Some (e.Array ((e.Call (e.Name (codes "a")) []) ∷ (e.Call (e.Name (codes "b")) []) ∷ []))) ∷ []))

row_noshare : shown (run_of no_texts text_noshare [] 0) ≡ (codes "[2, 1]", 14)
unfolding ◌>>=◌ lift carries chars tree.hidden-the_row-Expr-0 tree.hidden-the_row-Expr-2 tree.hidden-the_row-PropNode-1 tree.hidden-the_row-Stmt-3 tree.hidden-the_row-Stmt-5 tree.hidden-the_row-Decl-4 denote.Hole.Carrier.hidden denote.Hole.Carrier.out out-Expr out-Stmt digits utf16 print_body quoted is_plain_key key_text message_text unit_text lib.Utf8.encode cut tree_elements goes_down plain_from text_noshare
row_noshare = refl

-- { let e = 1; try { throw 2; } catch (e) { e = 3; } return e; }
text_catchname : Function
text_catchname = fn None [] false (f.Items (s.Let (decl (codes "e") (d.Value (e.Int (pos 1))) ∷ []) ∷ s.Try (s.Throw (e.Int (pos 2)) ∷ []) (Some (catch (Some (codes "e")) (s.Expr (e.Assign A.Set (e.Name (codes "e")) (e.Int (pos 3))) ∷ []))) None ∷ s.Return (Some (e.Name (codes "e"))) ∷ []))

row_catchname : shown (run_of no_texts text_catchname [] 0) ≡ (codes "1", 1)
unfolding ◌>>=◌ lift carries chars tree.hidden-the_row-Expr-0 tree.hidden-the_row-Expr-2 tree.hidden-the_row-PropNode-1 tree.hidden-the_row-Stmt-3 tree.hidden-the_row-Stmt-5 tree.hidden-the_row-Decl-4 denote.Hole.Carrier.hidden denote.Hole.Carrier.out out-Expr out-Stmt digits utf16 print_body quoted is_plain_key key_text message_text unit_text lib.Utf8.encode cut tree_elements goes_down plain_from text_catchname
row_catchname = refl
