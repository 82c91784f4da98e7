-- Worked rows: statements, throws and limits. Each has its outcome as a report shows it, and mostly its steps.
use Rattle.std.proofs.Common.{◌≡◌, refl}
use Rattle.std.specs.Fmt.{digits}
use Rattle.std.specs.Prelude.{pos, true, false, [], ◌∷◌, Some, None, codes}
use Rattle.std.specs.Str.{chars}
use Rattle.ob_base.specs.Escapes.{unit_text}
use Rattle.ob_base.specs.Utf16.{utf16}
use Rattle.ob_base.specs.declared.operators.AssignOp.TheVariants as A
use Rattle.ob_base.specs.declared.operators.BinaryOp.TheVariants as O
use Rattle.ob_base.specs.declared.operators.CompareOp.TheVariants as C
use Rattle.ob_base.specs.declared.operators.UpdateOp.TheVariants as P
use Rattle.ob_tree_types.specs.declared.cell.CellTree.TheVariants as cell
use Rattle.ob_tree_types.specs.declared.tree.DeclValue.TheBlock as tree
use Rattle.ob_tree_types.specs.declared.tree.DeclValue.TheVariants as d
use Rattle.ob_tree_types.specs.declared.tree.Expr.TheVariants as e
use Rattle.ob_tree_types.specs.declared.tree.Expr.{out-Expr}
use Rattle.ob_tree_types.specs.declared.tree.FnBody.TheVariants as f
use Rattle.ob_tree_types.specs.declared.tree.ForHead.TheVariants as h
use Rattle.ob_tree_types.specs.declared.tree.Function.{Function}
use Rattle.ob_tree_types.specs.declared.tree.Stmt.TheVariants as s
use Rattle.ob_tree_types.specs.declared.tree.Stmt.{out-Stmt}
use Rattle.ob_values.specs.Inspect.{print_body, quoted, is_plain_key, key_text, message_text}
use Rattle.ob_values.specs.PlainOf.{tree_elements, goes_down, plain_from}
use Rattle.ob_values.specs.TextMethods.{cut}
use Rattle.ob_actions.specs.Act.{◌>>=◌}
use Rattle.ob_sem.specs.Cells.{cell_function}
use Rattle.ob_sem.specs.Whole.{lift, carries}
use Rattle.ob_sem.proofs.RowParts.{fn, decl, catch, run_of, no_texts, shown}

-- { let i = 0; while (i < 3) i++; return i; }
text_loop : Function
text_loop = fn None [] false (f.Items (s.Let (decl (codes "i") (d.Value (e.Int (pos 0))) ∷ []) ∷ s.While (e.Compare C.Less (e.Name (codes "i")) (e.Int (pos 3))) (s.Expr (e.Update P.Up false (e.Name (codes "i")))) ∷ s.Return (Some (e.Name (codes "i"))) ∷ []))

row_loop : shown (run_of no_texts text_loop [] 0) ≡ (codes "3", 4)
unfolding ◌>>=◌ lift carries chars tree.hidden-the_row-Expr-0 tree.hidden-the_row-Expr-2 tree.hidden-the_row-PropNode-1 tree.hidden-the_row-Stmt-3 tree.hidden-the_row-Stmt-5 tree.hidden-the_row-Decl-4 denote.Hole.Carrier.hidden denote.Hole.Carrier.out out-Expr out-Stmt digits utf16 print_body quoted is_plain_key key_text message_text unit_text lib.Utf8.encode cut tree_elements goes_down plain_from text_loop
row_loop = refl

-- { let x = 0; try { throw 4; } catch (e) { x = e + 1; } return x; }
text_caught : Function
text_caught = fn None [] false (f.Items (s.Let (decl (codes "x") (d.Value (e.Int (pos 0))) ∷ []) ∷ s.Try (s.Throw (e.Int (pos 4)) ∷ []) (Some (catch (Some (codes "e")) (s.Expr (e.Assign A.Set (e.Name (codes "x")) (e.Binary O.Add (e.Name (codes "e")) (e.Int (pos 1)))) ∷ []))) None ∷ s.Return (Some (e.Name (codes "x"))) ∷ []))

row_caught : shown (run_of no_texts text_caught [] 0) ≡ (codes "5", 1)
unfolding ◌>>=◌ lift carries chars tree.hidden-the_row-Expr-0 tree.hidden-the_row-Expr-2 tree.hidden-the_row-PropNode-1 tree.hidden-the_row-Stmt-3 tree.hidden-the_row-Stmt-5 tree.hidden-the_row-Decl-4 denote.Hole.Carrier.hidden denote.Hole.Carrier.out out-Expr out-Stmt digits utf16 print_body quoted is_plain_key key_text message_text unit_text lib.Utf8.encode cut tree_elements goes_down plain_from text_caught
row_caught = refl

-- { throw 5; }
text_thrown : Function
text_thrown = fn None [] false (f.Items (s.Throw (e.Int (pos 5)) ∷ []))

row_thrown : shown (run_of no_texts text_thrown [] 0) ≡ (codes "thrown 5", 1)
unfolding ◌>>=◌ lift carries chars tree.hidden-the_row-Expr-0 tree.hidden-the_row-Expr-2 tree.hidden-the_row-PropNode-1 tree.hidden-the_row-Stmt-3 tree.hidden-the_row-Stmt-5 tree.hidden-the_row-Decl-4 denote.Hole.Carrier.hidden denote.Hole.Carrier.out out-Expr out-Stmt digits utf16 print_body quoted is_plain_key key_text message_text unit_text lib.Utf8.encode cut tree_elements goes_down plain_from text_thrown
row_thrown = refl

-- { try { try { throw 1; } catch (e) { throw e + 1; } } catch (e) { return e; } }
text_rethrow : Function
text_rethrow = fn None [] false (f.Items (s.Try (s.Try (s.Throw (e.Int (pos 1)) ∷ []) (Some (catch (Some (codes "e")) (s.Throw (e.Binary O.Add (e.Name (codes "e")) (e.Int (pos 1))) ∷ []))) None ∷ []) (Some (catch (Some (codes "e")) (s.Return (Some (e.Name (codes "e"))) ∷ []))) None ∷ []))

row_rethrow : shown (run_of no_texts text_rethrow [] 0) ≡ (codes "2", 1)
unfolding ◌>>=◌ lift carries chars tree.hidden-the_row-Expr-0 tree.hidden-the_row-Expr-2 tree.hidden-the_row-PropNode-1 tree.hidden-the_row-Stmt-3 tree.hidden-the_row-Stmt-5 tree.hidden-the_row-Decl-4 denote.Hole.Carrier.hidden denote.Hole.Carrier.out out-Expr out-Stmt digits utf16 print_body quoted is_plain_key key_text message_text unit_text lib.Utf8.encode cut tree_elements goes_down plain_from text_rethrow
row_rethrow = refl

-- { let t = 0; for (const x of [1, 2, 3]) { if (x === 2) continue; t += x; } return t; }
text_forof : Function
text_forof = fn None [] false (f.Items (s.Let (decl (codes "t") (d.Value (e.Int (pos 0))) ∷ []) ∷ s.ForOf true (codes "x") (e.Array ((e.Int (pos 1)) ∷ (e.Int (pos 2)) ∷ (e.Int (pos 3)) ∷ [])) (s.Block (s.If (e.Compare C.Same (e.Name (codes "x")) (e.Int (pos 2))) (s.Continue) None ∷ s.Expr (e.Assign (A.Binary O.Add) (e.Name (codes "t")) (e.Name (codes "x"))) ∷ [])) ∷ s.Return (Some (e.Name (codes "t"))) ∷ []))

row_forof : shown (run_of no_texts text_forof [] 0) ≡ (codes "4", 8)
unfolding ◌>>=◌ lift carries chars tree.hidden-the_row-Expr-0 tree.hidden-the_row-Expr-2 tree.hidden-the_row-PropNode-1 tree.hidden-the_row-Stmt-3 tree.hidden-the_row-Stmt-5 tree.hidden-the_row-Decl-4 denote.Hole.Carrier.hidden denote.Hole.Carrier.out out-Expr out-Stmt digits utf16 print_body quoted is_plain_key key_text message_text unit_text lib.Utf8.encode cut tree_elements goes_down plain_from text_forof
row_forof = refl

-- { let i = 5; do i--; while (i > 3) return i; }
text_dowhile : Function
text_dowhile = fn None [] false (f.Items (s.Let (decl (codes "i") (d.Value (e.Int (pos 5))) ∷ []) ∷ s.DoWhile (s.Expr (e.Update P.Down false (e.Name (codes "i")))) (e.Compare C.Greater (e.Name (codes "i")) (e.Int (pos 3))) ∷ s.Return (Some (e.Name (codes "i"))) ∷ []))

row_dowhile : shown (run_of no_texts text_dowhile [] 0) ≡ (codes "3", 3)
unfolding ◌>>=◌ lift carries chars tree.hidden-the_row-Expr-0 tree.hidden-the_row-Expr-2 tree.hidden-the_row-PropNode-1 tree.hidden-the_row-Stmt-3 tree.hidden-the_row-Stmt-5 tree.hidden-the_row-Decl-4 denote.Hole.Carrier.hidden denote.Hole.Carrier.out out-Expr out-Stmt digits utf16 print_body quoted is_plain_key key_text message_text unit_text lib.Utf8.encode cut tree_elements goes_down plain_from text_dowhile
row_dowhile = refl

-- { for (const i = 0; i < 1;) { i = 2; } }
text_constof : Function
text_constof = fn None [] false (f.Items (s.For (h.Const (decl (codes "i") (d.Value (e.Int (pos 0))) ∷ [])) (Some (e.Compare C.Less (e.Name (codes "i")) (e.Int (pos 1)))) None (s.Block (s.Expr (e.Assign A.Set (e.Name (codes "i")) (e.Int (pos 2))) ∷ [])) ∷ []))

row_constof : shown (run_of no_texts text_constof [] 0) ≡ (codes "TypeError: constant", 3)
unfolding ◌>>=◌ lift carries chars tree.hidden-the_row-Expr-0 tree.hidden-the_row-Expr-2 tree.hidden-the_row-PropNode-1 tree.hidden-the_row-Stmt-3 tree.hidden-the_row-Stmt-5 tree.hidden-the_row-Decl-4 denote.Hole.Carrier.hidden denote.Hole.Carrier.out out-Expr out-Stmt digits utf16 print_body quoted is_plain_key key_text message_text unit_text lib.Utf8.encode cut tree_elements goes_down plain_from text_constof
row_constof = refl

-- { for (const x of 5) {} }
text_notiterable : Function
text_notiterable = fn None [] false (f.Items (s.ForOf true (codes "x") (e.Int (pos 5)) (s.Block []) ∷ []))

row_notiterable : shown (run_of no_texts text_notiterable [] 0) ≡ (codes "TypeError: not iterable", 2)
unfolding ◌>>=◌ lift carries chars tree.hidden-the_row-Expr-0 tree.hidden-the_row-Expr-2 tree.hidden-the_row-PropNode-1 tree.hidden-the_row-Stmt-3 tree.hidden-the_row-Stmt-5 tree.hidden-the_row-Decl-4 denote.Hole.Carrier.hidden denote.Hole.Carrier.out out-Expr out-Stmt digits utf16 print_body quoted is_plain_key key_text message_text unit_text lib.Utf8.encode cut tree_elements goes_down plain_from text_notiterable
row_notiterable = refl

-- { const a = [1, 2]; let n = 0; for (const x of a) { if (n < 2) a.push(x * 10); n++; } return a; }
text_growing : Function
text_growing = fn None [] false (f.Items (s.Const (decl (codes "a") (d.Value (e.Array ((e.Int (pos 1)) ∷ (e.Int (pos 2)) ∷ []))) ∷ []) ∷ s.Let (decl (codes "n") (d.Value (e.Int (pos 0))) ∷ []) ∷ s.ForOf true (codes "x") (e.Name (codes "a")) (s.Block (s.If (e.Compare C.Less (e.Name (codes "n")) (e.Int (pos 2))) (s.Expr (e.Call (e.Member (e.Name (codes "a")) (codes "push")) ((e.Binary O.Mul (e.Name (codes "x")) (e.Int (pos 10))) ∷ []))) None ∷ s.Expr (e.Update P.Up false (e.Name (codes "n"))) ∷ [])) ∷ s.Return (Some (e.Name (codes "a"))) ∷ []))

row_growing : shown (run_of no_texts text_growing [] 0) ≡ (codes "[1, 2, 10, 20]", 12)
unfolding ◌>>=◌ lift carries chars tree.hidden-the_row-Expr-0 tree.hidden-the_row-Expr-2 tree.hidden-the_row-PropNode-1 tree.hidden-the_row-Stmt-3 tree.hidden-the_row-Stmt-5 tree.hidden-the_row-Decl-4 denote.Hole.Carrier.hidden denote.Hole.Carrier.out out-Expr out-Stmt digits utf16 print_body quoted is_plain_key key_text message_text unit_text lib.Utf8.encode cut tree_elements goes_down plain_from text_growing
row_growing = refl

-- { for (const x of [1]) { x = 2; } }
text_constturn : Function
text_constturn = fn None [] false (f.Items (s.ForOf true (codes "x") (e.Array ((e.Int (pos 1)) ∷ [])) (s.Block (s.Expr (e.Assign A.Set (e.Name (codes "x")) (e.Int (pos 2))) ∷ [])) ∷ []))

row_constturn : shown (run_of no_texts text_constturn [] 0) ≡ (codes "TypeError: constant", 5)
unfolding ◌>>=◌ lift carries chars tree.hidden-the_row-Expr-0 tree.hidden-the_row-Expr-2 tree.hidden-the_row-PropNode-1 tree.hidden-the_row-Stmt-3 tree.hidden-the_row-Stmt-5 tree.hidden-the_row-Decl-4 denote.Hole.Carrier.hidden denote.Hole.Carrier.out out-Expr out-Stmt digits utf16 print_body quoted is_plain_key key_text message_text unit_text lib.Utf8.encode cut tree_elements goes_down plain_from text_constturn
row_constturn = refl

-- { let t = 0; for (let i = 0; i < 4; i++) { if (i === 1) continue; if (i === 3) break; t += i; } return t; }
text_continues : Function
text_continues = fn None [] false (f.Items (s.Let (decl (codes "t") (d.Value (e.Int (pos 0))) ∷ []) ∷ s.For (h.Let (decl (codes "i") (d.Value (e.Int (pos 0))) ∷ [])) (Some (e.Compare C.Less (e.Name (codes "i")) (e.Int (pos 4)))) (Some (e.Update P.Up false (e.Name (codes "i")))) (s.Block (s.If (e.Compare C.Same (e.Name (codes "i")) (e.Int (pos 1))) (s.Continue) None ∷ s.If (e.Compare C.Same (e.Name (codes "i")) (e.Int (pos 3))) (s.Break) None ∷ s.Expr (e.Assign (A.Binary O.Add) (e.Name (codes "t")) (e.Name (codes "i"))) ∷ [])) ∷ s.Return (Some (e.Name (codes "t"))) ∷ []))

row_continues : shown (run_of no_texts text_continues [] 0) ≡ (codes "2", 5)
unfolding ◌>>=◌ lift carries chars tree.hidden-the_row-Expr-0 tree.hidden-the_row-Expr-2 tree.hidden-the_row-PropNode-1 tree.hidden-the_row-Stmt-3 tree.hidden-the_row-Stmt-5 tree.hidden-the_row-Decl-4 denote.Hole.Carrier.hidden denote.Hole.Carrier.out out-Expr out-Stmt digits utf16 print_body quoted is_plain_key key_text message_text unit_text lib.Utf8.encode cut tree_elements goes_down plain_from text_continues
row_continues = refl

-- { const f = () => { while (true) { for (;;) return 7; } }; return f(); }
text_returns : Function
text_returns = fn None [] false (f.Items (s.Const (decl (codes "f") (d.Value (e.Arrow (fn None [] false (f.Items (s.While (e.Bool true) (s.Block (s.For h.Nothing None None (s.Return (Some (e.Int (pos 7)))) ∷ [])) ∷ []))))) ∷ []) ∷ s.Return (Some (e.Call (e.Name (codes "f")) [])) ∷ []))

row_returns : shown (run_of no_texts text_returns [] 0) ≡ (codes "7", 5)
unfolding ◌>>=◌ lift carries chars tree.hidden-the_row-Expr-0 tree.hidden-the_row-Expr-2 tree.hidden-the_row-PropNode-1 tree.hidden-the_row-Stmt-3 tree.hidden-the_row-Stmt-5 tree.hidden-the_row-Decl-4 denote.Hole.Carrier.hidden denote.Hole.Carrier.out out-Expr out-Stmt digits utf16 print_body quoted is_plain_key key_text message_text unit_text lib.Utf8.encode cut tree_elements goes_down plain_from text_returns
row_returns = refl

-- { const f = () => { 5; }; return f(); }
text_ends : Function
text_ends = fn None [] false (f.Items (s.Const (decl (codes "f") (d.Value (e.Arrow (fn None [] false (f.Items (s.Expr (e.Int (pos 5)) ∷ []))))) ∷ []) ∷ s.Return (Some (e.Call (e.Name (codes "f")) [])) ∷ []))

row_ends : shown (run_of no_texts text_ends [] 0) ≡ (codes "undefined", 3)
unfolding ◌>>=◌ lift carries chars tree.hidden-the_row-Expr-0 tree.hidden-the_row-Expr-2 tree.hidden-the_row-PropNode-1 tree.hidden-the_row-Stmt-3 tree.hidden-the_row-Stmt-5 tree.hidden-the_row-Decl-4 denote.Hole.Carrier.hidden denote.Hole.Carrier.out out-Expr out-Stmt digits utf16 print_body quoted is_plain_key key_text message_text unit_text lib.Utf8.encode cut tree_elements goes_down plain_from text_ends
row_ends = refl

-- { const f = (a, b) => [a, b]; return f(1, 2, 3).concat(f(4)); }
text_noparams : Function
text_noparams = fn None [] false (f.Items (s.Const (decl (codes "f") (d.Value (e.Arrow (fn None ((codes "a") ∷ (codes "b") ∷ []) false (f.Value (e.Array ((e.Name (codes "a")) ∷ (e.Name (codes "b")) ∷ [])))))) ∷ []) ∷ s.Return (Some (e.Call (e.Member (e.Call (e.Name (codes "f")) ((e.Int (pos 1)) ∷ (e.Int (pos 2)) ∷ (e.Int (pos 3)) ∷ [])) (codes "concat")) ((e.Call (e.Name (codes "f")) ((e.Int (pos 4)) ∷ [])) ∷ []))) ∷ []))

row_noparams : shown (run_of no_texts text_noparams [] 0) ≡ (codes "[1, 2, 4, undefined]", 16)
unfolding ◌>>=◌ lift carries chars tree.hidden-the_row-Expr-0 tree.hidden-the_row-Expr-2 tree.hidden-the_row-PropNode-1 tree.hidden-the_row-Stmt-3 tree.hidden-the_row-Stmt-5 tree.hidden-the_row-Decl-4 denote.Hole.Carrier.hidden denote.Hole.Carrier.out out-Expr out-Stmt digits utf16 print_body quoted is_plain_key key_text message_text unit_text lib.Utf8.encode cut tree_elements goes_down plain_from text_noparams
row_noparams = refl

-- an empty cell
row_emptycell : shown (run_of no_texts (cell_function cell.Empty) [] 0) ≡ (codes "undefined", 1)
unfolding ◌>>=◌ lift carries chars tree.hidden-the_row-Expr-0 tree.hidden-the_row-Expr-2 tree.hidden-the_row-PropNode-1 tree.hidden-the_row-Stmt-3 tree.hidden-the_row-Stmt-5 tree.hidden-the_row-Decl-4 denote.Hole.Carrier.hidden denote.Hole.Carrier.out out-Expr out-Stmt digits utf16 print_body quoted is_plain_key key_text message_text unit_text lib.Utf8.encode cut tree_elements goes_down plain_from
row_emptycell = refl
