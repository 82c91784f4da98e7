-- Worked rows: generator bodies, segment by segment. Each has its outcome as a report shows it, and mostly its steps.
use Rattle.std.proofs.Common.{◌≡◌, refl}
use Rattle.std.specs.Fmt.{digits}
use Rattle.std.specs.Prelude.{pos, true, false, [], ◌∷◌, Some, None, codes}
use Rattle.std.specs.Str.{chars}
use Rattle.ob_base.specs.Escapes.{unit_text}
use Rattle.ob_base.specs.Utf16.{utf16}
use Rattle.ob_base.specs.declared.operators.AssignOp.TheVariants as A
use Rattle.ob_base.specs.declared.operators.BinaryOp.TheVariants as O
use Rattle.ob_base.specs.declared.operators.CompareOp.TheVariants as C
use Rattle.ob_base.specs.declared.operators.UpdateOp.TheVariants as P
use Rattle.ob_items.specs.declared.value.Value.TheVariants as V
use Rattle.ob_tree_types.specs.declared.tree.DeclValue.TheBlock as tree
use Rattle.ob_tree_types.specs.declared.tree.DeclValue.TheVariants as d
use Rattle.ob_tree_types.specs.declared.tree.Expr.TheVariants as e
use Rattle.ob_tree_types.specs.declared.tree.Expr.{out-Expr}
use Rattle.ob_tree_types.specs.declared.tree.FnBody.TheVariants as f
use Rattle.ob_tree_types.specs.declared.tree.ForHead.TheVariants as h
use Rattle.ob_tree_types.specs.declared.tree.Function.{Function}
use Rattle.ob_tree_types.specs.declared.tree.Stmt.TheVariants as s
use Rattle.ob_tree_types.specs.declared.tree.Stmt.{out-Stmt}
use Rattle.ob_values.specs.Inspect.{print_body, quoted, is_plain_key, key_text, message_text}
use Rattle.ob_values.specs.PlainOf.{tree_elements, goes_down, plain_from}
use Rattle.ob_values.specs.TextMethods.{cut}
use Rattle.ob_actions.specs.Act.{◌>>=◌}
use Rattle.ob_sem.specs.Setting.{prelude_texts}
use Rattle.ob_sem.specs.Whole.{lift, carries}
use Rattle.ob_tree_prelude.specs.Parts.{member, element, call, call_with, declared, const_stmt, let_stmt, assign_stmt, count_stmt, empty_stmt, push_stmt, if_stmt, from_zero, below_count, for_stmt, function_tree}
use Rattle.ob_tree_prelude.specs.Trees.{map_items, map_tree, filter_turn, filter_items, filter_tree, for_each_items, for_each_tree, search_items, some_tree, every_tree, message, refuse_stmt, is_empty, first_element, start_items, start_stmt, reduce_turn, reduce_items, reduce_tree, has_no_function, mapped_element, taken_element, from_items, from_tree}
use Rattle.ob_sem.proofs.RowParts.{fn, decl, catch, run_of, no_texts, shown, shown_logs, stands}

-- { let i = 0; while (true) { yield i; i = i + k; } } (segment 3)
text_g7 : Function
text_g7 = fn None [] true (f.Items (s.Let (decl (codes "i") (d.Value (e.Int (pos 0))) ∷ []) ∷ s.While (e.Bool true) (s.Block (s.Yield None (Some (e.Name (codes "i"))) ∷ s.Expr (e.Assign A.Set (e.Name (codes "i")) (e.Binary O.Add (e.Name (codes "i")) (e.Name (codes "k")))) ∷ [])) ∷ []))

row_g7 : shown (run_of no_texts text_g7 (V.Int (pos 10) ∷ []) 2) ≡ (codes "20", 2)
unfolding ◌>>=◌ lift carries chars tree.hidden-the_row-Expr-0 tree.hidden-the_row-Expr-2 tree.hidden-the_row-PropNode-1 tree.hidden-the_row-Stmt-3 tree.hidden-the_row-Stmt-5 tree.hidden-the_row-Decl-4 denote.Hole.Carrier.hidden denote.Hole.Carrier.out out-Expr out-Stmt digits utf16 print_body quoted is_plain_key key_text message_text unit_text lib.Utf8.encode cut tree_elements goes_down plain_from text_g7
row_g7 = refl

-- { const a = []; while (true) { a.push(a.length); yield a.slice(); } }
text_g9 : Function
text_g9 = fn None [] true (f.Items (s.Const (decl (codes "a") (d.Value (e.Array [])) ∷ []) ∷ s.While (e.Bool true) (s.Block (s.Expr (e.Call (e.Member (e.Name (codes "a")) (codes "push")) ((e.Member (e.Name (codes "a")) (codes "length")) ∷ [])) ∷ s.Yield None (Some (e.Call (e.Member (e.Name (codes "a")) (codes "slice")) [])) ∷ [])) ∷ []))

row_g9 : shown (run_of no_texts text_g9 [] 0) ≡ (codes "[0]", 10)
unfolding ◌>>=◌ lift carries chars tree.hidden-the_row-Expr-0 tree.hidden-the_row-Expr-2 tree.hidden-the_row-PropNode-1 tree.hidden-the_row-Stmt-3 tree.hidden-the_row-Stmt-5 tree.hidden-the_row-Decl-4 denote.Hole.Carrier.hidden denote.Hole.Carrier.out out-Expr out-Stmt digits utf16 print_body quoted is_plain_key key_text message_text unit_text lib.Utf8.encode cut tree_elements goes_down plain_from text_g9
row_g9 = refl

-- { const a = []; while (true) { a.push(a.length); yield a.slice(); } } (segment 3)
text_slices3 : Function
text_slices3 = fn None [] true (f.Items (s.Const (decl (codes "a") (d.Value (e.Array [])) ∷ []) ∷ s.While (e.Bool true) (s.Block (s.Expr (e.Call (e.Member (e.Name (codes "a")) (codes "push")) ((e.Member (e.Name (codes "a")) (codes "length")) ∷ [])) ∷ s.Yield None (Some (e.Call (e.Member (e.Name (codes "a")) (codes "slice")) [])) ∷ [])) ∷ []))

row_slices3 : shown (run_of no_texts text_slices3 [] 2) ≡ (codes "[0, 1, 2]", 9)
unfolding ◌>>=◌ lift carries chars tree.hidden-the_row-Expr-0 tree.hidden-the_row-Expr-2 tree.hidden-the_row-PropNode-1 tree.hidden-the_row-Stmt-3 tree.hidden-the_row-Stmt-5 tree.hidden-the_row-Decl-4 denote.Hole.Carrier.hidden denote.Hole.Carrier.out out-Expr out-Stmt digits utf16 print_body quoted is_plain_key key_text message_text unit_text lib.Utf8.encode cut tree_elements goes_down plain_from text_slices3
row_slices3 = refl

-- { yield 1; yield 2; } (segment 2)
text_yields2 : Function
text_yields2 = fn None [] true (f.Items (s.Yield None (Some (e.Int (pos 1))) ∷ s.Yield None (Some (e.Int (pos 2))) ∷ []))

row_yields2 : shown (run_of no_texts text_yields2 [] 1) ≡ (codes "2", 1)
unfolding ◌>>=◌ lift carries chars tree.hidden-the_row-Expr-0 tree.hidden-the_row-Expr-2 tree.hidden-the_row-PropNode-1 tree.hidden-the_row-Stmt-3 tree.hidden-the_row-Stmt-5 tree.hidden-the_row-Decl-4 denote.Hole.Carrier.hidden denote.Hole.Carrier.out out-Expr out-Stmt digits utf16 print_body quoted is_plain_key key_text message_text unit_text lib.Utf8.encode cut tree_elements goes_down plain_from text_yields2
row_yields2 = refl

-- { yield 1; yield 2; } (segment 3)
text_yields3 : Function
text_yields3 = fn None [] true (f.Items (s.Yield None (Some (e.Int (pos 1))) ∷ s.Yield None (Some (e.Int (pos 2))) ∷ []))

row_yields3 : shown (run_of no_texts text_yields3 [] 2) ≡ (codes "2", 1)
unfolding ◌>>=◌ lift carries chars tree.hidden-the_row-Expr-0 tree.hidden-the_row-Expr-2 tree.hidden-the_row-PropNode-1 tree.hidden-the_row-Stmt-3 tree.hidden-the_row-Stmt-5 tree.hidden-the_row-Decl-4 denote.Hole.Carrier.hidden denote.Hole.Carrier.out out-Expr out-Stmt digits utf16 print_body quoted is_plain_key key_text message_text unit_text lib.Utf8.encode cut tree_elements goes_down plain_from text_yields3
row_yields3 = refl

-- { yield 1; throw 2; } (segment 2)
text_throws2 : Function
text_throws2 = fn None [] true (f.Items (s.Yield None (Some (e.Int (pos 1))) ∷ s.Throw (e.Int (pos 2)) ∷ []))

row_throws2 : shown (run_of no_texts text_throws2 [] 1) ≡ (codes "thrown 2", 1)
unfolding ◌>>=◌ lift carries chars tree.hidden-the_row-Expr-0 tree.hidden-the_row-Expr-2 tree.hidden-the_row-PropNode-1 tree.hidden-the_row-Stmt-3 tree.hidden-the_row-Stmt-5 tree.hidden-the_row-Decl-4 denote.Hole.Carrier.hidden denote.Hole.Carrier.out out-Expr out-Stmt digits utf16 print_body quoted is_plain_key key_text message_text unit_text lib.Utf8.encode cut tree_elements goes_down plain_from text_throws2
row_throws2 = refl

-- { let i = 0; while (true) { yield i; i = i + 1; } } (segment 3)
text_make3 : Function
text_make3 = fn None [] true (f.Items (s.Let (decl (codes "i") (d.Value (e.Int (pos 0))) ∷ []) ∷ s.While (e.Bool true) (s.Block (s.Yield None (Some (e.Name (codes "i"))) ∷ s.Expr (e.Assign A.Set (e.Name (codes "i")) (e.Binary O.Add (e.Name (codes "i")) (e.Int (pos 1)))) ∷ [])) ∷ []))

row_make3 : shown (run_of no_texts text_make3 [] 2) ≡ (codes "2", 2)
unfolding ◌>>=◌ lift carries chars tree.hidden-the_row-Expr-0 tree.hidden-the_row-Expr-2 tree.hidden-the_row-PropNode-1 tree.hidden-the_row-Stmt-3 tree.hidden-the_row-Stmt-5 tree.hidden-the_row-Decl-4 denote.Hole.Carrier.hidden denote.Hole.Carrier.out out-Expr out-Stmt digits utf16 print_body quoted is_plain_key key_text message_text unit_text lib.Utf8.encode cut tree_elements goes_down plain_from text_make3
row_make3 = refl

-- { let x = 1; while (true) { x = yield x * 2; } } (segment 3)
text_sent : Function
text_sent = fn None [] true (f.Items (s.Let (decl (codes "x") (d.Value (e.Int (pos 1))) ∷ []) ∷ s.While (e.Bool true) (s.Block (s.Yield (Some (codes "x")) (Some (e.Binary O.Mul (e.Name (codes "x")) (e.Int (pos 2)))) ∷ [])) ∷ []))

row_sent : shown (run_of no_texts text_sent [] 2) ≡ (codes "8", 2)
unfolding ◌>>=◌ lift carries chars tree.hidden-the_row-Expr-0 tree.hidden-the_row-Expr-2 tree.hidden-the_row-PropNode-1 tree.hidden-the_row-Stmt-3 tree.hidden-the_row-Stmt-5 tree.hidden-the_row-Decl-4 denote.Hole.Carrier.hidden denote.Hole.Carrier.out out-Expr out-Stmt digits utf16 print_body quoted is_plain_key key_text message_text unit_text lib.Utf8.encode cut tree_elements goes_down plain_from text_sent
row_sent = refl

-- { try { yield 1; throw 2; } catch (e) { yield e + 1; } } (segment 2)
text_handled : Function
text_handled = fn None [] true (f.Items (s.Try (s.Yield None (Some (e.Int (pos 1))) ∷ s.Throw (e.Int (pos 2)) ∷ []) (Some (catch (Some (codes "e")) (s.Yield None (Some (e.Binary O.Add (e.Name (codes "e")) (e.Int (pos 1)))) ∷ []))) None ∷ []))

row_handled : shown (run_of no_texts text_handled [] 1) ≡ (codes "3", 1)
unfolding ◌>>=◌ lift carries chars tree.hidden-the_row-Expr-0 tree.hidden-the_row-Expr-2 tree.hidden-the_row-PropNode-1 tree.hidden-the_row-Stmt-3 tree.hidden-the_row-Stmt-5 tree.hidden-the_row-Decl-4 denote.Hole.Carrier.hidden denote.Hole.Carrier.out out-Expr out-Stmt digits utf16 print_body quoted is_plain_key key_text message_text unit_text lib.Utf8.encode cut tree_elements goes_down plain_from text_handled
row_handled = refl

-- { const fs = []; for (let i = 0; i < 3; i++) { const v = yield i; fs.push(() => [i, v]); } return fs.map(f => f()); } (segment 3)
text_yieldfor : Function
text_yieldfor = fn None [] true (f.Items (s.Const (decl (codes "fs") (d.Value (e.Array [])) ∷ []) ∷ s.For (h.Let (decl (codes "i") (d.Value (e.Int (pos 0))) ∷ [])) (Some (e.Compare C.Less (e.Name (codes "i")) (e.Int (pos 3)))) (Some (e.Update P.Up false (e.Name (codes "i")))) (s.Block (s.Const (decl (codes "v") (d.Yield (Some (e.Name (codes "i")))) ∷ []) ∷ s.Expr (e.Call (e.Member (e.Name (codes "fs")) (codes "push")) ((e.Arrow (fn None [] false (f.Value (e.Array ((e.Name (codes "i")) ∷ (e.Name (codes "v")) ∷ []))))) ∷ [])) ∷ [])) ∷ s.Return (Some (e.Call (e.Member (e.Name (codes "fs")) (codes "map")) ((e.Arrow (fn None ((codes "f") ∷ []) false (f.Value (e.Call (e.Name (codes "f")) [])))) ∷ []))) ∷ []))

row_yieldfor : shown (run_of prelude_texts text_yieldfor [] 2) ≡ (codes "2", 7)
unfolding ◌>>=◌ lift carries chars tree.hidden-the_row-Expr-0 tree.hidden-the_row-Expr-2 tree.hidden-the_row-PropNode-1 tree.hidden-the_row-Stmt-3 tree.hidden-the_row-Stmt-5 tree.hidden-the_row-Decl-4 denote.Hole.Carrier.hidden denote.Hole.Carrier.out out-Expr out-Stmt digits utf16 print_body quoted is_plain_key key_text message_text unit_text lib.Utf8.encode cut tree_elements goes_down plain_from member element call call_with declared const_stmt let_stmt assign_stmt count_stmt empty_stmt push_stmt if_stmt from_zero below_count for_stmt function_tree map_items map_tree filter_turn filter_items filter_tree for_each_items for_each_tree search_items some_tree every_tree message refuse_stmt is_empty first_element start_items start_stmt reduce_turn reduce_items reduce_tree has_no_function mapped_element taken_element from_items from_tree text_yieldfor
row_yieldfor = refl

-- { let i = 0; do { if (i > 0) yield i * 10; else { yield "a"; } i++; } while (i < 3); } (segment 3)
text_yieldelse : Function
text_yieldelse = fn None [] true (f.Items (s.Let (decl (codes "i") (d.Value (e.Int (pos 0))) ∷ []) ∷ s.DoWhile (s.Block (s.If (e.Compare C.Greater (e.Name (codes "i")) (e.Int (pos 0))) (s.Yield None (Some (e.Binary O.Mul (e.Name (codes "i")) (e.Int (pos 10))))) (Some (s.Block (s.Yield None (Some (e.Text (codes "a"))) ∷ []))) ∷ s.Expr (e.Update P.Up false (e.Name (codes "i"))) ∷ [])) (e.Compare C.Less (e.Name (codes "i")) (e.Int (pos 3))) ∷ []))

row_yieldelse : shown (run_of no_texts text_yieldelse [] 2) ≡ (codes "20", 2)
unfolding ◌>>=◌ lift carries chars tree.hidden-the_row-Expr-0 tree.hidden-the_row-Expr-2 tree.hidden-the_row-PropNode-1 tree.hidden-the_row-Stmt-3 tree.hidden-the_row-Stmt-5 tree.hidden-the_row-Decl-4 denote.Hole.Carrier.hidden denote.Hole.Carrier.out out-Expr out-Stmt digits utf16 print_body quoted is_plain_key key_text message_text unit_text lib.Utf8.encode cut tree_elements goes_down plain_from text_yieldelse
row_yieldelse = refl

-- { for (const x of [5, 6]) { try { yield x; throw x; } catch (e) { yield e + 100; } } } (segment 4)
text_yieldof : Function
text_yieldof = fn None [] true (f.Items (s.ForOf true (codes "x") (e.Array ((e.Int (pos 5)) ∷ (e.Int (pos 6)) ∷ [])) (s.Block (s.Try (s.Yield None (Some (e.Name (codes "x"))) ∷ s.Throw (e.Name (codes "x")) ∷ []) (Some (catch (Some (codes "e")) (s.Yield None (Some (e.Binary O.Add (e.Name (codes "e")) (e.Int (pos 100)))) ∷ []))) None ∷ [])) ∷ []))

row_yieldof : shown (run_of no_texts text_yieldof [] 3) ≡ (codes "106", 1)
unfolding ◌>>=◌ lift carries chars tree.hidden-the_row-Expr-0 tree.hidden-the_row-Expr-2 tree.hidden-the_row-PropNode-1 tree.hidden-the_row-Stmt-3 tree.hidden-the_row-Stmt-5 tree.hidden-the_row-Decl-4 denote.Hole.Carrier.hidden denote.Hole.Carrier.out out-Expr out-Stmt digits utf16 print_body quoted is_plain_key key_text message_text unit_text lib.Utf8.encode cut tree_elements goes_down plain_from text_yieldof
row_yieldof = refl

-- { let a = yield 1, b = a; yield [a, b]; } (segment 2)
text_decls : Function
text_decls = fn None [] true (f.Items (s.Let (decl (codes "a") (d.Yield (Some (e.Int (pos 1)))) ∷ decl (codes "b") (d.Value (e.Name (codes "a"))) ∷ []) ∷ s.Yield None (Some (e.Array ((e.Name (codes "a")) ∷ (e.Name (codes "b")) ∷ []))) ∷ []))

row_decls : shown (run_of no_texts text_decls [] 1) ≡ (codes "[1, 1]", 4)
unfolding ◌>>=◌ lift carries chars tree.hidden-the_row-Expr-0 tree.hidden-the_row-Expr-2 tree.hidden-the_row-PropNode-1 tree.hidden-the_row-Stmt-3 tree.hidden-the_row-Stmt-5 tree.hidden-the_row-Decl-4 denote.Hole.Carrier.hidden denote.Hole.Carrier.out out-Expr out-Stmt digits utf16 print_body quoted is_plain_key key_text message_text unit_text lib.Utf8.encode cut tree_elements goes_down plain_from text_decls
row_decls = refl

-- { function* g() { try { yield 1; yield 2; } catch (e) { yield 9; } } const r = []; for (const x of g()) { r.push(x); yield r.slice(); } } (segment 2)
text_genof : Function
text_genof = fn None [] true (f.Items (s.Function (fn (Some (codes "g")) [] true (f.Items (s.Try (s.Yield None (Some (e.Int (pos 1))) ∷ s.Yield None (Some (e.Int (pos 2))) ∷ []) (Some (catch (Some (codes "e")) (s.Yield None (Some (e.Int (pos 9))) ∷ []))) None ∷ []))) ∷ s.Const (decl (codes "r") (d.Value (e.Array [])) ∷ []) ∷ s.ForOf true (codes "x") (e.Call (e.Name (codes "g")) []) (s.Block (s.Expr (e.Call (e.Member (e.Name (codes "r")) (codes "push")) ((e.Name (codes "x")) ∷ [])) ∷ s.Yield None (Some (e.Call (e.Member (e.Name (codes "r")) (codes "slice")) [])) ∷ [])) ∷ []))

row_genof : shown (run_of no_texts text_genof [] 1) ≡ (codes "[1, 2]", 9)
unfolding ◌>>=◌ lift carries chars tree.hidden-the_row-Expr-0 tree.hidden-the_row-Expr-2 tree.hidden-the_row-PropNode-1 tree.hidden-the_row-Stmt-3 tree.hidden-the_row-Stmt-5 tree.hidden-the_row-Decl-4 denote.Hole.Carrier.hidden denote.Hole.Carrier.out out-Expr out-Stmt digits utf16 print_body quoted is_plain_key key_text message_text unit_text lib.Utf8.encode cut tree_elements goes_down plain_from text_genof
row_genof = refl

-- { yield 1; }
text_body1 : Function
text_body1 = fn None [] true (f.Items (s.Yield None (Some (e.Int (pos 1))) ∷ []))

row_body1 : shown (run_of no_texts text_body1 [] 0) ≡ (codes "1", 3)
unfolding ◌>>=◌ lift carries chars tree.hidden-the_row-Expr-0 tree.hidden-the_row-Expr-2 tree.hidden-the_row-PropNode-1 tree.hidden-the_row-Stmt-3 tree.hidden-the_row-Stmt-5 tree.hidden-the_row-Decl-4 denote.Hole.Carrier.hidden denote.Hole.Carrier.out out-Expr out-Stmt digits utf16 print_body quoted is_plain_key key_text message_text unit_text lib.Utf8.encode cut tree_elements goes_down plain_from text_body1
row_body1 = refl

-- { if (false) yield 1; }
text_noyield : Function
text_noyield = fn None [] true (f.Items (s.If (e.Bool false) (s.Yield None (Some (e.Int (pos 1)))) None ∷ []))

row_noyield : shown (run_of no_texts text_noyield [] 0) ≡ (codes "undefined", 3)
unfolding ◌>>=◌ lift carries chars tree.hidden-the_row-Expr-0 tree.hidden-the_row-Expr-2 tree.hidden-the_row-PropNode-1 tree.hidden-the_row-Stmt-3 tree.hidden-the_row-Stmt-5 tree.hidden-the_row-Decl-4 denote.Hole.Carrier.hidden denote.Hole.Carrier.out out-Expr out-Stmt digits utf16 print_body quoted is_plain_key key_text message_text unit_text lib.Utf8.encode cut tree_elements goes_down plain_from text_noyield
row_noyield = refl

-- { log(1); yield 1; log(2); yield 2; }
text_lastlogs : Function
text_lastlogs = fn None [] true (f.Items (s.Expr (e.Call (e.Name (codes "log")) ((e.Int (pos 1)) ∷ [])) ∷ s.Yield None (Some (e.Int (pos 1))) ∷ s.Expr (e.Call (e.Name (codes "log")) ((e.Int (pos 2)) ∷ [])) ∷ s.Yield None (Some (e.Int (pos 2))) ∷ []))

-- of the last segment alone
row_lastlogs : shown_logs (run_of no_texts text_lastlogs (V.Builtin 7 ∷ []) 1) ≡ codes "2" ∷ []
unfolding ◌>>=◌ lift carries chars tree.hidden-the_row-Expr-0 tree.hidden-the_row-Expr-2 tree.hidden-the_row-PropNode-1 tree.hidden-the_row-Stmt-3 tree.hidden-the_row-Stmt-5 tree.hidden-the_row-Decl-4 denote.Hole.Carrier.hidden denote.Hole.Carrier.out out-Expr out-Stmt digits utf16 print_body quoted is_plain_key key_text message_text unit_text lib.Utf8.encode cut tree_elements goes_down plain_from text_lastlogs
row_lastlogs = refl

-- { yield 1; yield 2; }
text_positions : Function
text_positions = fn None [] true (f.Items (s.Yield None (Some (e.Int (pos 1))) ∷ s.Yield None (Some (e.Int (pos 2))) ∷ []))

row_positions1 : stands (run_of no_texts text_positions [] 0) ≡ (1, false)
unfolding ◌>>=◌ lift carries chars tree.hidden-the_row-Expr-0 tree.hidden-the_row-Expr-2 tree.hidden-the_row-PropNode-1 tree.hidden-the_row-Stmt-3 tree.hidden-the_row-Stmt-5 tree.hidden-the_row-Decl-4 denote.Hole.Carrier.hidden denote.Hole.Carrier.out out-Expr out-Stmt digits utf16 print_body quoted is_plain_key key_text message_text unit_text lib.Utf8.encode cut tree_elements goes_down plain_from text_positions
row_positions1 = refl

row_positions2 : stands (run_of no_texts text_positions [] 1) ≡ (2, false)
unfolding ◌>>=◌ lift carries chars tree.hidden-the_row-Expr-0 tree.hidden-the_row-Expr-2 tree.hidden-the_row-PropNode-1 tree.hidden-the_row-Stmt-3 tree.hidden-the_row-Stmt-5 tree.hidden-the_row-Decl-4 denote.Hole.Carrier.hidden denote.Hole.Carrier.out out-Expr out-Stmt digits utf16 print_body quoted is_plain_key key_text message_text unit_text lib.Utf8.encode cut tree_elements goes_down plain_from text_positions
row_positions2 = refl

-- an end keeps the position
row_positions3 : stands (run_of no_texts text_positions [] 2) ≡ (2, true)
unfolding ◌>>=◌ lift carries chars tree.hidden-the_row-Expr-0 tree.hidden-the_row-Expr-2 tree.hidden-the_row-PropNode-1 tree.hidden-the_row-Stmt-3 tree.hidden-the_row-Stmt-5 tree.hidden-the_row-Decl-4 denote.Hole.Carrier.hidden denote.Hole.Carrier.out out-Expr out-Stmt digits utf16 print_body quoted is_plain_key key_text message_text unit_text lib.Utf8.encode cut tree_elements goes_down plain_from text_positions
row_positions3 = refl

-- { return (function* () { yield 4; })(); }
text_returnsgen : Function
text_returnsgen = fn None [] false (f.Items (s.Return (Some (e.Call (e.Function (fn None [] true (f.Items (s.Yield None (Some (e.Int (pos 4))) ∷ [])))) [])) ∷ []))

row_returnsgen : shown (run_of no_texts text_returnsgen [] 0) ≡ (codes "4", 5)
unfolding ◌>>=◌ lift carries chars tree.hidden-the_row-Expr-0 tree.hidden-the_row-Expr-2 tree.hidden-the_row-PropNode-1 tree.hidden-the_row-Stmt-3 tree.hidden-the_row-Stmt-5 tree.hidden-the_row-Decl-4 denote.Hole.Carrier.hidden denote.Hole.Carrier.out out-Expr out-Stmt digits utf16 print_body quoted is_plain_key key_text message_text unit_text lib.Utf8.encode cut tree_elements goes_down plain_from text_returnsgen
row_returnsgen = refl
