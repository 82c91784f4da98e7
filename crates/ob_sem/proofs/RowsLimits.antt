-- Worked rows: limits. Each has its outcome as a report shows it, and mostly its steps.
use Rattle.std.proofs.Common.{◌≡◌, refl}
use Rattle.std.specs.Fmt.{digits}
use Rattle.std.specs.Prelude.{pos, true, false, [], ◌∷◌, Some, None, codes}
use Rattle.std.specs.Str.{chars}
use Rattle.ob_base.specs.Escapes.{unit_text}
use Rattle.ob_base.specs.Utf16.{utf16}
use Rattle.ob_base.specs.declared.operators.CompareOp.TheVariants as C
use Rattle.ob_base.specs.declared.operators.UpdateOp.TheVariants as P
use Rattle.ob_tree_types.specs.declared.tree.DeclValue.TheBlock as tree
use Rattle.ob_tree_types.specs.declared.tree.DeclValue.TheVariants as d
use Rattle.ob_tree_types.specs.declared.tree.Expr.TheVariants as e
use Rattle.ob_tree_types.specs.declared.tree.Expr.{out-Expr}
use Rattle.ob_tree_types.specs.declared.tree.FnBody.TheVariants as f
use Rattle.ob_tree_types.specs.declared.tree.ForHead.TheVariants as h
use Rattle.ob_tree_types.specs.declared.tree.Function.{Function}
use Rattle.ob_tree_types.specs.declared.tree.Stmt.TheVariants as s
use Rattle.ob_tree_types.specs.declared.tree.Stmt.{out-Stmt}
use Rattle.ob_values.specs.Inspect.{print_body, quoted, is_plain_key, key_text, message_text}
use Rattle.ob_values.specs.PlainOf.{tree_elements, goes_down, plain_from}
use Rattle.ob_values.specs.TextMethods.{cut}
use Rattle.ob_actions.specs.Act.{◌>>=◌}
use Rattle.ob_sem.specs.Whole.{lift, carries}
use Rattle.ob_sem.proofs.RowParts.{fn, decl, catch, run_of, no_texts, shown, run_with}

-- { try { while (true) {} } catch (e) {} return 1; }
text_w : Function
text_w = fn None [] false (f.Items (s.Try (s.While (e.Bool true) (s.Block []) ∷ []) (Some (catch (Some (codes "e")) [])) None ∷ s.Return (Some (e.Int (pos 1))) ∷ []))

-- with 10 steps
row_w : (shown (run_with no_texts text_w 10 0)).0 ≡ codes "RangeError: too many steps"
unfolding ◌>>=◌ lift carries chars tree.hidden-the_row-Expr-0 tree.hidden-the_row-Expr-2 tree.hidden-the_row-PropNode-1 tree.hidden-the_row-Stmt-3 tree.hidden-the_row-Stmt-5 tree.hidden-the_row-Decl-4 denote.Hole.Carrier.hidden denote.Hole.Carrier.out out-Expr out-Stmt digits utf16 print_body quoted is_plain_key key_text message_text unit_text lib.Utf8.encode cut tree_elements goes_down plain_from text_w
row_w = refl

-- { for (let i = 0; i < 9; i++) {} return 1; }
text_l : Function
text_l = fn None [] false (f.Items (s.For (h.Let (decl (codes "i") (d.Value (e.Int (pos 0))) ∷ [])) (Some (e.Compare C.Less (e.Name (codes "i")) (e.Int (pos 9)))) (Some (e.Update P.Up false (e.Name (codes "i")))) (s.Block []) ∷ s.Return (Some (e.Int (pos 1))) ∷ []))

-- with 10 steps
row_l : (shown (run_with no_texts text_l 10 0)).0 ≡ codes "1"
unfolding ◌>>=◌ lift carries chars tree.hidden-the_row-Expr-0 tree.hidden-the_row-Expr-2 tree.hidden-the_row-PropNode-1 tree.hidden-the_row-Stmt-3 tree.hidden-the_row-Stmt-5 tree.hidden-the_row-Decl-4 denote.Hole.Carrier.hidden denote.Hole.Carrier.out out-Expr out-Stmt digits utf16 print_body quoted is_plain_key key_text message_text unit_text lib.Utf8.encode cut tree_elements goes_down plain_from text_l
row_l = refl

-- { for (let i = 0; i < 10; i++) {} return 1; }
text_m : Function
text_m = fn None [] false (f.Items (s.For (h.Let (decl (codes "i") (d.Value (e.Int (pos 0))) ∷ [])) (Some (e.Compare C.Less (e.Name (codes "i")) (e.Int (pos 10)))) (Some (e.Update P.Up false (e.Name (codes "i")))) (s.Block []) ∷ s.Return (Some (e.Int (pos 1))) ∷ []))

-- with 10 steps
row_m6 : (shown (run_with no_texts text_m 10 0)).0 ≡ codes "RangeError: too many steps"
unfolding ◌>>=◌ lift carries chars tree.hidden-the_row-Expr-0 tree.hidden-the_row-Expr-2 tree.hidden-the_row-PropNode-1 tree.hidden-the_row-Stmt-3 tree.hidden-the_row-Stmt-5 tree.hidden-the_row-Decl-4 denote.Hole.Carrier.hidden denote.Hole.Carrier.out out-Expr out-Stmt digits utf16 print_body quoted is_plain_key key_text message_text unit_text lib.Utf8.encode cut tree_elements goes_down plain_from text_m
row_m6 = refl

-- { const f = () => f(); return f(); }
text_endless : Function
text_endless = fn None [] false (f.Items (s.Const (decl (codes "f") (d.Value (e.Arrow (fn None [] false (f.Value (e.Call (e.Name (codes "f")) []))))) ∷ []) ∷ s.Return (Some (e.Call (e.Name (codes "f")) [])) ∷ []))

-- 200 calls deep
row_endless : (shown (run_of no_texts text_endless [] 0)).0 ≡ codes "RangeError: too many calls"
unfolding ◌>>=◌ lift carries chars tree.hidden-the_row-Expr-0 tree.hidden-the_row-Expr-2 tree.hidden-the_row-PropNode-1 tree.hidden-the_row-Stmt-3 tree.hidden-the_row-Stmt-5 tree.hidden-the_row-Decl-4 denote.Hole.Carrier.hidden denote.Hole.Carrier.out out-Expr out-Stmt digits utf16 print_body quoted is_plain_key key_text message_text unit_text lib.Utf8.encode cut tree_elements goes_down plain_from text_endless
row_endless = refl

-- { const a = [1, 2]; try { a.push(3); a.push(4); } catch (e) {} return 1; }
text_full : Function
text_full = fn None [] false (f.Items (s.Const (decl (codes "a") (d.Value (e.Array ((e.Int (pos 1)) ∷ (e.Int (pos 2)) ∷ []))) ∷ []) ∷ s.Try (s.Expr (e.Call (e.Member (e.Name (codes "a")) (codes "push")) ((e.Int (pos 3)) ∷ [])) ∷ s.Expr (e.Call (e.Member (e.Name (codes "a")) (codes "push")) ((e.Int (pos 4)) ∷ [])) ∷ []) (Some (catch (Some (codes "e")) [])) None ∷ s.Return (Some (e.Int (pos 1))) ∷ []))

-- with room for 4 elements
row_full : (shown (run_with no_texts text_full 1000 49996)).0 ≡ codes "RangeError: too many elements"
unfolding ◌>>=◌ lift carries chars tree.hidden-the_row-Expr-0 tree.hidden-the_row-Expr-2 tree.hidden-the_row-PropNode-1 tree.hidden-the_row-Stmt-3 tree.hidden-the_row-Stmt-5 tree.hidden-the_row-Decl-4 denote.Hole.Carrier.hidden denote.Hole.Carrier.out out-Expr out-Stmt digits utf16 print_body quoted is_plain_key key_text message_text unit_text lib.Utf8.encode cut tree_elements goes_down plain_from text_full
row_full = refl

-- { const f = () => f(); try { f(); } catch (e) { return 1; } }
text_deepcaught : Function
text_deepcaught = fn None [] false (f.Items (s.Const (decl (codes "f") (d.Value (e.Arrow (fn None [] false (f.Value (e.Call (e.Name (codes "f")) []))))) ∷ []) ∷ s.Try (s.Expr (e.Call (e.Name (codes "f")) []) ∷ []) (Some (catch (Some (codes "e")) (s.Return (Some (e.Int (pos 1))) ∷ []))) None ∷ []))

row_deepcaught : (shown (run_of no_texts text_deepcaught [] 0)).0 ≡ codes "RangeError: too many calls"
unfolding ◌>>=◌ lift carries chars tree.hidden-the_row-Expr-0 tree.hidden-the_row-Expr-2 tree.hidden-the_row-PropNode-1 tree.hidden-the_row-Stmt-3 tree.hidden-the_row-Stmt-5 tree.hidden-the_row-Decl-4 denote.Hole.Carrier.hidden denote.Hole.Carrier.out out-Expr out-Stmt digits utf16 print_body quoted is_plain_key key_text message_text unit_text lib.Utf8.encode cut tree_elements goes_down plain_from text_deepcaught
row_deepcaught = refl

-- { while (true) {} }
text_whole : Function
text_whole = fn None [] false (f.Items (s.While (e.Bool true) (s.Block []) ∷ []))

-- a segment that meets the limit of steps costs the whole budget
row_whole : shown (run_with no_texts text_whole 10 0) ≡ (codes "RangeError: too many steps", 100000)
unfolding ◌>>=◌ lift carries chars tree.hidden-the_row-Expr-0 tree.hidden-the_row-Expr-2 tree.hidden-the_row-PropNode-1 tree.hidden-the_row-Stmt-3 tree.hidden-the_row-Stmt-5 tree.hidden-the_row-Decl-4 denote.Hole.Carrier.hidden denote.Hole.Carrier.out out-Expr out-Stmt digits utf16 print_body quoted is_plain_key key_text message_text unit_text lib.Utf8.encode cut tree_elements goes_down plain_from text_whole
row_whole = refl

-- "a".repeat(200)
text_refusedtext : Function
text_refusedtext = fn None [] false (f.Value (e.Call (e.Member (e.Text (codes "a")) (codes "repeat")) ((e.Int (pos 200)) ∷ [])))

-- a text of 200 units has 13 elements
row_refused : shown (run_with no_texts text_refusedtext 100 49988) ≡ (codes "RangeError: too many elements", 99902)
unfolding ◌>>=◌ lift carries chars tree.hidden-the_row-Expr-0 tree.hidden-the_row-Expr-2 tree.hidden-the_row-PropNode-1 tree.hidden-the_row-Stmt-3 tree.hidden-the_row-Stmt-5 tree.hidden-the_row-Decl-4 denote.Hole.Carrier.hidden denote.Hole.Carrier.out out-Expr out-Stmt digits utf16 print_body quoted is_plain_key key_text message_text unit_text lib.Utf8.encode cut tree_elements goes_down plain_from text_refusedtext
row_refused = refl

-- with room for 13
row_exactly : (shown (run_with no_texts text_refusedtext 15 49987)).1 ≡ 100000
unfolding ◌>>=◌ lift carries chars tree.hidden-the_row-Expr-0 tree.hidden-the_row-Expr-2 tree.hidden-the_row-PropNode-1 tree.hidden-the_row-Stmt-3 tree.hidden-the_row-Stmt-5 tree.hidden-the_row-Decl-4 denote.Hole.Carrier.hidden denote.Hole.Carrier.out out-Expr out-Stmt digits utf16 print_body quoted is_plain_key key_text message_text unit_text lib.Utf8.encode cut tree_elements goes_down plain_from text_refusedtext
row_exactly = refl
