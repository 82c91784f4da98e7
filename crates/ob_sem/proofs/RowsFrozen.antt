-- Worked rows: what is frozen. Each has its outcome as a report shows it, and mostly its steps.
use Rattle.std.proofs.Common.{◌≡◌, refl}
use Rattle.std.specs.Fmt.{digits}
use Rattle.std.specs.Prelude.{pos, true, false, [], ◌∷◌, Some, None, codes}
use Rattle.std.specs.Str.{chars}
use Rattle.ob_base.specs.Escapes.{unit_text}
use Rattle.ob_base.specs.Utf16.{utf16}
use Rattle.ob_base.specs.declared.operators.AssignOp.TheVariants as A
use Rattle.ob_base.specs.declared.operators.BinaryOp.TheVariants as O
use Rattle.ob_base.specs.declared.operators.UpdateOp.TheVariants as P
use Rattle.ob_tree_types.specs.declared.tree.DeclValue.TheBlock as tree
use Rattle.ob_tree_types.specs.declared.tree.DeclValue.TheVariants as d
use Rattle.ob_tree_types.specs.declared.tree.Expr.TheVariants as e
use Rattle.ob_tree_types.specs.declared.tree.Expr.{out-Expr}
use Rattle.ob_tree_types.specs.declared.tree.FnBody.TheVariants as f
use Rattle.ob_tree_types.specs.declared.tree.Function.{Function}
use Rattle.ob_tree_types.specs.declared.tree.Stmt.TheVariants as s
use Rattle.ob_tree_types.specs.declared.tree.Stmt.{out-Stmt}
use Rattle.ob_values.specs.Inspect.{print_body, quoted, is_plain_key, key_text, message_text}
use Rattle.ob_values.specs.PlainOf.{tree_elements, goes_down, plain_from}
use Rattle.ob_values.specs.TextMethods.{cut}
use Rattle.ob_actions.specs.Act.{◌>>=◌}
use Rattle.ob_sem.specs.Whole.{lift, carries}
use Rattle.ob_sem.proofs.RowParts.{fn, decl, run_of, no_texts, shown, run_after}

-- { let i = 0; const f = () => i; yield f; i = i + 1; yield f; }
text_frozen1 : Function
text_frozen1 = fn None [] true (f.Items (s.Let (decl (codes "i") (d.Value (e.Int (pos 0))) ∷ []) ∷ s.Const (decl (codes "f") (d.Value (e.Arrow (fn None [] false (f.Value (e.Name (codes "i")))))) ∷ []) ∷ s.Yield None (Some (e.Name (codes "f"))) ∷ s.Expr (e.Assign A.Set (e.Name (codes "i")) (e.Binary O.Add (e.Name (codes "i")) (e.Int (pos 1)))) ∷ s.Yield None (Some (e.Name (codes "f"))) ∷ []))

row_frozen1 : shown (run_of no_texts text_frozen1 [] 0) ≡ (codes "function", 5)
unfolding ◌>>=◌ lift carries chars tree.hidden-the_row-Expr-0 tree.hidden-the_row-Expr-2 tree.hidden-the_row-PropNode-1 tree.hidden-the_row-Stmt-3 tree.hidden-the_row-Stmt-5 tree.hidden-the_row-Decl-4 denote.Hole.Carrier.hidden denote.Hole.Carrier.out out-Expr out-Stmt digits utf16 print_body quoted is_plain_key key_text message_text unit_text lib.Utf8.encode cut tree_elements goes_down plain_from text_frozen1
row_frozen1 = refl

-- { let i = 0; const f = () => i; yield f; i = i + 1; yield f; } (segment 2)
text_frozen2 : Function
text_frozen2 = fn None [] true (f.Items (s.Let (decl (codes "i") (d.Value (e.Int (pos 0))) ∷ []) ∷ s.Const (decl (codes "f") (d.Value (e.Arrow (fn None [] false (f.Value (e.Name (codes "i")))))) ∷ []) ∷ s.Yield None (Some (e.Name (codes "f"))) ∷ s.Expr (e.Assign A.Set (e.Name (codes "i")) (e.Binary O.Add (e.Name (codes "i")) (e.Int (pos 1)))) ∷ s.Yield None (Some (e.Name (codes "f"))) ∷ []))

row_frozen2 : shown (run_of no_texts text_frozen2 [] 1) ≡ (codes "TypeError: frozen", 2)
unfolding ◌>>=◌ lift carries chars tree.hidden-the_row-Expr-0 tree.hidden-the_row-Expr-2 tree.hidden-the_row-PropNode-1 tree.hidden-the_row-Stmt-3 tree.hidden-the_row-Stmt-5 tree.hidden-the_row-Decl-4 denote.Hole.Carrier.hidden denote.Hole.Carrier.out out-Expr out-Stmt digits utf16 print_body quoted is_plain_key key_text message_text unit_text lib.Utf8.encode cut tree_elements goes_down plain_from text_frozen2
row_frozen2 = refl

-- { const f = () => z; yield f; let z = 1; }
text_late1 : Function
text_late1 = fn None [] true (f.Items (s.Const (decl (codes "f") (d.Value (e.Arrow (fn None [] false (f.Value (e.Name (codes "z")))))) ∷ []) ∷ s.Yield None (Some (e.Name (codes "f"))) ∷ s.Let (decl (codes "z") (d.Value (e.Int (pos 1))) ∷ []) ∷ []))

row_late1 : shown (run_of no_texts text_late1 [] 0) ≡ (codes "function", 5)
unfolding ◌>>=◌ lift carries chars tree.hidden-the_row-Expr-0 tree.hidden-the_row-Expr-2 tree.hidden-the_row-PropNode-1 tree.hidden-the_row-Stmt-3 tree.hidden-the_row-Stmt-5 tree.hidden-the_row-Decl-4 denote.Hole.Carrier.hidden denote.Hole.Carrier.out out-Expr out-Stmt digits utf16 print_body quoted is_plain_key key_text message_text unit_text lib.Utf8.encode cut tree_elements goes_down plain_from text_late1
row_late1 = refl

-- { const f = () => z; yield f; let z = 1; } (segment 2)
text_late2 : Function
text_late2 = fn None [] true (f.Items (s.Const (decl (codes "f") (d.Value (e.Arrow (fn None [] false (f.Value (e.Name (codes "z")))))) ∷ []) ∷ s.Yield None (Some (e.Name (codes "f"))) ∷ s.Let (decl (codes "z") (d.Value (e.Int (pos 1))) ∷ []) ∷ []))

row_late2 : shown (run_of no_texts text_late2 [] 1) ≡ (codes "TypeError: frozen", 2)
unfolding ◌>>=◌ lift carries chars tree.hidden-the_row-Expr-0 tree.hidden-the_row-Expr-2 tree.hidden-the_row-PropNode-1 tree.hidden-the_row-Stmt-3 tree.hidden-the_row-Stmt-5 tree.hidden-the_row-Decl-4 denote.Hole.Carrier.hidden denote.Hole.Carrier.out out-Expr out-Stmt digits utf16 print_body quoted is_plain_key key_text message_text unit_text lib.Utf8.encode cut tree_elements goes_down plain_from text_late2
row_late2 = refl

-- [1]
text_one : Function
text_one = fn None [] false (f.Value (e.Array ((e.Int (pos 1)) ∷ [])))

-- { a.push(2); return a; }
text_pushes : Function
text_pushes = fn None [] false (f.Items (s.Expr (e.Call (e.Member (e.Name (codes "a")) (codes "push")) ((e.Int (pos 2)) ∷ [])) ∷ s.Return (Some (e.Name (codes "a"))) ∷ []))

row_pushes : (shown (run_after text_one text_pushes)).0 ≡ codes "TypeError: frozen"
unfolding ◌>>=◌ lift carries chars tree.hidden-the_row-Expr-0 tree.hidden-the_row-Expr-2 tree.hidden-the_row-PropNode-1 tree.hidden-the_row-Stmt-3 tree.hidden-the_row-Stmt-5 tree.hidden-the_row-Decl-4 denote.Hole.Carrier.hidden denote.Hole.Carrier.out out-Expr out-Stmt digits utf16 print_body quoted is_plain_key key_text message_text unit_text lib.Utf8.encode cut tree_elements goes_down plain_from text_one text_pushes
row_pushes = refl

-- { const o = {}; const g = (function* () { o.g = g; yield o; yield 2; })(); return g; }
text_ownreach : Function
text_ownreach = fn None [] false (f.Items (s.Const (decl (codes "o") (d.Value (e.Object [])) ∷ []) ∷ s.Const (decl (codes "g") (d.Value (e.Call (e.Function (fn None [] true (f.Items (s.Expr (e.Assign A.Set (e.Member (e.Name (codes "o")) (codes "g")) (e.Name (codes "g"))) ∷ s.Yield None (Some (e.Name (codes "o"))) ∷ s.Yield None (Some (e.Int (pos 2))) ∷ [])))) [])) ∷ []) ∷ s.Return (Some (e.Name (codes "g"))) ∷ []))

-- an outcome that reaches its own generator object
row_ownreach1 : shown (run_of no_texts text_ownreach [] 0) ≡ (codes "{g: generator}", 9)
unfolding ◌>>=◌ lift carries chars tree.hidden-the_row-Expr-0 tree.hidden-the_row-Expr-2 tree.hidden-the_row-PropNode-1 tree.hidden-the_row-Stmt-3 tree.hidden-the_row-Stmt-5 tree.hidden-the_row-Decl-4 denote.Hole.Carrier.hidden denote.Hole.Carrier.out out-Expr out-Stmt digits utf16 print_body quoted is_plain_key key_text message_text unit_text lib.Utf8.encode cut tree_elements goes_down plain_from text_ownreach
row_ownreach1 = refl

row_ownreach2 : shown (run_of no_texts text_ownreach [] 1) ≡ (codes "TypeError: frozen", 1)
unfolding ◌>>=◌ lift carries chars tree.hidden-the_row-Expr-0 tree.hidden-the_row-Expr-2 tree.hidden-the_row-PropNode-1 tree.hidden-the_row-Stmt-3 tree.hidden-the_row-Stmt-5 tree.hidden-the_row-Decl-4 denote.Hole.Carrier.hidden denote.Hole.Carrier.out out-Expr out-Stmt digits utf16 print_body quoted is_plain_key key_text message_text unit_text lib.Utf8.encode cut tree_elements goes_down plain_from text_ownreach
row_ownreach2 = refl

-- { const r = (function* () { yield 1; yield 2; })(); for (const x of r) { yield r; break; } yield 5; }
text_frozenleft : Function
text_frozenleft = fn None [] true (f.Items (s.Const (decl (codes "r") (d.Value (e.Call (e.Function (fn None [] true (f.Items (s.Yield None (Some (e.Int (pos 1))) ∷ s.Yield None (Some (e.Int (pos 2))) ∷ [])))) [])) ∷ []) ∷ s.ForOf true (codes "x") (e.Name (codes "r")) (s.Block (s.Yield None (Some (e.Name (codes "r"))) ∷ s.Break ∷ [])) ∷ s.Yield None (Some (e.Int (pos 5))) ∷ []))

-- { const r = (function* () { yield 1; yield 2; })(); for (const x of r) { yield r; } }
text_frozenpulled : Function
text_frozenpulled = fn None [] true (f.Items (s.Const (decl (codes "r") (d.Value (e.Call (e.Function (fn None [] true (f.Items (s.Yield None (Some (e.Int (pos 1))) ∷ s.Yield None (Some (e.Int (pos 2))) ∷ [])))) [])) ∷ []) ∷ s.ForOf true (codes "x") (e.Name (codes "r")) (s.Block (s.Yield None (Some (e.Name (codes "r"))) ∷ [])) ∷ []))

-- a frozen object that a loop leaves stays as it is
row_frozenleft : shown (run_of no_texts text_frozenleft [] 1) ≡ (codes "5", 1)
unfolding ◌>>=◌ lift carries chars tree.hidden-the_row-Expr-0 tree.hidden-the_row-Expr-2 tree.hidden-the_row-PropNode-1 tree.hidden-the_row-Stmt-3 tree.hidden-the_row-Stmt-5 tree.hidden-the_row-Decl-4 denote.Hole.Carrier.hidden denote.Hole.Carrier.out out-Expr out-Stmt digits utf16 print_body quoted is_plain_key key_text message_text unit_text lib.Utf8.encode cut tree_elements goes_down plain_from text_frozenleft
row_frozenleft = refl

row_frozenpulled : shown (run_of no_texts text_frozenpulled [] 1) ≡ (codes "TypeError: frozen", 2)
unfolding ◌>>=◌ lift carries chars tree.hidden-the_row-Expr-0 tree.hidden-the_row-Expr-2 tree.hidden-the_row-PropNode-1 tree.hidden-the_row-Stmt-3 tree.hidden-the_row-Stmt-5 tree.hidden-the_row-Decl-4 denote.Hole.Carrier.hidden denote.Hole.Carrier.out out-Expr out-Stmt digits utf16 print_body quoted is_plain_key key_text message_text unit_text lib.Utf8.encode cut tree_elements goes_down plain_from text_frozenpulled
row_frozenpulled = refl

-- { const g = (function* () {})(); g.next(); return [g]; }
text_gen : Function
text_gen = fn None [] false (f.Items (s.Const (decl (codes "g") (d.Value (e.Call (e.Function (fn None [] true (f.Items []))) [])) ∷ []) ∷ s.Expr (e.Call (e.Member (e.Name (codes "g")) (codes "next")) []) ∷ s.Return (Some (e.Array ((e.Name (codes "g")) ∷ []))) ∷ []))

-- { a[0].next(); }
text_pulls : Function
text_pulls = fn None [] false (f.Items (s.Expr (e.Call (e.Member (e.Index (e.Name (codes "a")) (e.Int (pos 0))) (codes "next")) []) ∷ []))

-- also where it has ended
row_endedfrozen : (shown (run_after text_gen text_pulls)).0 ≡ codes "TypeError: frozen"
unfolding ◌>>=◌ lift carries chars tree.hidden-the_row-Expr-0 tree.hidden-the_row-Expr-2 tree.hidden-the_row-PropNode-1 tree.hidden-the_row-Stmt-3 tree.hidden-the_row-Stmt-5 tree.hidden-the_row-Decl-4 denote.Hole.Carrier.hidden denote.Hole.Carrier.out out-Expr out-Stmt digits utf16 print_body quoted is_plain_key key_text message_text unit_text lib.Utf8.encode cut tree_elements goes_down plain_from text_gen text_pulls
row_endedfrozen = refl

-- { let i = 0; const a = [7]; while (true) { yield a; i = i + 1; yield i; } }
text_writable : Function
text_writable = fn None [] true (f.Items (s.Let (decl (codes "i") (d.Value (e.Int (pos 0))) ∷ []) ∷ s.Const (decl (codes "a") (d.Value (e.Array ((e.Int (pos 7)) ∷ []))) ∷ []) ∷ s.While (e.Bool true) (s.Block (s.Yield None (Some (e.Name (codes "a"))) ∷ s.Expr (e.Assign A.Set (e.Name (codes "i")) (e.Binary O.Add (e.Name (codes "i")) (e.Int (pos 1)))) ∷ s.Yield None (Some (e.Name (codes "i"))) ∷ [])) ∷ []))

-- locals of a suspended generator that are not captured
row_writable : shown (run_of no_texts text_writable [] 1) ≡ (codes "1", 1)
unfolding ◌>>=◌ lift carries chars tree.hidden-the_row-Expr-0 tree.hidden-the_row-Expr-2 tree.hidden-the_row-PropNode-1 tree.hidden-the_row-Stmt-3 tree.hidden-the_row-Stmt-5 tree.hidden-the_row-Decl-4 denote.Hole.Carrier.hidden denote.Hole.Carrier.out out-Expr out-Stmt digits utf16 print_body quoted is_plain_key key_text message_text unit_text lib.Utf8.encode cut tree_elements goes_down plain_from text_writable
row_writable = refl

-- { let i = 0; return () => { i++; return i; }; }
text_counter : Function
text_counter = fn None [] false (f.Items (s.Let (decl (codes "i") (d.Value (e.Int (pos 0))) ∷ []) ∷ s.Return (Some (e.Arrow (fn None [] false (f.Items (s.Expr (e.Update P.Up false (e.Name (codes "i"))) ∷ s.Return (Some (e.Name (codes "i"))) ∷ []))))) ∷ []))

-- f()
text_counts : Function
text_counts = fn None [] false (f.Value (e.Call (e.Name (codes "f")) []))

-- a function value of another cell
row_closureof : shown (run_after text_counter text_counts) ≡ (codes "TypeError: frozen", 3)
unfolding ◌>>=◌ lift carries chars tree.hidden-the_row-Expr-0 tree.hidden-the_row-Expr-2 tree.hidden-the_row-PropNode-1 tree.hidden-the_row-Stmt-3 tree.hidden-the_row-Stmt-5 tree.hidden-the_row-Decl-4 denote.Hole.Carrier.hidden denote.Hole.Carrier.out out-Expr out-Stmt digits utf16 print_body quoted is_plain_key key_text message_text unit_text lib.Utf8.encode cut tree_elements goes_down plain_from text_counter text_counts
row_closureof = refl
