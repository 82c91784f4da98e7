-- Worked rows: hosts, errors that are made, `log`, `invalidation.then` and changes of mutables. Each has its outcome as a report shows it, and mostly its steps.
use Rattle.std.proofs.Common.{◌≡◌, refl}
use Rattle.std.specs.Fmt.{digits}
use Rattle.std.specs.Prelude.{pos, false, [], ◌∷◌, Some, None, codes}
use Rattle.std.specs.Str.{chars}
use Rattle.ob_base.specs.Escapes.{unit_text}
use Rattle.ob_base.specs.Utf16.{utf16}
use Rattle.ob_base.specs.declared.operators.ChangeOp.TheVariants as K
use Rattle.ob_base.specs.declared.operators.UnaryOp.TheVariants as U
use Rattle.ob_items.specs.declared.value.Value.TheVariants as V
use Rattle.ob_tree_types.specs.declared.tree.DeclValue.TheBlock as tree
use Rattle.ob_tree_types.specs.declared.tree.DeclValue.TheVariants as d
use Rattle.ob_tree_types.specs.declared.tree.Expr.TheVariants as e
use Rattle.ob_tree_types.specs.declared.tree.Expr.{out-Expr}
use Rattle.ob_tree_types.specs.declared.tree.FnBody.TheVariants as f
use Rattle.ob_tree_types.specs.declared.tree.Function.{Function}
use Rattle.ob_tree_types.specs.declared.tree.Stmt.TheVariants as s
use Rattle.ob_tree_types.specs.declared.tree.Stmt.{out-Stmt}
use Rattle.ob_values.specs.Inspect.{print_body, quoted, is_plain_key, key_text, message_text}
use Rattle.ob_values.specs.PlainOf.{tree_elements, goes_down, plain_from}
use Rattle.ob_values.specs.TextMethods.{cut}
use Rattle.ob_actions.specs.Act.{◌>>=◌}
use Rattle.ob_sem.specs.Whole.{lift, carries}
use Rattle.ob_sem.proofs.RowParts.{fn, decl, run_of, no_texts, shown, hooks_text, run_kept, hooks_with}

-- { invalidation.then(() => 1); return 3; }
text_then : Function
text_then = fn None [] false (f.Items (s.Expr (e.Call (e.Member (e.Name (codes "invalidation")) (codes "then")) ((e.Arrow (fn None [] false (f.Value (e.Int (pos 1))))) ∷ [])) ∷ s.Return (Some (e.Int (pos 3))) ∷ []))

row_then : shown (run_of no_texts text_then (V.Builtin 8 ∷ []) 0) ≡ (codes "3", 3)
unfolding ◌>>=◌ lift carries chars tree.hidden-the_row-Expr-0 tree.hidden-the_row-Expr-2 tree.hidden-the_row-PropNode-1 tree.hidden-the_row-Stmt-3 tree.hidden-the_row-Stmt-5 tree.hidden-the_row-Decl-4 denote.Hole.Carrier.hidden denote.Hole.Carrier.out out-Expr out-Stmt digits utf16 print_body quoted is_plain_key key_text message_text unit_text lib.Utf8.encode cut tree_elements goes_down plain_from text_then
row_then = refl

-- { log([1, "a"]); return log; }
text_log : Function
text_log = fn None [] false (f.Items (s.Expr (e.Call (e.Name (codes "log")) ((e.Array ((e.Int (pos 1)) ∷ (e.Text (codes "a")) ∷ [])) ∷ [])) ∷ s.Return (Some (e.Name (codes "log"))) ∷ []))

row_log : shown (run_of no_texts text_log (V.Builtin 7 ∷ []) 0) ≡ (codes "function", 6)
unfolding ◌>>=◌ lift carries chars tree.hidden-the_row-Expr-0 tree.hidden-the_row-Expr-2 tree.hidden-the_row-PropNode-1 tree.hidden-the_row-Stmt-3 tree.hidden-the_row-Stmt-5 tree.hidden-the_row-Decl-4 denote.Hole.Carrier.hidden denote.Hole.Carrier.out out-Expr out-Stmt digits utf16 print_body quoted is_plain_key key_text message_text unit_text lib.Utf8.encode cut tree_elements goes_down plain_from text_log
row_log = refl

-- quot(-7, 2)
text_host : Function
text_host = fn None [] false (f.Value (e.Call (e.Name (codes "quot")) ((e.Unary U.Minus (e.Int (pos 7))) ∷ (e.Int (pos 2)) ∷ [])))

row_host : shown (run_of no_texts text_host (V.Builtin 45 ∷ []) 0) ≡ (codes "-3", 2)
unfolding ◌>>=◌ lift carries chars tree.hidden-the_row-Expr-0 tree.hidden-the_row-Expr-2 tree.hidden-the_row-PropNode-1 tree.hidden-the_row-Stmt-3 tree.hidden-the_row-Stmt-5 tree.hidden-the_row-Decl-4 denote.Hole.Carrier.hidden denote.Hole.Carrier.out out-Expr out-Stmt digits utf16 print_body quoted is_plain_key key_text message_text unit_text lib.Utf8.encode cut tree_elements goes_down plain_from text_host
row_host = refl

-- clamp0(-5)
text_hosted : Function
text_hosted = fn None [] false (f.Value (e.Call (e.Name (codes "clamp0")) ((e.Unary U.Minus (e.Int (pos 5))) ∷ [])))

row_hosted : shown (run_of no_texts text_hosted (V.Builtin 46 ∷ []) 0) ≡ (codes "0", 2)
unfolding ◌>>=◌ lift carries chars tree.hidden-the_row-Expr-0 tree.hidden-the_row-Expr-2 tree.hidden-the_row-PropNode-1 tree.hidden-the_row-Stmt-3 tree.hidden-the_row-Stmt-5 tree.hidden-the_row-Decl-4 denote.Hole.Carrier.hidden denote.Hole.Carrier.out out-Expr out-Stmt digits utf16 print_body quoted is_plain_key key_text message_text unit_text lib.Utf8.encode cut tree_elements goes_down plain_from text_hosted
row_hosted = refl

-- quot(1, 0)
text_zero : Function
text_zero = fn None [] false (f.Value (e.Call (e.Name (codes "quot")) ((e.Int (pos 1)) ∷ (e.Int (pos 0)) ∷ [])))

row_zero : shown (run_of no_texts text_zero (V.Builtin 45 ∷ []) 0) ≡ (codes "RangeError: division by zero", 3)
unfolding ◌>>=◌ lift carries chars tree.hidden-the_row-Expr-0 tree.hidden-the_row-Expr-2 tree.hidden-the_row-PropNode-1 tree.hidden-the_row-Stmt-3 tree.hidden-the_row-Stmt-5 tree.hidden-the_row-Decl-4 denote.Hole.Carrier.hidden denote.Hole.Carrier.out out-Expr out-Stmt digits utf16 print_body quoted is_plain_key key_text message_text unit_text lib.Utf8.encode cut tree_elements goes_down plain_from text_zero
row_zero = refl

-- new RangeError(5)
text_made : Function
text_made = fn None [] false (f.Value (e.New (codes "RangeError") ((e.Int (pos 5)) ∷ [])))

row_made : shown (run_of no_texts text_made (V.Builtin 6 ∷ []) 0) ≡ (codes "RangeError(\"5\")", 3)
unfolding ◌>>=◌ lift carries chars tree.hidden-the_row-Expr-0 tree.hidden-the_row-Expr-2 tree.hidden-the_row-PropNode-1 tree.hidden-the_row-Stmt-3 tree.hidden-the_row-Stmt-5 tree.hidden-the_row-Decl-4 denote.Hole.Carrier.hidden denote.Hole.Carrier.out out-Expr out-Stmt digits utf16 print_body quoted is_plain_key key_text message_text unit_text lib.Utf8.encode cut tree_elements goes_down plain_from text_made
row_made = refl

-- { invalidation.then(() => { throw 5; }); invalidation.then(() => log("bye")); return k; }
text_hooked : Function
text_hooked = fn None [] false (f.Items (s.Expr (e.Call (e.Member (e.Name (codes "invalidation")) (codes "then")) ((e.Arrow (fn None [] false (f.Items (s.Throw (e.Int (pos 5)) ∷ [])))) ∷ [])) ∷ s.Expr (e.Call (e.Member (e.Name (codes "invalidation")) (codes "then")) ((e.Arrow (fn None [] false (f.Value (e.Call (e.Name (codes "log")) ((e.Text (codes "bye")) ∷ []))))) ∷ [])) ∷ s.Return (Some (e.Name (codes "k"))) ∷ []))

row_hooked : hooks_text (run_of no_texts text_hooked (V.Builtin 8 ∷ V.Builtin 7 ∷ V.Int (pos 1) ∷ []) 0) text_hooked ≡ (codes "thrown 5" ∷ codes "\"bye\"" ∷ [])
unfolding ◌>>=◌ lift carries chars tree.hidden-the_row-Expr-0 tree.hidden-the_row-Expr-2 tree.hidden-the_row-PropNode-1 tree.hidden-the_row-Stmt-3 tree.hidden-the_row-Stmt-5 tree.hidden-the_row-Decl-4 denote.Hole.Carrier.hidden denote.Hole.Carrier.out out-Expr out-Stmt digits utf16 print_body quoted is_plain_key key_text message_text unit_text lib.Utf8.encode cut tree_elements goes_down plain_from text_hooked
row_hooked = refl

-- { mutable n = () => 1; }
text_notplain : Function
text_notplain = fn None [] false (f.Items (s.Change (codes "n") K.Set (Some (e.Arrow (fn None [] false (f.Value (e.Int (pos 1)))))) ∷ []))

row_notplain : shown (run_of no_texts text_notplain (V.Holder 3 ∷ []) 0) ≡ (codes "TypeError: not plain data", 3)
unfolding ◌>>=◌ lift carries chars tree.hidden-the_row-Expr-0 tree.hidden-the_row-Expr-2 tree.hidden-the_row-PropNode-1 tree.hidden-the_row-Stmt-3 tree.hidden-the_row-Stmt-5 tree.hidden-the_row-Decl-4 denote.Hole.Carrier.hidden denote.Hole.Carrier.out out-Expr out-Stmt digits utf16 print_body quoted is_plain_key key_text message_text unit_text lib.Utf8.encode cut tree_elements goes_down plain_from text_notplain
row_notplain = refl

-- { invalidation.then(5); }
text_badhook : Function
text_badhook = fn None [] false (f.Items (s.Expr (e.Call (e.Member (e.Name (codes "invalidation")) (codes "then")) ((e.Int (pos 5)) ∷ [])) ∷ []))

row_badhook : shown (run_of no_texts text_badhook (V.Builtin 8 ∷ []) 0) ≡ (codes "TypeError: bad argument", 3)
unfolding ◌>>=◌ lift carries chars tree.hidden-the_row-Expr-0 tree.hidden-the_row-Expr-2 tree.hidden-the_row-PropNode-1 tree.hidden-the_row-Stmt-3 tree.hidden-the_row-Stmt-5 tree.hidden-the_row-Decl-4 denote.Hole.Carrier.hidden denote.Hole.Carrier.out out-Expr out-Stmt digits utf16 print_body quoted is_plain_key key_text message_text unit_text lib.Utf8.encode cut tree_elements goes_down plain_from text_badhook
row_badhook = refl

-- { invalidation.then(log); invalidation.then(log); }
text_hooks1001 : Function
text_hooks1001 = fn None [] false (f.Items (s.Expr (e.Call (e.Member (e.Name (codes "invalidation")) (codes "then")) ((e.Name (codes "log")) ∷ [])) ∷ s.Expr (e.Call (e.Member (e.Name (codes "invalidation")) (codes "then")) ((e.Name (codes "log")) ∷ [])) ∷ []))

-- where 999 were kept before: the 1,001st
row_hooks1001 : shown (run_kept 999 text_hooks1001 (V.Builtin 8 ∷ V.Builtin 7 ∷ [])) ≡ (codes "RangeError: bad count", 4)
unfolding ◌>>=◌ lift carries chars tree.hidden-the_row-Expr-0 tree.hidden-the_row-Expr-2 tree.hidden-the_row-PropNode-1 tree.hidden-the_row-Stmt-3 tree.hidden-the_row-Stmt-5 tree.hidden-the_row-Decl-4 denote.Hole.Carrier.hidden denote.Hole.Carrier.out out-Expr out-Stmt digits utf16 print_body quoted is_plain_key key_text message_text unit_text lib.Utf8.encode cut tree_elements goes_down plain_from text_hooks1001
row_hooks1001 = refl

-- where 998 were kept before
row_hooks1000 : shown (run_kept 998 text_hooks1001 (V.Builtin 8 ∷ V.Builtin 7 ∷ [])) ≡ (codes "undefined", 3)
unfolding ◌>>=◌ lift carries chars tree.hidden-the_row-Expr-0 tree.hidden-the_row-Expr-2 tree.hidden-the_row-PropNode-1 tree.hidden-the_row-Stmt-3 tree.hidden-the_row-Stmt-5 tree.hidden-the_row-Decl-4 denote.Hole.Carrier.hidden denote.Hole.Carrier.out out-Expr out-Stmt digits utf16 print_body quoted is_plain_key key_text message_text unit_text lib.Utf8.encode cut tree_elements goes_down plain_from text_hooks1001
row_hooks1000 = refl

-- { invalidation.then(() => { invalidation.then(log); }); }
text_hookthen : Function
text_hookthen = fn None [] false (f.Items (s.Expr (e.Call (e.Member (e.Name (codes "invalidation")) (codes "then")) ((e.Arrow (fn None [] false (f.Items (s.Expr (e.Call (e.Member (e.Name (codes "invalidation")) (codes "then")) ((e.Name (codes "log")) ∷ [])) ∷ [])))) ∷ [])) ∷ []))

-- in a hook the object is frozen
row_hookthen : hooks_text (run_of no_texts text_hookthen (V.Builtin 8 ∷ V.Builtin 7 ∷ []) 0) text_hookthen ≡ codes "TypeError: frozen" ∷ []
unfolding ◌>>=◌ lift carries chars tree.hidden-the_row-Expr-0 tree.hidden-the_row-Expr-2 tree.hidden-the_row-PropNode-1 tree.hidden-the_row-Stmt-3 tree.hidden-the_row-Stmt-5 tree.hidden-the_row-Decl-4 denote.Hole.Carrier.hidden denote.Hole.Carrier.out out-Expr out-Stmt digits utf16 print_body quoted is_plain_key key_text message_text unit_text lib.Utf8.encode cut tree_elements goes_down plain_from text_hookthen
row_hookthen = refl

-- { invalidation.then(() => "a".repeat(200)); invalidation.then(() => log("x")); }
text_hookleft : Function
text_hookleft = fn None [] false (f.Items (s.Expr (e.Call (e.Member (e.Name (codes "invalidation")) (codes "then")) ((e.Arrow (fn None [] false (f.Value (e.Call (e.Member (e.Text (codes "a")) (codes "repeat")) ((e.Int (pos 200)) ∷ []))))) ∷ [])) ∷ s.Expr (e.Call (e.Member (e.Name (codes "invalidation")) (codes "then")) ((e.Arrow (fn None [] false (f.Value (e.Call (e.Name (codes "log")) ((e.Text (codes "x")) ∷ []))))) ∷ [])) ∷ []))

-- the hooks share 6 steps
row_hookleft : hooks_with 6 (run_of no_texts text_hookleft (V.Builtin 8 ∷ V.Builtin 7 ∷ []) 0) text_hookleft ≡ codes "RangeError: too many steps" ∷ codes "\"x\"" ∷ []
unfolding ◌>>=◌ lift carries chars tree.hidden-the_row-Expr-0 tree.hidden-the_row-Expr-2 tree.hidden-the_row-PropNode-1 tree.hidden-the_row-Stmt-3 tree.hidden-the_row-Stmt-5 tree.hidden-the_row-Decl-4 denote.Hole.Carrier.hidden denote.Hole.Carrier.out out-Expr out-Stmt digits utf16 print_body quoted is_plain_key key_text message_text unit_text lib.Utf8.encode cut tree_elements goes_down plain_from text_hookleft
row_hookleft = refl

-- { invalidation.then(Math.min); invalidation.then(log); }
text_builtinhook : Function
text_builtinhook = fn None [] false (f.Items (s.Expr (e.Call (e.Member (e.Name (codes "invalidation")) (codes "then")) ((e.Member (e.Name (codes "Math")) (codes "min")) ∷ [])) ∷ s.Expr (e.Call (e.Member (e.Name (codes "invalidation")) (codes "then")) ((e.Name (codes "log")) ∷ [])) ∷ []))

-- builtins as hooks are called without arguments
row_builtinhook : hooks_text (run_of no_texts text_builtinhook (V.Builtin 8 ∷ V.Builtin 0 ∷ V.Builtin 7 ∷ []) 0) text_builtinhook ≡ codes "RangeError: bad count" ∷ codes "undefined" ∷ []
unfolding ◌>>=◌ lift carries chars tree.hidden-the_row-Expr-0 tree.hidden-the_row-Expr-2 tree.hidden-the_row-PropNode-1 tree.hidden-the_row-Stmt-3 tree.hidden-the_row-Stmt-5 tree.hidden-the_row-Decl-4 denote.Hole.Carrier.hidden denote.Hole.Carrier.out out-Expr out-Stmt digits utf16 print_body quoted is_plain_key key_text message_text unit_text lib.Utf8.encode cut tree_elements goes_down plain_from text_builtinhook
row_builtinhook = refl

-- quot(1, "a")
text_hostbad : Function
text_hostbad = fn None [] false (f.Value (e.Call (e.Name (codes "quot")) ((e.Int (pos 1)) ∷ (e.Text (codes "a")) ∷ [])))

row_hostbad : shown (run_of no_texts text_hostbad (V.Builtin 45 ∷ []) 0) ≡ (codes "TypeError: bad argument", 3)
unfolding ◌>>=◌ lift carries chars tree.hidden-the_row-Expr-0 tree.hidden-the_row-Expr-2 tree.hidden-the_row-PropNode-1 tree.hidden-the_row-Stmt-3 tree.hidden-the_row-Stmt-5 tree.hidden-the_row-Decl-4 denote.Hole.Carrier.hidden denote.Hole.Carrier.out out-Expr out-Stmt digits utf16 print_body quoted is_plain_key key_text message_text unit_text lib.Utf8.encode cut tree_elements goes_down plain_from text_hostbad
row_hostbad = refl

-- { const e = Error(5); return [e.name, e.message, typeof e, String(7)]; }
text_errorof : Function
text_errorof = fn None [] false (f.Items (s.Const (decl (codes "e") (d.Value (e.Call (e.Name (codes "Error")) ((e.Int (pos 5)) ∷ []))) ∷ []) ∷ s.Return (Some (e.Array ((e.Member (e.Name (codes "e")) (codes "name")) ∷ (e.Member (e.Name (codes "e")) (codes "message")) ∷ (e.Unary U.Typeof (e.Name (codes "e"))) ∷ (e.Call (e.Name (codes "String")) ((e.Int (pos 7)) ∷ [])) ∷ []))) ∷ []))

row_errorof : shown (run_of no_texts text_errorof (V.Builtin 4 ∷ V.Builtin 3 ∷ []) 0) ≡ (codes "[\"Error\", \"5\", \"object\", \"7\"]", 10)
unfolding ◌>>=◌ lift carries chars tree.hidden-the_row-Expr-0 tree.hidden-the_row-Expr-2 tree.hidden-the_row-PropNode-1 tree.hidden-the_row-Stmt-3 tree.hidden-the_row-Stmt-5 tree.hidden-the_row-Decl-4 denote.Hole.Carrier.hidden denote.Hole.Carrier.out out-Expr out-Stmt digits utf16 print_body quoted is_plain_key key_text message_text unit_text lib.Utf8.encode cut tree_elements goes_down plain_from text_errorof
row_errorof = refl
