-- Worked rows: operators, texts and properties. Each has its outcome as a report shows it, and mostly its steps.
use Rattle.std.proofs.Common.{◌≡◌, refl}
use Rattle.std.specs.Fmt.{digits}
use Rattle.std.specs.Prelude.{pos, true, false, [], ◌∷◌, Some, None, codes}
use Rattle.std.specs.Str.{chars}
use Rattle.ob_base.specs.Escapes.{unit_text}
use Rattle.ob_base.specs.Utf16.{utf16}
use Rattle.ob_base.specs.declared.operators.AssignOp.TheVariants as A
use Rattle.ob_base.specs.declared.operators.BinaryOp.TheVariants as O
use Rattle.ob_base.specs.declared.operators.LogicOp.TheVariants as L
use Rattle.ob_base.specs.declared.operators.UnaryOp.TheVariants as U
use Rattle.ob_base.specs.declared.operators.UpdateOp.TheVariants as P
use Rattle.ob_items.specs.declared.value.Value.TheVariants as V
use Rattle.ob_tree_types.specs.declared.tree.DeclValue.TheBlock as tree
use Rattle.ob_tree_types.specs.declared.tree.DeclValue.TheVariants as d
use Rattle.ob_tree_types.specs.declared.tree.Expr.TheVariants as e
use Rattle.ob_tree_types.specs.declared.tree.Expr.{out-Expr}
use Rattle.ob_tree_types.specs.declared.tree.FnBody.TheVariants as f
use Rattle.ob_tree_types.specs.declared.tree.Function.{Function}
use Rattle.ob_tree_types.specs.declared.tree.PropNode.TheVariants as p
use Rattle.ob_tree_types.specs.declared.tree.Stmt.TheVariants as s
use Rattle.ob_tree_types.specs.declared.tree.Stmt.{out-Stmt}
use Rattle.ob_values.specs.Inspect.{print_body, quoted, is_plain_key, key_text, message_text}
use Rattle.ob_values.specs.PlainOf.{tree_elements, goes_down, plain_from}
use Rattle.ob_values.specs.TextMethods.{cut}
use Rattle.ob_actions.specs.Act.{◌>>=◌}
use Rattle.ob_sem.specs.Whole.{lift, carries}
use Rattle.ob_sem.proofs.RowParts.{fn, decl, catch, run_of, no_texts, shown, shown_logs}

-- 3 + 4
text_sum : Function
text_sum = fn None [] false (f.Value (e.Binary O.Add (e.Int (pos 3)) (e.Int (pos 4))))

row_sum : shown (run_of no_texts text_sum [] 0) ≡ (codes "7", 1)
unfolding ◌>>=◌ lift carries chars tree.hidden-the_row-Expr-0 tree.hidden-the_row-Expr-2 tree.hidden-the_row-PropNode-1 tree.hidden-the_row-Stmt-3 tree.hidden-the_row-Stmt-5 tree.hidden-the_row-Decl-4 denote.Hole.Carrier.hidden denote.Hole.Carrier.out out-Expr out-Stmt digits utf16 print_body quoted is_plain_key key_text message_text unit_text lib.Utf8.encode cut tree_elements goes_down plain_from text_sum
row_sum = refl

-- 9007199254740991 + 1
text_m : Function
text_m = fn None [] false (f.Value (e.Binary O.Add (e.Int (pos 9007199254740991)) (e.Int (pos 1))))

row_m : shown (run_of no_texts text_m [] 0) ≡ (codes "RangeError: number out of range", 2)
unfolding ◌>>=◌ lift carries chars tree.hidden-the_row-Expr-0 tree.hidden-the_row-Expr-2 tree.hidden-the_row-PropNode-1 tree.hidden-the_row-Stmt-3 tree.hidden-the_row-Stmt-5 tree.hidden-the_row-Decl-4 denote.Hole.Carrier.hidden denote.Hole.Carrier.out out-Expr out-Stmt digits utf16 print_body quoted is_plain_key key_text message_text unit_text lib.Utf8.encode cut tree_elements goes_down plain_from text_m
row_m = refl

-- 7 / 2
text_d : Function
text_d = fn None [] false (f.Value (e.Binary O.Div (e.Int (pos 7)) (e.Int (pos 2))))

row_d : shown (run_of no_texts text_d [] 0) ≡ (codes "RangeError: inexact quotient", 2)
unfolding ◌>>=◌ lift carries chars tree.hidden-the_row-Expr-0 tree.hidden-the_row-Expr-2 tree.hidden-the_row-PropNode-1 tree.hidden-the_row-Stmt-3 tree.hidden-the_row-Stmt-5 tree.hidden-the_row-Decl-4 denote.Hole.Carrier.hidden denote.Hole.Carrier.out out-Expr out-Stmt digits utf16 print_body quoted is_plain_key key_text message_text unit_text lib.Utf8.encode cut tree_elements goes_down plain_from text_d
row_d = refl

-- -7 % 3
text_wide : Function
text_wide = fn None [] false (f.Value (e.Binary O.Rem (e.Unary U.Minus (e.Int (pos 7))) (e.Int (pos 3))))

row_wide : shown (run_of no_texts text_wide [] 0) ≡ (codes "-1", 1)
unfolding ◌>>=◌ lift carries chars tree.hidden-the_row-Expr-0 tree.hidden-the_row-Expr-2 tree.hidden-the_row-PropNode-1 tree.hidden-the_row-Stmt-3 tree.hidden-the_row-Stmt-5 tree.hidden-the_row-Decl-4 denote.Hole.Carrier.hidden denote.Hole.Carrier.out out-Expr out-Stmt digits utf16 print_body quoted is_plain_key key_text message_text unit_text lib.Utf8.encode cut tree_elements goes_down plain_from text_wide
row_wide = refl

-- 1 << 31
text_shift : Function
text_shift = fn None [] false (f.Value (e.Binary O.Shl (e.Int (pos 1)) (e.Int (pos 31))))

row_shift : shown (run_of no_texts text_shift [] 0) ≡ (codes "-2147483648", 1)
unfolding ◌>>=◌ lift carries chars tree.hidden-the_row-Expr-0 tree.hidden-the_row-Expr-2 tree.hidden-the_row-PropNode-1 tree.hidden-the_row-Stmt-3 tree.hidden-the_row-Stmt-5 tree.hidden-the_row-Decl-4 denote.Hole.Carrier.hidden denote.Hole.Carrier.out out-Expr out-Stmt digits utf16 print_body quoted is_plain_key key_text message_text unit_text lib.Utf8.encode cut tree_elements goes_down plain_from text_shift
row_shift = refl

-- -1 >>> 0
text_unsigned : Function
text_unsigned = fn None [] false (f.Value (e.Binary O.ShrUnsigned (e.Unary U.Minus (e.Int (pos 1))) (e.Int (pos 0))))

row_unsigned : shown (run_of no_texts text_unsigned [] 0) ≡ (codes "4294967295", 1)
unfolding ◌>>=◌ lift carries chars tree.hidden-the_row-Expr-0 tree.hidden-the_row-Expr-2 tree.hidden-the_row-PropNode-1 tree.hidden-the_row-Stmt-3 tree.hidden-the_row-Stmt-5 tree.hidden-the_row-Decl-4 denote.Hole.Carrier.hidden denote.Hole.Carrier.out out-Expr out-Stmt digits utf16 print_body quoted is_plain_key key_text message_text unit_text lib.Utf8.encode cut tree_elements goes_down plain_from text_unsigned
row_unsigned = refl

-- 9007199254740991 | 0
text_or : Function
text_or = fn None [] false (f.Value (e.Binary O.BitOr (e.Int (pos 9007199254740991)) (e.Int (pos 0))))

row_or : shown (run_of no_texts text_or [] 0) ≡ (codes "-1", 1)
unfolding ◌>>=◌ lift carries chars tree.hidden-the_row-Expr-0 tree.hidden-the_row-Expr-2 tree.hidden-the_row-PropNode-1 tree.hidden-the_row-Stmt-3 tree.hidden-the_row-Stmt-5 tree.hidden-the_row-Decl-4 denote.Hole.Carrier.hidden denote.Hole.Carrier.out out-Expr out-Stmt digits utf16 print_body quoted is_plain_key key_text message_text unit_text lib.Utf8.encode cut tree_elements goes_down plain_from text_or
row_or = refl

-- "ab".padStart(5, "xy")
text_pad : Function
text_pad = fn None [] false (f.Value (e.Call (e.Member (e.Text (codes "ab")) (codes "padStart")) ((e.Int (pos 5)) ∷ (e.Text (codes "xy")) ∷ [])))

row_pad : shown (run_of no_texts text_pad [] 0) ≡ (codes "\"xyxab\"", 3)
unfolding ◌>>=◌ lift carries chars tree.hidden-the_row-Expr-0 tree.hidden-the_row-Expr-2 tree.hidden-the_row-PropNode-1 tree.hidden-the_row-Stmt-3 tree.hidden-the_row-Stmt-5 tree.hidden-the_row-Decl-4 denote.Hole.Carrier.hidden denote.Hole.Carrier.out out-Expr out-Stmt digits utf16 print_body quoted is_plain_key key_text message_text unit_text lib.Utf8.encode cut tree_elements goes_down plain_from text_pad
row_pad = refl

-- ["Oslo", 1].join("-")
text_joined : Function
text_joined = fn None [] false (f.Value (e.Call (e.Member (e.Array ((e.Text (codes "Oslo")) ∷ (e.Int (pos 1)) ∷ [])) (codes "join")) ((e.Text (codes "-")) ∷ [])))

row_joined : shown (run_of no_texts text_joined [] 0) ≡ (codes "\"Oslo-1\"", 8)
unfolding ◌>>=◌ lift carries chars tree.hidden-the_row-Expr-0 tree.hidden-the_row-Expr-2 tree.hidden-the_row-PropNode-1 tree.hidden-the_row-Stmt-3 tree.hidden-the_row-Stmt-5 tree.hidden-the_row-Decl-4 denote.Hole.Carrier.hidden denote.Hole.Carrier.out out-Expr out-Stmt digits utf16 print_body quoted is_plain_key key_text message_text unit_text lib.Utf8.encode cut tree_elements goes_down plain_from text_joined
row_joined = refl

-- { let a = null; a ??= 4; const b = a && 0 || 7; return {a, b, ["k" + 1]: typeof a}; }
text_short : Function
text_short = fn None [] false (f.Items (s.Let (decl (codes "a") (d.Value e.Null) ∷ []) ∷ s.Expr (e.Assign (A.Logic L.Nullish) (e.Name (codes "a")) (e.Int (pos 4))) ∷ s.Const (decl (codes "b") (d.Value (e.Logic L.Or (e.Logic L.And (e.Name (codes "a")) (e.Int (pos 0))) (e.Int (pos 7)))) ∷ []) ∷ s.Return (Some (e.Object (p.Short (codes "a") ∷ p.Short (codes "b") ∷ p.Computed (e.Binary O.Add (e.Text (codes "k")) (e.Int (pos 1))) (e.Unary U.Typeof (e.Name (codes "a"))) ∷ []))) ∷ []))

row_short : shown (run_of no_texts text_short [] 0) ≡ (codes "{a: 4, b: 7, k1: \"number\"}", 6)
unfolding ◌>>=◌ lift carries chars tree.hidden-the_row-Expr-0 tree.hidden-the_row-Expr-2 tree.hidden-the_row-PropNode-1 tree.hidden-the_row-Stmt-3 tree.hidden-the_row-Stmt-5 tree.hidden-the_row-Decl-4 denote.Hole.Carrier.hidden denote.Hole.Carrier.out out-Expr out-Stmt digits utf16 print_body quoted is_plain_key key_text message_text unit_text lib.Utf8.encode cut tree_elements goes_down plain_from text_short
row_short = refl

-- { const o = {n: 1}; o.n++; ++o["n"]; o.n **= 3; return [o.n--, o]; }
text_update : Function
text_update = fn None [] false (f.Items (s.Const (decl (codes "o") (d.Value (e.Object (p.Fixed (codes "n") (e.Int (pos 1)) ∷ []))) ∷ []) ∷ s.Expr (e.Update P.Up false (e.Member (e.Name (codes "o")) (codes "n"))) ∷ s.Expr (e.Update P.Up true (e.Index (e.Name (codes "o")) (e.Text (codes "n")))) ∷ s.Expr (e.Assign (A.Binary O.Pow) (e.Member (e.Name (codes "o")) (codes "n")) (e.Int (pos 3))) ∷ s.Return (Some (e.Array ((e.Update P.Down false (e.Member (e.Name (codes "o")) (codes "n"))) ∷ (e.Name (codes "o")) ∷ []))) ∷ []))

row_update : shown (run_of no_texts text_update [] 0) ≡ (codes "[27, {n: 26}]", 6)
unfolding ◌>>=◌ lift carries chars tree.hidden-the_row-Expr-0 tree.hidden-the_row-Expr-2 tree.hidden-the_row-PropNode-1 tree.hidden-the_row-Stmt-3 tree.hidden-the_row-Stmt-5 tree.hidden-the_row-Decl-4 denote.Hole.Carrier.hidden denote.Hole.Carrier.out out-Expr out-Stmt digits utf16 print_body quoted is_plain_key key_text message_text unit_text lib.Utf8.encode cut tree_elements goes_down plain_from text_update
row_update = refl

-- { let s = "a"; s++; }
text_update2 : Function
text_update2 = fn None [] false (f.Items (s.Let (decl (codes "s") (d.Value (e.Text (codes "a"))) ∷ []) ∷ s.Expr (e.Update P.Up false (e.Name (codes "s"))) ∷ []))

row_update2 : shown (run_of no_texts text_update2 [] 0) ≡ (codes "TypeError: wrong operand", 2)
unfolding ◌>>=◌ lift carries chars tree.hidden-the_row-Expr-0 tree.hidden-the_row-Expr-2 tree.hidden-the_row-PropNode-1 tree.hidden-the_row-Stmt-3 tree.hidden-the_row-Stmt-5 tree.hidden-the_row-Decl-4 denote.Hole.Carrier.hidden denote.Hole.Carrier.out out-Expr out-Stmt digits utf16 print_body quoted is_plain_key key_text message_text unit_text lib.Utf8.encode cut tree_elements goes_down plain_from text_update2
row_update2 = refl

-- ({b: 1, 1: 2, a: 3})
text_objects : Function
text_objects = fn None [] false (f.Value (e.Object (p.Fixed (codes "b") (e.Int (pos 1)) ∷ p.Fixed (codes "1") (e.Int (pos 2)) ∷ p.Fixed (codes "a") (e.Int (pos 3)) ∷ [])))

row_objects : shown (run_of no_texts text_objects [] 0) ≡ (codes "{1: 2, b: 1, a: 3}", 5)
unfolding ◌>>=◌ lift carries chars tree.hidden-the_row-Expr-0 tree.hidden-the_row-Expr-2 tree.hidden-the_row-PropNode-1 tree.hidden-the_row-Stmt-3 tree.hidden-the_row-Stmt-5 tree.hidden-the_row-Decl-4 denote.Hole.Carrier.hidden denote.Hole.Carrier.out out-Expr out-Stmt digits utf16 print_body quoted is_plain_key key_text message_text unit_text lib.Utf8.encode cut tree_elements goes_down plain_from text_objects
row_objects = refl

-- q = ({a: 1})
text_q : Function
text_q = fn None [] false (f.Value (e.Object (p.Fixed (codes "a") (e.Int (pos 1)) ∷ [])))

row_q : shown (run_of no_texts text_q [] 0) ≡ (codes "{a: 1}", 3)
unfolding ◌>>=◌ lift carries chars tree.hidden-the_row-Expr-0 tree.hidden-the_row-Expr-2 tree.hidden-the_row-PropNode-1 tree.hidden-the_row-Stmt-3 tree.hidden-the_row-Stmt-5 tree.hidden-the_row-Decl-4 denote.Hole.Carrier.hidden denote.Hole.Carrier.out out-Expr out-Stmt digits utf16 print_body quoted is_plain_key key_text message_text unit_text lib.Utf8.encode cut tree_elements goes_down plain_from text_q
row_q = refl

-- { const a = []; a.push(a); return a; }
text_itself : Function
text_itself = fn None [] false (f.Items (s.Const (decl (codes "a") (d.Value (e.Array [])) ∷ []) ∷ s.Expr (e.Call (e.Member (e.Name (codes "a")) (codes "push")) ((e.Name (codes "a")) ∷ [])) ∷ s.Return (Some (e.Name (codes "a"))) ∷ []))

row_itself : shown (run_of no_texts text_itself [] 0) ≡ (codes "[[[[[[[...]]]]]]]", 4)
unfolding ◌>>=◌ lift carries chars tree.hidden-the_row-Expr-0 tree.hidden-the_row-Expr-2 tree.hidden-the_row-PropNode-1 tree.hidden-the_row-Stmt-3 tree.hidden-the_row-Stmt-5 tree.hidden-the_row-Decl-4 denote.Hole.Carrier.hidden denote.Hole.Carrier.out out-Expr out-Stmt digits utf16 print_body quoted is_plain_key key_text message_text unit_text lib.Utf8.encode cut tree_elements goes_down plain_from text_itself
row_itself = refl

-- { const o = {}; const t = []; try { o[t.push(1)] = null.x; } catch (e) { t.push(e.message); } return [t, o]; }
text_order : Function
text_order = fn None [] false (f.Items (s.Const (decl (codes "o") (d.Value (e.Object [])) ∷ []) ∷ s.Const (decl (codes "t") (d.Value (e.Array [])) ∷ []) ∷ s.Try (s.Expr (e.Assign A.Set (e.Index (e.Name (codes "o")) (e.Call (e.Member (e.Name (codes "t")) (codes "push")) ((e.Int (pos 1)) ∷ []))) (e.Member e.Null (codes "x"))) ∷ []) (Some (catch (Some (codes "e")) (s.Expr (e.Call (e.Member (e.Name (codes "t")) (codes "push")) ((e.Member (e.Name (codes "e")) (codes "message")) ∷ [])) ∷ []))) None ∷ s.Return (Some (e.Array ((e.Name (codes "t")) ∷ (e.Name (codes "o")) ∷ []))) ∷ []))

row_order : shown (run_of no_texts text_order [] 0) ≡ (codes "[[1, \"no property of null or undefined\"], {}]", 11)
unfolding ◌>>=◌ lift carries chars tree.hidden-the_row-Expr-0 tree.hidden-the_row-Expr-2 tree.hidden-the_row-PropNode-1 tree.hidden-the_row-Stmt-3 tree.hidden-the_row-Stmt-5 tree.hidden-the_row-Decl-4 denote.Hole.Carrier.hidden denote.Hole.Carrier.out out-Expr out-Stmt digits utf16 print_body quoted is_plain_key key_text message_text unit_text lib.Utf8.encode cut tree_elements goes_down plain_from text_order
row_order = refl

-- ({[null]: 1})
text_badkey : Function
text_badkey = fn None [] false (f.Value (e.Object (p.Computed e.Null (e.Int (pos 1)) ∷ [])))

row_badkey : shown (run_of no_texts text_badkey [] 0) ≡ (codes "TypeError: bad key", 3)
unfolding ◌>>=◌ lift carries chars tree.hidden-the_row-Expr-0 tree.hidden-the_row-Expr-2 tree.hidden-the_row-PropNode-1 tree.hidden-the_row-Stmt-3 tree.hidden-the_row-Stmt-5 tree.hidden-the_row-Decl-4 denote.Hole.Carrier.hidden denote.Hole.Carrier.out out-Expr out-Stmt digits utf16 print_body quoted is_plain_key key_text message_text unit_text lib.Utf8.encode cut tree_elements goes_down plain_from text_badkey
row_badkey = refl

-- { const a = [1]; a[2] = 5; }
text_past : Function
text_past = fn None [] false (f.Items (s.Const (decl (codes "a") (d.Value (e.Array ((e.Int (pos 1)) ∷ []))) ∷ []) ∷ s.Expr (e.Assign A.Set (e.Index (e.Name (codes "a")) (e.Int (pos 2))) (e.Int (pos 5))) ∷ []))

row_past : shown (run_of no_texts text_past [] 0) ≡ (codes "RangeError: index past the end", 4)
unfolding ◌>>=◌ lift carries chars tree.hidden-the_row-Expr-0 tree.hidden-the_row-Expr-2 tree.hidden-the_row-PropNode-1 tree.hidden-the_row-Stmt-3 tree.hidden-the_row-Stmt-5 tree.hidden-the_row-Decl-4 denote.Hole.Carrier.hidden denote.Hole.Carrier.out out-Expr out-Stmt digits utf16 print_body quoted is_plain_key key_text message_text unit_text lib.Utf8.encode cut tree_elements goes_down plain_from text_past
row_past = refl

-- { const a = [1]; a[1] = 5; a["0"] = 2; return [a, a.length, a[7], "abc"[1], "abc".length]; }
text_append : Function
text_append = fn None [] false (f.Items (s.Const (decl (codes "a") (d.Value (e.Array ((e.Int (pos 1)) ∷ []))) ∷ []) ∷ s.Expr (e.Assign A.Set (e.Index (e.Name (codes "a")) (e.Int (pos 1))) (e.Int (pos 5))) ∷ s.Expr (e.Assign A.Set (e.Index (e.Name (codes "a")) (e.Text (codes "0"))) (e.Int (pos 2))) ∷ s.Return (Some (e.Array ((e.Name (codes "a")) ∷ (e.Member (e.Name (codes "a")) (codes "length")) ∷ (e.Index (e.Name (codes "a")) (e.Int (pos 7))) ∷ (e.Index (e.Text (codes "abc")) (e.Int (pos 1))) ∷ (e.Member (e.Text (codes "abc")) (codes "length")) ∷ []))) ∷ []))

row_append : shown (run_of no_texts text_append [] 0) ≡ (codes "[[2, 5], 2, undefined, \"b\", 3]", 11)
unfolding ◌>>=◌ lift carries chars tree.hidden-the_row-Expr-0 tree.hidden-the_row-Expr-2 tree.hidden-the_row-PropNode-1 tree.hidden-the_row-Stmt-3 tree.hidden-the_row-Stmt-5 tree.hidden-the_row-Decl-4 denote.Hole.Carrier.hidden denote.Hole.Carrier.out out-Expr out-Stmt digits utf16 print_body quoted is_plain_key key_text message_text unit_text lib.Utf8.encode cut tree_elements goes_down plain_from text_append
row_append = refl

-- { const f = () => 1; return [f.x, typeof f, typeof Math, Math.max(1, 5), Math.nope]; }
text_fnprop : Function
text_fnprop = fn None [] false (f.Items (s.Const (decl (codes "f") (d.Value (e.Arrow (fn None [] false (f.Value (e.Int (pos 1)))))) ∷ []) ∷ s.Return (Some (e.Array ((e.Member (e.Name (codes "f")) (codes "x")) ∷ (e.Unary U.Typeof (e.Name (codes "f"))) ∷ (e.Unary U.Typeof (e.Name (codes "Math"))) ∷ (e.Call (e.Member (e.Name (codes "Math")) (codes "max")) ((e.Int (pos 1)) ∷ (e.Int (pos 5)) ∷ [])) ∷ (e.Member (e.Name (codes "Math")) (codes "nope")) ∷ []))) ∷ []))

row_fnprop : shown (run_of no_texts text_fnprop (V.Builtin 0 ∷ []) 0) ≡ (codes "[undefined, \"function\", \"object\", 5, undefined]", 9)
unfolding ◌>>=◌ lift carries chars tree.hidden-the_row-Expr-0 tree.hidden-the_row-Expr-2 tree.hidden-the_row-PropNode-1 tree.hidden-the_row-Stmt-3 tree.hidden-the_row-Stmt-5 tree.hidden-the_row-Decl-4 denote.Hole.Carrier.hidden denote.Hole.Carrier.out out-Expr out-Stmt digits utf16 print_body quoted is_plain_key key_text message_text unit_text lib.Utf8.encode cut tree_elements goes_down plain_from text_fnprop
row_fnprop = refl

-- { const a = []; a["push"](1); }
text_notfn : Function
text_notfn = fn None [] false (f.Items (s.Const (decl (codes "a") (d.Value (e.Array [])) ∷ []) ∷ s.Expr (e.Call (e.Index (e.Name (codes "a")) (e.Text (codes "push"))) ((e.Int (pos 1)) ∷ [])) ∷ []))

row_notfn : shown (run_of no_texts text_notfn [] 0) ≡ (codes "TypeError: not a function", 3)
unfolding ◌>>=◌ lift carries chars tree.hidden-the_row-Expr-0 tree.hidden-the_row-Expr-2 tree.hidden-the_row-PropNode-1 tree.hidden-the_row-Stmt-3 tree.hidden-the_row-Stmt-5 tree.hidden-the_row-Decl-4 denote.Hole.Carrier.hidden denote.Hole.Carrier.out out-Expr out-Stmt digits utf16 print_body quoted is_plain_key key_text message_text unit_text lib.Utf8.encode cut tree_elements goes_down plain_from text_notfn
row_notfn = refl

-- { try { null.x; } catch (e) { return e.name + e.message; } }
text_error : Function
text_error = fn None [] false (f.Items (s.Try (s.Expr (e.Member e.Null (codes "x")) ∷ []) (Some (catch (Some (codes "e")) (s.Return (Some (e.Binary O.Add (e.Member (e.Name (codes "e")) (codes "name")) (e.Member (e.Name (codes "e")) (codes "message")))) ∷ []))) None ∷ []))

row_error : shown (run_of no_texts text_error [] 0) ≡ (codes "\"TypeErrorno property of null or undefined\"", 5)
unfolding ◌>>=◌ lift carries chars tree.hidden-the_row-Expr-0 tree.hidden-the_row-Expr-2 tree.hidden-the_row-PropNode-1 tree.hidden-the_row-Stmt-3 tree.hidden-the_row-Stmt-5 tree.hidden-the_row-Decl-4 denote.Hole.Carrier.hidden denote.Hole.Carrier.out out-Expr out-Stmt digits utf16 print_body quoted is_plain_key key_text message_text unit_text lib.Utf8.encode cut tree_elements goes_down plain_from text_error
row_error = refl

-- Object.entries({b: 1, a: [2]})
text_entries : Function
text_entries = fn None [] false (f.Value (e.Call (e.Member (e.Name (codes "Object")) (codes "entries")) ((e.Object (p.Fixed (codes "b") (e.Int (pos 1)) ∷ p.Fixed (codes "a") (e.Array ((e.Int (pos 2)) ∷ [])) ∷ [])) ∷ [])))

row_entries : shown (run_of no_texts text_entries (V.Builtin 1 ∷ []) 0) ≡ (codes "[[\"b\", 1], [\"a\", [2]]]", 16)
unfolding ◌>>=◌ lift carries chars tree.hidden-the_row-Expr-0 tree.hidden-the_row-Expr-2 tree.hidden-the_row-PropNode-1 tree.hidden-the_row-Stmt-3 tree.hidden-the_row-Stmt-5 tree.hidden-the_row-Decl-4 denote.Hole.Carrier.hidden denote.Hole.Carrier.out out-Expr out-Stmt digits utf16 print_body quoted is_plain_key key_text message_text unit_text lib.Utf8.encode cut tree_elements goes_down plain_from text_entries
row_entries = refl

-- { null.a += 1; }
text_nullread : Function
text_nullread = fn None [] false (f.Items (s.Expr (e.Assign (A.Binary O.Add) (e.Member e.Null (codes "a")) (e.Int (pos 1))) ∷ []))

row_nullread : shown (run_of no_texts text_nullread [] 0) ≡ (codes "TypeError: no property of null or undefined", 2)
unfolding ◌>>=◌ lift carries chars tree.hidden-the_row-Expr-0 tree.hidden-the_row-Expr-2 tree.hidden-the_row-PropNode-1 tree.hidden-the_row-Stmt-3 tree.hidden-the_row-Stmt-5 tree.hidden-the_row-Decl-4 denote.Hole.Carrier.hidden denote.Hole.Carrier.out out-Expr out-Stmt digits utf16 print_body quoted is_plain_key key_text message_text unit_text lib.Utf8.encode cut tree_elements goes_down plain_from text_nullread
row_nullread = refl

-- { null.a = 1; }
text_nullwrite : Function
text_nullwrite = fn None [] false (f.Items (s.Expr (e.Assign A.Set (e.Member e.Null (codes "a")) (e.Int (pos 1))) ∷ []))

row_nullwrite : shown (run_of no_texts text_nullwrite [] 0) ≡ (codes "TypeError: cannot set", 2)
unfolding ◌>>=◌ lift carries chars tree.hidden-the_row-Expr-0 tree.hidden-the_row-Expr-2 tree.hidden-the_row-PropNode-1 tree.hidden-the_row-Stmt-3 tree.hidden-the_row-Stmt-5 tree.hidden-the_row-Decl-4 denote.Hole.Carrier.hidden denote.Hole.Carrier.out out-Expr out-Stmt digits utf16 print_body quoted is_plain_key key_text message_text unit_text lib.Utf8.encode cut tree_elements goes_down plain_from text_nullwrite
row_nullwrite = refl

-- { let x = 1; x += (x = 5); return x; }
text_reads_first : Function
text_reads_first = fn None [] false (f.Items (s.Let (decl (codes "x") (d.Value (e.Int (pos 1))) ∷ []) ∷ s.Expr (e.Assign (A.Binary O.Add) (e.Name (codes "x")) (e.Assign A.Set (e.Name (codes "x")) (e.Int (pos 5)))) ∷ s.Return (Some (e.Name (codes "x"))) ∷ []))

row_reads_first : shown (run_of no_texts text_reads_first [] 0) ≡ (codes "6", 1)
unfolding ◌>>=◌ lift carries chars tree.hidden-the_row-Expr-0 tree.hidden-the_row-Expr-2 tree.hidden-the_row-PropNode-1 tree.hidden-the_row-Stmt-3 tree.hidden-the_row-Stmt-5 tree.hidden-the_row-Decl-4 denote.Hole.Carrier.hidden denote.Hole.Carrier.out out-Expr out-Stmt digits utf16 print_body quoted is_plain_key key_text message_text unit_text lib.Utf8.encode cut tree_elements goes_down plain_from text_reads_first
row_reads_first = refl

-- { let a = 0; let b = 1; a &&= b.c.d; b ||= a.b.c; return [a, b]; }
text_logical : Function
text_logical = fn None [] false (f.Items (s.Let (decl (codes "a") (d.Value (e.Int (pos 0))) ∷ []) ∷ s.Let (decl (codes "b") (d.Value (e.Int (pos 1))) ∷ []) ∷ s.Expr (e.Assign (A.Logic L.And) (e.Name (codes "a")) (e.Member (e.Member (e.Name (codes "b")) (codes "c")) (codes "d"))) ∷ s.Expr (e.Assign (A.Logic L.Or) (e.Name (codes "b")) (e.Member (e.Member (e.Name (codes "a")) (codes "b")) (codes "c"))) ∷ s.Return (Some (e.Array ((e.Name (codes "a")) ∷ (e.Name (codes "b")) ∷ []))) ∷ []))

row_logical : shown (run_of no_texts text_logical [] 0) ≡ (codes "[0, 1]", 4)
unfolding ◌>>=◌ lift carries chars tree.hidden-the_row-Expr-0 tree.hidden-the_row-Expr-2 tree.hidden-the_row-PropNode-1 tree.hidden-the_row-Stmt-3 tree.hidden-the_row-Stmt-5 tree.hidden-the_row-Decl-4 denote.Hole.Carrier.hidden denote.Hole.Carrier.out out-Expr out-Stmt digits utf16 print_body quoted is_plain_key key_text message_text unit_text lib.Utf8.encode cut tree_elements goes_down plain_from text_logical
row_logical = refl

-- [typeof null, typeof undefined, typeof 1, typeof "", typeof true, typeof (() => 1), typeof []]
text_kinds : Function
text_kinds = fn None [] false (f.Value (e.Array ((e.Unary U.Typeof e.Null) ∷ (e.Unary U.Typeof e.Undefined) ∷ (e.Unary U.Typeof (e.Int (pos 1))) ∷ (e.Unary U.Typeof (e.Text (codes ""))) ∷ (e.Unary U.Typeof (e.Bool true)) ∷ (e.Unary U.Typeof (e.Arrow (fn None [] false (f.Value (e.Int (pos 1)))))) ∷ (e.Unary U.Typeof (e.Array [])) ∷ [])))

row_kinds : shown (run_of no_texts text_kinds [] 0) ≡ (codes "[\"object\", \"undefined\", \"number\", \"string\", \"boolean\", \"function\", \"object\"]", 11)
unfolding ◌>>=◌ lift carries chars tree.hidden-the_row-Expr-0 tree.hidden-the_row-Expr-2 tree.hidden-the_row-PropNode-1 tree.hidden-the_row-Stmt-3 tree.hidden-the_row-Stmt-5 tree.hidden-the_row-Decl-4 denote.Hole.Carrier.hidden denote.Hole.Carrier.out out-Expr out-Stmt digits utf16 print_body quoted is_plain_key key_text message_text unit_text lib.Utf8.encode cut tree_elements goes_down plain_from text_kinds
row_kinds = refl

-- ({a: 1, b: 2, a: 3})
text_again : Function
text_again = fn None [] false (f.Value (e.Object (p.Fixed (codes "a") (e.Int (pos 1)) ∷ p.Fixed (codes "b") (e.Int (pos 2)) ∷ p.Fixed (codes "a") (e.Int (pos 3)) ∷ [])))

row_again : shown (run_of no_texts text_again [] 0) ≡ (codes "{a: 3, b: 2}", 4)
unfolding ◌>>=◌ lift carries chars tree.hidden-the_row-Expr-0 tree.hidden-the_row-Expr-2 tree.hidden-the_row-PropNode-1 tree.hidden-the_row-Stmt-3 tree.hidden-the_row-Stmt-5 tree.hidden-the_row-Decl-4 denote.Hole.Carrier.hidden denote.Hole.Carrier.out out-Expr out-Stmt digits utf16 print_body quoted is_plain_key key_text message_text unit_text lib.Utf8.encode cut tree_elements goes_down plain_from text_again
row_again = refl

-- "abc"[1]
text_unit : Function
text_unit = fn None [] false (f.Value (e.Index (e.Text (codes "abc")) (e.Int (pos 1))))

row_unit : shown (run_of no_texts text_unit [] 0) ≡ (codes "\"b\"", 2)
unfolding ◌>>=◌ lift carries chars tree.hidden-the_row-Expr-0 tree.hidden-the_row-Expr-2 tree.hidden-the_row-PropNode-1 tree.hidden-the_row-Stmt-3 tree.hidden-the_row-Stmt-5 tree.hidden-the_row-Decl-4 denote.Hole.Carrier.hidden denote.Hole.Carrier.out out-Expr out-Stmt digits utf16 print_body quoted is_plain_key key_text message_text unit_text lib.Utf8.encode cut tree_elements goes_down plain_from text_unit
row_unit = refl

-- "ab" + ""
text_sum_of_texts : Function
text_sum_of_texts = fn None [] false (f.Value (e.Binary O.Add (e.Text (codes "ab")) (e.Text (codes ""))))

row_sum_of_texts : shown (run_of no_texts text_sum_of_texts [] 0) ≡ (codes "\"ab\"", 2)
unfolding ◌>>=◌ lift carries chars tree.hidden-the_row-Expr-0 tree.hidden-the_row-Expr-2 tree.hidden-the_row-PropNode-1 tree.hidden-the_row-Stmt-3 tree.hidden-the_row-Stmt-5 tree.hidden-the_row-Decl-4 denote.Hole.Carrier.hidden denote.Hole.Carrier.out out-Expr out-Stmt digits utf16 print_body quoted is_plain_key key_text message_text unit_text lib.Utf8.encode cut tree_elements goes_down plain_from text_sum_of_texts
row_sum_of_texts = refl

-- { const n = 5; return [n.x, n[0]]; }
text_numberkey : Function
text_numberkey = fn None [] false (f.Items (s.Const (decl (codes "n") (d.Value (e.Int (pos 5))) ∷ []) ∷ s.Return (Some (e.Array ((e.Member (e.Name (codes "n")) (codes "x")) ∷ (e.Index (e.Name (codes "n")) (e.Int (pos 0))) ∷ []))) ∷ []))

row_numberkey : shown (run_of no_texts text_numberkey [] 0) ≡ (codes "[undefined, undefined]", 4)
unfolding ◌>>=◌ lift carries chars tree.hidden-the_row-Expr-0 tree.hidden-the_row-Expr-2 tree.hidden-the_row-PropNode-1 tree.hidden-the_row-Stmt-3 tree.hidden-the_row-Stmt-5 tree.hidden-the_row-Decl-4 denote.Hole.Carrier.hidden denote.Hole.Carrier.out out-Expr out-Stmt digits utf16 print_body quoted is_plain_key key_text message_text unit_text lib.Utf8.encode cut tree_elements goes_down plain_from text_numberkey
row_numberkey = refl

-- { const a = [1]; a.x = 2; }
text_otherkey : Function
text_otherkey = fn None [] false (f.Items (s.Const (decl (codes "a") (d.Value (e.Array ((e.Int (pos 1)) ∷ []))) ∷ []) ∷ s.Expr (e.Assign A.Set (e.Member (e.Name (codes "a")) (codes "x")) (e.Int (pos 2))) ∷ []))

row_otherkey : shown (run_of no_texts text_otherkey [] 0) ≡ (codes "TypeError: cannot set", 4)
unfolding ◌>>=◌ lift carries chars tree.hidden-the_row-Expr-0 tree.hidden-the_row-Expr-2 tree.hidden-the_row-PropNode-1 tree.hidden-the_row-Stmt-3 tree.hidden-the_row-Stmt-5 tree.hidden-the_row-Decl-4 denote.Hole.Carrier.hidden denote.Hole.Carrier.out out-Expr out-Stmt digits utf16 print_body quoted is_plain_key key_text message_text unit_text lib.Utf8.encode cut tree_elements goes_down plain_from text_otherkey
row_otherkey = refl

-- 5(log("a"))
text_fntest : Function
text_fntest = fn None [] false (f.Value (e.Call (e.Int (pos 5)) ((e.Call (e.Name (codes "log")) ((e.Text (codes "a")) ∷ [])) ∷ [])))

-- the arguments come before the test that it is a function
row_fntest : shown (run_of no_texts text_fntest (V.Builtin 7 ∷ []) 0) ≡ (codes "TypeError: not a function", 4)
unfolding ◌>>=◌ lift carries chars tree.hidden-the_row-Expr-0 tree.hidden-the_row-Expr-2 tree.hidden-the_row-PropNode-1 tree.hidden-the_row-Stmt-3 tree.hidden-the_row-Stmt-5 tree.hidden-the_row-Decl-4 denote.Hole.Carrier.hidden denote.Hole.Carrier.out out-Expr out-Stmt digits utf16 print_body quoted is_plain_key key_text message_text unit_text lib.Utf8.encode cut tree_elements goes_down plain_from text_fntest
row_fntest = refl

row_fntest_log : shown_logs (run_of no_texts text_fntest (V.Builtin 7 ∷ []) 0) ≡ codes "\"a\"" ∷ []
unfolding ◌>>=◌ lift carries chars tree.hidden-the_row-Expr-0 tree.hidden-the_row-Expr-2 tree.hidden-the_row-PropNode-1 tree.hidden-the_row-Stmt-3 tree.hidden-the_row-Stmt-5 tree.hidden-the_row-Decl-4 denote.Hole.Carrier.hidden denote.Hole.Carrier.out out-Expr out-Stmt digits utf16 print_body quoted is_plain_key key_text message_text unit_text lib.Utf8.encode cut tree_elements goes_down plain_from text_fntest
row_fntest_log = refl

-- { new Math(log(1)); }
text_newtest : Function
text_newtest = fn None [] false (f.Items (s.Expr (e.New (codes "Math") ((e.Call (e.Name (codes "log")) ((e.Int (pos 1)) ∷ [])) ∷ [])) ∷ []))

row_newtest : shown (run_of no_texts text_newtest (V.Builtin 0 ∷ V.Builtin 7 ∷ []) 0) ≡ (codes "TypeError: not a constructor", 4)
unfolding ◌>>=◌ lift carries chars tree.hidden-the_row-Expr-0 tree.hidden-the_row-Expr-2 tree.hidden-the_row-PropNode-1 tree.hidden-the_row-Stmt-3 tree.hidden-the_row-Stmt-5 tree.hidden-the_row-Decl-4 denote.Hole.Carrier.hidden denote.Hole.Carrier.out out-Expr out-Stmt digits utf16 print_body quoted is_plain_key key_text message_text unit_text lib.Utf8.encode cut tree_elements goes_down plain_from text_newtest
row_newtest = refl

row_newtest_log : shown_logs (run_of no_texts text_newtest (V.Builtin 0 ∷ V.Builtin 7 ∷ []) 0) ≡ codes "1" ∷ []
unfolding ◌>>=◌ lift carries chars tree.hidden-the_row-Expr-0 tree.hidden-the_row-Expr-2 tree.hidden-the_row-PropNode-1 tree.hidden-the_row-Stmt-3 tree.hidden-the_row-Stmt-5 tree.hidden-the_row-Decl-4 denote.Hole.Carrier.hidden denote.Hole.Carrier.out out-Expr out-Stmt digits utf16 print_body quoted is_plain_key key_text message_text unit_text lib.Utf8.encode cut tree_elements goes_down plain_from text_newtest
row_newtest_log = refl
