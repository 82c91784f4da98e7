-- Worked rows: the functions that are written in the language itself. Each has its outcome as a report shows it, and mostly its steps.
use Rattle.std.proofs.Common.{◌≡◌, refl}
use Rattle.std.specs.Fmt.{digits}
use Rattle.std.specs.Prelude.{pos, false, [], ◌∷◌, Some, None, codes}
use Rattle.std.specs.Str.{chars}
use Rattle.ob_base.specs.Escapes.{unit_text}
use Rattle.ob_base.specs.Utf16.{utf16}
use Rattle.ob_base.specs.declared.operators.AssignOp.TheVariants as A
use Rattle.ob_base.specs.declared.operators.BinaryOp.TheVariants as O
use Rattle.ob_base.specs.declared.operators.CompareOp.TheVariants as C
use Rattle.ob_items.specs.declared.value.Value.TheVariants as V
use Rattle.ob_tree_types.specs.declared.tree.DeclValue.TheBlock as tree
use Rattle.ob_tree_types.specs.declared.tree.DeclValue.TheVariants as d
use Rattle.ob_tree_types.specs.declared.tree.Expr.TheVariants as e
use Rattle.ob_tree_types.specs.declared.tree.Expr.{out-Expr}
use Rattle.ob_tree_types.specs.declared.tree.FnBody.TheVariants as f
use Rattle.ob_tree_types.specs.declared.tree.Function.{Function}
use Rattle.ob_tree_types.specs.declared.tree.Stmt.TheVariants as s
use Rattle.ob_tree_types.specs.declared.tree.Stmt.{out-Stmt}
use Rattle.ob_values.specs.Inspect.{print_body, quoted, is_plain_key, key_text, message_text}
use Rattle.ob_values.specs.PlainOf.{tree_elements, goes_down, plain_from}
use Rattle.ob_values.specs.TextMethods.{cut}
use Rattle.ob_actions.specs.Act.{◌>>=◌}
use Rattle.ob_sem.specs.Setting.{prelude_texts}
use Rattle.ob_sem.specs.Whole.{lift, carries}
use Rattle.ob_tree_prelude.specs.Parts.{member, element, call, call_with, declared, const_stmt, let_stmt, assign_stmt, count_stmt, empty_stmt, push_stmt, if_stmt, from_zero, below_count, for_stmt, function_tree}
use Rattle.ob_tree_prelude.specs.Trees.{map_items, map_tree, filter_turn, filter_items, filter_tree, for_each_items, for_each_tree, search_items, some_tree, every_tree, message, refuse_stmt, is_empty, first_element, start_items, start_stmt, reduce_turn, reduce_items, reduce_tree, has_no_function, mapped_element, taken_element, from_items, from_tree}
use Rattle.ob_sem.proofs.RowParts.{fn, decl, run_of, shown}

-- [3, 4].map(d => d + 1)
text_map : Function
text_map = fn None [] false (f.Value (e.Call (e.Member (e.Array ((e.Int (pos 3)) ∷ (e.Int (pos 4)) ∷ [])) (codes "map")) ((e.Arrow (fn None ((codes "d") ∷ []) false (f.Value (e.Binary O.Add (e.Name (codes "d")) (e.Int (pos 1)))))) ∷ [])))

row_map : shown (run_of prelude_texts text_map [] 0) ≡ (codes "[4, 5]", 15)
unfolding ◌>>=◌ lift carries chars tree.hidden-the_row-Expr-0 tree.hidden-the_row-Expr-2 tree.hidden-the_row-PropNode-1 tree.hidden-the_row-Stmt-3 tree.hidden-the_row-Stmt-5 tree.hidden-the_row-Decl-4 denote.Hole.Carrier.hidden denote.Hole.Carrier.out out-Expr out-Stmt digits utf16 print_body quoted is_plain_key key_text message_text unit_text lib.Utf8.encode cut tree_elements goes_down plain_from member element call call_with declared const_stmt let_stmt assign_stmt count_stmt empty_stmt push_stmt if_stmt from_zero below_count for_stmt function_tree map_items map_tree filter_turn filter_items filter_tree for_each_items for_each_tree search_items some_tree every_tree message refuse_stmt is_empty first_element start_items start_stmt reduce_turn reduce_items reduce_tree has_no_function mapped_element taken_element from_items from_tree text_map
row_map = refl

-- [1, 2, 3].reduce((s, d) => s + d, 0)
text_reduce : Function
text_reduce = fn None [] false (f.Value (e.Call (e.Member (e.Array ((e.Int (pos 1)) ∷ (e.Int (pos 2)) ∷ (e.Int (pos 3)) ∷ [])) (codes "reduce")) ((e.Arrow (fn None ((codes "s") ∷ (codes "d") ∷ []) false (f.Value (e.Binary O.Add (e.Name (codes "s")) (e.Name (codes "d")))))) ∷ (e.Int (pos 0)) ∷ [])))

row_reduce : shown (run_of prelude_texts text_reduce [] 0) ≡ (codes "6", 13)
unfolding ◌>>=◌ lift carries chars tree.hidden-the_row-Expr-0 tree.hidden-the_row-Expr-2 tree.hidden-the_row-PropNode-1 tree.hidden-the_row-Stmt-3 tree.hidden-the_row-Stmt-5 tree.hidden-the_row-Decl-4 denote.Hole.Carrier.hidden denote.Hole.Carrier.out out-Expr out-Stmt digits utf16 print_body quoted is_plain_key key_text message_text unit_text lib.Utf8.encode cut tree_elements goes_down plain_from member element call call_with declared const_stmt let_stmt assign_stmt count_stmt empty_stmt push_stmt if_stmt from_zero below_count for_stmt function_tree map_items map_tree filter_turn filter_items filter_tree for_each_items for_each_tree search_items some_tree every_tree message refuse_stmt is_empty first_element start_items start_stmt reduce_turn reduce_items reduce_tree has_no_function mapped_element taken_element from_items from_tree text_reduce
row_reduce = refl

-- [].reduce((s, d) => s + d)
text_empty : Function
text_empty = fn None [] false (f.Value (e.Call (e.Member (e.Array []) (codes "reduce")) ((e.Arrow (fn None ((codes "s") ∷ (codes "d") ∷ []) false (f.Value (e.Binary O.Add (e.Name (codes "s")) (e.Name (codes "d")))))) ∷ [])))

row_empty : shown (run_of prelude_texts text_empty [] 0) ≡ (codes "TypeError: bad argument", 6)
unfolding ◌>>=◌ lift carries chars tree.hidden-the_row-Expr-0 tree.hidden-the_row-Expr-2 tree.hidden-the_row-PropNode-1 tree.hidden-the_row-Stmt-3 tree.hidden-the_row-Stmt-5 tree.hidden-the_row-Decl-4 denote.Hole.Carrier.hidden denote.Hole.Carrier.out out-Expr out-Stmt digits utf16 print_body quoted is_plain_key key_text message_text unit_text lib.Utf8.encode cut tree_elements goes_down plain_from member element call call_with declared const_stmt let_stmt assign_stmt count_stmt empty_stmt push_stmt if_stmt from_zero below_count for_stmt function_tree map_items map_tree filter_turn filter_items filter_tree for_each_items for_each_tree search_items some_tree every_tree message refuse_stmt is_empty first_element start_items start_stmt reduce_turn reduce_items reduce_tree has_no_function mapped_element taken_element from_items from_tree text_empty
row_empty = refl

-- [1, 2].filter(d => d > 1)
text_filter : Function
text_filter = fn None [] false (f.Value (e.Call (e.Member (e.Array ((e.Int (pos 1)) ∷ (e.Int (pos 2)) ∷ [])) (codes "filter")) ((e.Arrow (fn None ((codes "d") ∷ []) false (f.Value (e.Compare C.Greater (e.Name (codes "d")) (e.Int (pos 1)))))) ∷ [])))

row_filter : shown (run_of prelude_texts text_filter [] 0) ≡ (codes "[2]", 13)
unfolding ◌>>=◌ lift carries chars tree.hidden-the_row-Expr-0 tree.hidden-the_row-Expr-2 tree.hidden-the_row-PropNode-1 tree.hidden-the_row-Stmt-3 tree.hidden-the_row-Stmt-5 tree.hidden-the_row-Decl-4 denote.Hole.Carrier.hidden denote.Hole.Carrier.out out-Expr out-Stmt digits utf16 print_body quoted is_plain_key key_text message_text unit_text lib.Utf8.encode cut tree_elements goes_down plain_from member element call call_with declared const_stmt let_stmt assign_stmt count_stmt empty_stmt push_stmt if_stmt from_zero below_count for_stmt function_tree map_items map_tree filter_turn filter_items filter_tree for_each_items for_each_tree search_items some_tree every_tree message refuse_stmt is_empty first_element start_items start_stmt reduce_turn reduce_items reduce_tree has_no_function mapped_element taken_element from_items from_tree text_filter
row_filter = refl

-- Array.from("ab")
text_from : Function
text_from = fn None [] false (f.Value (e.Call (e.Member (e.Name (codes "Array")) (codes "from")) ((e.Text (codes "ab")) ∷ [])))

row_from : shown (run_of prelude_texts text_from (V.Builtin 2 ∷ []) 0) ≡ (codes "[\"a\", \"b\"]", 11)
unfolding ◌>>=◌ lift carries chars tree.hidden-the_row-Expr-0 tree.hidden-the_row-Expr-2 tree.hidden-the_row-PropNode-1 tree.hidden-the_row-Stmt-3 tree.hidden-the_row-Stmt-5 tree.hidden-the_row-Decl-4 denote.Hole.Carrier.hidden denote.Hole.Carrier.out out-Expr out-Stmt digits utf16 print_body quoted is_plain_key key_text message_text unit_text lib.Utf8.encode cut tree_elements goes_down plain_from member element call call_with declared const_stmt let_stmt assign_stmt count_stmt empty_stmt push_stmt if_stmt from_zero below_count for_stmt function_tree map_items map_tree filter_turn filter_items filter_tree for_each_items for_each_tree search_items some_tree every_tree message refuse_stmt is_empty first_element start_items start_stmt reduce_turn reduce_items reduce_tree has_no_function mapped_element taken_element from_items from_tree text_from
row_from = refl

-- [].map(5)
text_nothing : Function
text_nothing = fn None [] false (f.Value (e.Call (e.Member (e.Array []) (codes "map")) ((e.Int (pos 5)) ∷ [])))

row_nothing : shown (run_of prelude_texts text_nothing [] 0) ≡ (codes "[]", 4)
unfolding ◌>>=◌ lift carries chars tree.hidden-the_row-Expr-0 tree.hidden-the_row-Expr-2 tree.hidden-the_row-PropNode-1 tree.hidden-the_row-Stmt-3 tree.hidden-the_row-Stmt-5 tree.hidden-the_row-Decl-4 denote.Hole.Carrier.hidden denote.Hole.Carrier.out out-Expr out-Stmt digits utf16 print_body quoted is_plain_key key_text message_text unit_text lib.Utf8.encode cut tree_elements goes_down plain_from member element call call_with declared const_stmt let_stmt assign_stmt count_stmt empty_stmt push_stmt if_stmt from_zero below_count for_stmt function_tree map_items map_tree filter_turn filter_items filter_tree for_each_items for_each_tree search_items some_tree every_tree message refuse_stmt is_empty first_element start_items start_stmt reduce_turn reduce_items reduce_tree has_no_function mapped_element taken_element from_items from_tree text_nothing
row_nothing = refl

-- [1].map(5)
text_fives : Function
text_fives = fn None [] false (f.Value (e.Call (e.Member (e.Array ((e.Int (pos 1)) ∷ [])) (codes "map")) ((e.Int (pos 5)) ∷ [])))

row_fives : (shown (run_of prelude_texts text_fives [] 0)).0 ≡ codes "TypeError: not a function"
unfolding ◌>>=◌ lift carries chars tree.hidden-the_row-Expr-0 tree.hidden-the_row-Expr-2 tree.hidden-the_row-PropNode-1 tree.hidden-the_row-Stmt-3 tree.hidden-the_row-Stmt-5 tree.hidden-the_row-Decl-4 denote.Hole.Carrier.hidden denote.Hole.Carrier.out out-Expr out-Stmt digits utf16 print_body quoted is_plain_key key_text message_text unit_text lib.Utf8.encode cut tree_elements goes_down plain_from member element call call_with declared const_stmt let_stmt assign_stmt count_stmt empty_stmt push_stmt if_stmt from_zero below_count for_stmt function_tree map_items map_tree filter_turn filter_items filter_tree for_each_items for_each_tree search_items some_tree every_tree message refuse_stmt is_empty first_element start_items start_stmt reduce_turn reduce_items reduce_tree has_no_function mapped_element taken_element from_items from_tree text_fives
row_fives = refl

-- [1, 2, 3].some(d => d > 1)
text_some : Function
text_some = fn None [] false (f.Value (e.Call (e.Member (e.Array ((e.Int (pos 1)) ∷ (e.Int (pos 2)) ∷ (e.Int (pos 3)) ∷ [])) (codes "some")) ((e.Arrow (fn None ((codes "d") ∷ []) false (f.Value (e.Compare C.Greater (e.Name (codes "d")) (e.Int (pos 1)))))) ∷ [])))

row_some : (shown (run_of prelude_texts text_some [] 0)).0 ≡ codes "true"
unfolding ◌>>=◌ lift carries chars tree.hidden-the_row-Expr-0 tree.hidden-the_row-Expr-2 tree.hidden-the_row-PropNode-1 tree.hidden-the_row-Stmt-3 tree.hidden-the_row-Stmt-5 tree.hidden-the_row-Decl-4 denote.Hole.Carrier.hidden denote.Hole.Carrier.out out-Expr out-Stmt digits utf16 print_body quoted is_plain_key key_text message_text unit_text lib.Utf8.encode cut tree_elements goes_down plain_from member element call call_with declared const_stmt let_stmt assign_stmt count_stmt empty_stmt push_stmt if_stmt from_zero below_count for_stmt function_tree map_items map_tree filter_turn filter_items filter_tree for_each_items for_each_tree search_items some_tree every_tree message refuse_stmt is_empty first_element start_items start_stmt reduce_turn reduce_items reduce_tree has_no_function mapped_element taken_element from_items from_tree text_some
row_some = refl

-- [1, 2, 3].every(d => d > 1)
text_every : Function
text_every = fn None [] false (f.Value (e.Call (e.Member (e.Array ((e.Int (pos 1)) ∷ (e.Int (pos 2)) ∷ (e.Int (pos 3)) ∷ [])) (codes "every")) ((e.Arrow (fn None ((codes "d") ∷ []) false (f.Value (e.Compare C.Greater (e.Name (codes "d")) (e.Int (pos 1)))))) ∷ [])))

row_every : (shown (run_of prelude_texts text_every [] 0)).0 ≡ codes "false"
unfolding ◌>>=◌ lift carries chars tree.hidden-the_row-Expr-0 tree.hidden-the_row-Expr-2 tree.hidden-the_row-PropNode-1 tree.hidden-the_row-Stmt-3 tree.hidden-the_row-Stmt-5 tree.hidden-the_row-Decl-4 denote.Hole.Carrier.hidden denote.Hole.Carrier.out out-Expr out-Stmt digits utf16 print_body quoted is_plain_key key_text message_text unit_text lib.Utf8.encode cut tree_elements goes_down plain_from member element call call_with declared const_stmt let_stmt assign_stmt count_stmt empty_stmt push_stmt if_stmt from_zero below_count for_stmt function_tree map_items map_tree filter_turn filter_items filter_tree for_each_items for_each_tree search_items some_tree every_tree message refuse_stmt is_empty first_element start_items start_stmt reduce_turn reduce_items reduce_tree has_no_function mapped_element taken_element from_items from_tree text_every
row_every = refl

-- { let t = 0; [1, 2].forEach((d, i) => { t += d * i; }); return t; }
text_each : Function
text_each = fn None [] false (f.Items (s.Let (decl (codes "t") (d.Value (e.Int (pos 0))) ∷ []) ∷ s.Expr (e.Call (e.Member (e.Array ((e.Int (pos 1)) ∷ (e.Int (pos 2)) ∷ [])) (codes "forEach")) ((e.Arrow (fn None ((codes "d") ∷ (codes "i") ∷ []) false (f.Items (s.Expr (e.Assign (A.Binary O.Add) (e.Name (codes "t")) (e.Binary O.Mul (e.Name (codes "d")) (e.Name (codes "i")))) ∷ [])))) ∷ [])) ∷ s.Return (Some (e.Name (codes "t"))) ∷ []))

row_each : (shown (run_of prelude_texts text_each [] 0)).0 ≡ codes "2"
unfolding ◌>>=◌ lift carries chars tree.hidden-the_row-Expr-0 tree.hidden-the_row-Expr-2 tree.hidden-the_row-PropNode-1 tree.hidden-the_row-Stmt-3 tree.hidden-the_row-Stmt-5 tree.hidden-the_row-Decl-4 denote.Hole.Carrier.hidden denote.Hole.Carrier.out out-Expr out-Stmt digits utf16 print_body quoted is_plain_key key_text message_text unit_text lib.Utf8.encode cut tree_elements goes_down plain_from member element call call_with declared const_stmt let_stmt assign_stmt count_stmt empty_stmt push_stmt if_stmt from_zero below_count for_stmt function_tree map_items map_tree filter_turn filter_items filter_tree for_each_items for_each_tree search_items some_tree every_tree message refuse_stmt is_empty first_element start_items start_stmt reduce_turn reduce_items reduce_tree has_no_function mapped_element taken_element from_items from_tree text_each
row_each = refl

-- [1].reduce((s, d) => [s, d], undefined)
text_givenundefined : Function
text_givenundefined = fn None [] false (f.Value (e.Call (e.Member (e.Array ((e.Int (pos 1)) ∷ [])) (codes "reduce")) ((e.Arrow (fn None ((codes "s") ∷ (codes "d") ∷ []) false (f.Value (e.Array ((e.Name (codes "s")) ∷ (e.Name (codes "d")) ∷ []))))) ∷ e.Undefined ∷ [])))

row_givenundefined : (shown (run_of prelude_texts text_givenundefined [] 0)).0 ≡ codes "[undefined, 1]"
unfolding ◌>>=◌ lift carries chars tree.hidden-the_row-Expr-0 tree.hidden-the_row-Expr-2 tree.hidden-the_row-PropNode-1 tree.hidden-the_row-Stmt-3 tree.hidden-the_row-Stmt-5 tree.hidden-the_row-Decl-4 denote.Hole.Carrier.hidden denote.Hole.Carrier.out out-Expr out-Stmt digits utf16 print_body quoted is_plain_key key_text message_text unit_text lib.Utf8.encode cut tree_elements goes_down plain_from member element call call_with declared const_stmt let_stmt assign_stmt count_stmt empty_stmt push_stmt if_stmt from_zero below_count for_stmt function_tree map_items map_tree filter_turn filter_items filter_tree for_each_items for_each_tree search_items some_tree every_tree message refuse_stmt is_empty first_element start_items start_stmt reduce_turn reduce_items reduce_tree has_no_function mapped_element taken_element from_items from_tree text_givenundefined
row_givenundefined = refl

-- Array.from()
text_nofrom : Function
text_nofrom = fn None [] false (f.Value (e.Call (e.Member (e.Name (codes "Array")) (codes "from")) []))

row_nofrom : (shown (run_of prelude_texts text_nofrom (V.Builtin 2 ∷ []) 0)).0 ≡ codes "TypeError: no property of null or undefined"
unfolding ◌>>=◌ lift carries chars tree.hidden-the_row-Expr-0 tree.hidden-the_row-Expr-2 tree.hidden-the_row-PropNode-1 tree.hidden-the_row-Stmt-3 tree.hidden-the_row-Stmt-5 tree.hidden-the_row-Decl-4 denote.Hole.Carrier.hidden denote.Hole.Carrier.out out-Expr out-Stmt digits utf16 print_body quoted is_plain_key key_text message_text unit_text lib.Utf8.encode cut tree_elements goes_down plain_from member element call call_with declared const_stmt let_stmt assign_stmt count_stmt empty_stmt push_stmt if_stmt from_zero below_count for_stmt function_tree map_items map_tree filter_turn filter_items filter_tree for_each_items for_each_tree search_items some_tree every_tree message refuse_stmt is_empty first_element start_items start_stmt reduce_turn reduce_items reduce_tree has_no_function mapped_element taken_element from_items from_tree text_nofrom
row_nofrom = refl

-- Array.from(5)
text_fromnumber : Function
text_fromnumber = fn None [] false (f.Value (e.Call (e.Member (e.Name (codes "Array")) (codes "from")) ((e.Int (pos 5)) ∷ [])))

row_fromnumber : (shown (run_of prelude_texts text_fromnumber (V.Builtin 2 ∷ []) 0)).0 ≡ codes "TypeError: wrong operand"
unfolding ◌>>=◌ lift carries chars tree.hidden-the_row-Expr-0 tree.hidden-the_row-Expr-2 tree.hidden-the_row-PropNode-1 tree.hidden-the_row-Stmt-3 tree.hidden-the_row-Stmt-5 tree.hidden-the_row-Decl-4 denote.Hole.Carrier.hidden denote.Hole.Carrier.out out-Expr out-Stmt digits utf16 print_body quoted is_plain_key key_text message_text unit_text lib.Utf8.encode cut tree_elements goes_down plain_from member element call call_with declared const_stmt let_stmt assign_stmt count_stmt empty_stmt push_stmt if_stmt from_zero below_count for_stmt function_tree map_items map_tree filter_turn filter_items filter_tree for_each_items for_each_tree search_items some_tree every_tree message refuse_stmt is_empty first_element start_items start_stmt reduce_turn reduce_items reduce_tree has_no_function mapped_element taken_element from_items from_tree text_fromnumber
row_fromnumber = refl
