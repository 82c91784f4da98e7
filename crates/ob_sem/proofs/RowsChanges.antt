-- Worked rows: changes of mutables. The elements of plain data do not compute outside their module, so a row names the run in which the change
-- costs so many elements, and then how many they are.
use Rattle.std.proofs.Common.{◌≡◌, refl, ℤ, ap, ◌∙◌}
use Rattle.std.specs.Fmt.{digits}
use Rattle.std.specs.Prelude.{ℕ, pos, false, List, [], ◌∷◌, ◌++◌, map, Some, None, codes}
use Rattle.std.specs.Str.{chars}
use Rattle.ob_base.specs.Escapes.{unit_text}
use Rattle.ob_base.specs.PlainData.{elements, elements_step, prop_value}
use Rattle.ob_base.specs.Utf16.{utf16}
use Rattle.ob_base.specs.declared.operators.ChangeOp.TheVariants as K
use Rattle.ob_base.specs.declared.operators.ChangeOp.{ChangeOp}
use Rattle.ob_base.specs.declared.plain.Plain as plains
use Rattle.ob_base.specs.declared.plain.Plain.TheOpen.{Plain-F}
use Rattle.ob_base.specs.declared.plain.Plain.TheVariants as plain
use Rattle.ob_base.specs.declared.plain.Plain.{Plain, fold-roll-Plain}
use Rattle.ob_items.specs.Region.{no_cells}
use Rattle.ob_items.specs.declared.value.Value.TheVariants as V
use Rattle.ob_items.specs.declared.value.Value.{Value}
use Rattle.ob_tree_types.specs.declared.tree.DeclValue.TheBlock as tree
use Rattle.ob_tree_types.specs.declared.tree.Expr.TheVariants as e
use Rattle.ob_tree_types.specs.declared.tree.Expr.{out-Expr}
use Rattle.ob_tree_types.specs.declared.tree.FnBody.TheVariants as f
use Rattle.ob_tree_types.specs.declared.tree.Function.{Function}
use Rattle.ob_tree_types.specs.declared.tree.Stmt.TheVariants as s
use Rattle.ob_tree_types.specs.declared.tree.Stmt.{out-Stmt}
use Rattle.ob_values.specs.Inspect.{print_body, quoted, is_plain_key, key_text, message_text}
use Rattle.ob_values.specs.PlainOf.{tree_elements, goes_down, plain_from}
use Rattle.ob_values.specs.TextMethods.{cut}
use Rattle.ob_values.specs.Store.{Store}
use Rattle.ob_actions.specs.Act.{Out, Go, ◌>>=◌, then_with, updates, pure}
use Rattle.ob_actions.specs.Core.{Core, Effect, with_effect}
use Rattle.ob_actions.specs.Meters.{counts}
use Rattle.ob_actions.specs.Places.{Slot}
use Rattle.ob_actions.specs.Requests.{Request, Closure, Reply}
use Rattle.ob_sem.specs.Called.{call_to}
use Rattle.ob_sem.specs.Resumption.{reply_of}
use Rattle.ob_sem.specs.Evaluation.{run}
use Rattle.ob_sem.specs.Flows.{Flow, Next, after_flow, result_of}
use Rattle.ob_sem.specs.Pending.{Rest}
use Rattle.ob_sem.specs.Runs.{Run, after_body, with_inputs, run_scope, depth, fresh}
use Rattle.ob_sem.specs.Scope.{Scope}
use Rattle.ob_sem.specs.Setting.{Setting, cell_text}
use Rattle.ob_sem.specs.Whole.{Whole, lift, lifted, carries, with_callers}
use Rattle.ob_sem.proofs.RowParts.{fn, run_of, no_texts, shown, setting, effects_of, hosts}

elements_int : (n : ℤ) → elements (plain.Int n) ≡ 0
unfolding plains.roll-Plain denote.Hole.Carrier.roll
elements_int n = fold-roll-Plain _ _ elements_step prop_value (Plain-F.Int n)

-- a change that costs so many elements
changes : Setting → ℕ → ℕ → ChangeOp → Plain → Core → Out Whole Flow
changes set n holder op p s =
    then_with (lifted [] ((counts set.world n >>= (λ _. updates (with_effect (record { holder = holder; op = op; value = p })))) s)) (λ _. pure Next)

-- the end of a cell whose last statement it is
cell_ends : Setting → Scope → Out Whole Flow → Run
cell_ends set sc o =
    after_body set (then_with (then_with o (λ g. after_flow g (Rest tree.end_of-Stmt sc) (run set (call_to set depth) tree.end_of-Stmt sc))) (λ g. pure (result_of g)))

-- { mutable n += k; }
text_changes : Function
text_changes = fn None [] false (f.Items (s.Change (codes "n") K.Add (Some (e.Name (codes "k"))) ∷ []))

inputs : List Value
inputs = V.Holder 3 ∷ V.Int (pos 5) ∷ []

after_change : ℕ → Run
after_change n =
    cell_ends (setting no_texts text_changes) (run_scope (setting no_texts text_changes) 7 inputs (Some no_cells ∷ []))
    (changes (setting no_texts text_changes) n 3 K.Add (plain.Int (pos 5))
    (record { store = with_inputs (setting no_texts text_changes) inputs (Some no_cells ∷ []); left = 99999; locals = []; logs = []; effects = []; hooks = [] }))

stands_so : run_of no_texts text_changes inputs 0 ≡ after_change (elements (plain.Int (pos 5)))
unfolding after_change cell_ends changes inputs ◌>>=◌ lift carries chars tree.hidden-the_row-Expr-0 tree.hidden-the_row-Expr-2 tree.hidden-the_row-PropNode-1 tree.hidden-the_row-Stmt-3 tree.hidden-the_row-Stmt-5 tree.hidden-the_row-Decl-4 denote.Hole.Carrier.hidden denote.Hole.Carrier.out out-Expr out-Stmt digits utf16 print_body quoted is_plain_key key_text message_text unit_text lib.Utf8.encode cut tree_elements goes_down plain_from text_changes
stands_so = refl

row_changes : shown (run_of no_texts text_changes inputs 0) ≡ (codes "undefined", 1)
unfolding after_change cell_ends changes inputs ◌>>=◌ lift carries chars digits utf16 print_body quoted is_plain_key key_text message_text unit_text lib.Utf8.encode cut
row_changes = ap shown stands_so ∙ ap (λ n. shown (after_change n)) (elements_int (pos 5))

row_changes_effect : effects_of (run_of no_texts text_changes inputs 0) ≡ (3, K.Add, plain.Int (pos 5)) ∷ []
unfolding after_change cell_ends changes inputs ◌>>=◌ lift carries chars
row_changes_effect = ap effects_of stands_so ∙ ap (λ n. effects_of (after_change n)) (elements_int (pos 5))

-- { return (x) => { mutable n += x; }; }
text_adds : Function
text_adds = fn None [] false (f.Items (s.Return (Some (e.Arrow (fn None (codes "x" ∷ []) false (f.Items (s.Change (codes "n") K.Add (Some (e.Name (codes "x"))) ∷ []))))) ∷ []))

-- a run of another cell, in a region of its own, has that function as a value
other : Setting
other = record { world = record { hosts = hosts; region = record { 0 = 1 } }; texts = no_texts ++ Some (cell_text text_adds) ∷ [] }

both : Store
both = (run_of no_texts text_adds (V.Holder 9 ∷ []) 0).store ++ Some no_cells ∷ []

adding : Request
adding = Closure (record { region = record { 0 = 0 }; item = 2 }) (V.Int (pos 5) ∷ [])

-- the changes, and the steps that are left
effects_in : Out Whole Reply → List (ℕ × ChangeOp × Plain) × ℕ
effects_in (Go reply s) = (map (λ (change : Effect). (change.holder, change.op, change.value)) s.core.effects, s.core.left)
effects_in _ = ([], 0)

inside_adds : Scope
inside_adds = record {
  code = 7;
  next = 2;
  names = record { name = codes "x"; constant = false; place = Slot 0 } ∷ [];
  size = 1;
  inputs = record { region = record { 0 = 0 }; item = 1 };
  invalidation = None;
}

after_adding : ℕ → Out Whole Reply
after_adding n =
    then_with (with_callers [] (then_with (then_with
    (changes other n 9 K.Add (plain.Int (pos 5)) (record { store = both; left = 99; locals = Some (V.Int (pos 5)) ∷ []; logs = []; effects = []; hooks = [] }))
    (λ g. after_flow g (Rest tree.end_of-Stmt inside_adds) (run other (call_to other 4) tree.end_of-Stmt inside_adds)))
    (λ g. pure (result_of g)))) (λ v. pure (reply_of false v))

adds_so : call_to other 5 adding (fresh both [] [] 100) ≡ after_adding (elements (plain.Int (pos 5)))
unfolding after_adding changes other both adding inside_adds ◌>>=◌ lift carries chars tree.hidden-the_row-Expr-0 tree.hidden-the_row-Expr-2 tree.hidden-the_row-PropNode-1 tree.hidden-the_row-Stmt-3 tree.hidden-the_row-Stmt-5 tree.hidden-the_row-Decl-4 denote.Hole.Carrier.hidden denote.Hole.Carrier.out out-Expr out-Stmt digits utf16 print_body quoted is_plain_key key_text message_text unit_text lib.Utf8.encode cut tree_elements goes_down plain_from text_adds
adds_so = refl

-- the mutable of the cell whose function it is
row_adds : effects_in (call_to other 5 adding (fresh both [] [] 100)) ≡ ((9, K.Add, plain.Int (pos 5)) ∷ [], 99)
unfolding after_adding changes other both adding inside_adds effects_in ◌>>=◌ lift carries chars tree.hidden-the_row-Expr-0 tree.hidden-the_row-Expr-2 tree.hidden-the_row-PropNode-1 tree.hidden-the_row-Stmt-3 tree.hidden-the_row-Stmt-5 tree.hidden-the_row-Decl-4 denote.Hole.Carrier.hidden denote.Hole.Carrier.out out-Expr out-Stmt text_adds
row_adds = ap effects_in adds_so ∙ ap (λ n. effects_in (after_adding n)) (elements_int (pos 5))
