-- What the worked rows have in common.
use Rattle.std.specs.Prelude.{ℕ, Bool, false, List, [], ◌∷◌, ◌++◌, map, Option, Some, None, codes}
use Rattle.ob_hosts.specs.Entry.{HostEntry}
use Rattle.ob_hosts.specs.declared.host_fn.HostCode.TheVariants as host
use Rattle.ob_base.specs.declared.operators.ChangeOp.{ChangeOp}
use Rattle.ob_base.specs.declared.plain.Plain.{Plain}
use Rattle.ob_items.specs.Bodies.{hooks_of}
use Rattle.ob_items.specs.Region.{no_cells}
use Rattle.ob_items.specs.declared.item.Body.TheVariants as B
use Rattle.ob_items.specs.declared.value.Value.{Value}
use Rattle.ob_items.specs.declared.value.Value.TheVariants as V
use Rattle.std.specs.List.{flat_map}
use Rattle.std.specs.Option.{option_map_or}
use Rattle.ob_tree_types.specs.declared.tree.CatchPart.{CatchPart}
use Rattle.ob_tree_types.specs.declared.tree.Decl.{Decl}
use Rattle.ob_tree_types.specs.declared.tree.DeclValue.{DeclValue}
use Rattle.ob_tree_types.specs.declared.tree.FnBody.{FnBody}
use Rattle.ob_tree_types.specs.declared.tree.Function.{Function}
use Rattle.ob_tree_types.specs.declared.tree.Stmt.{Stmt}
use Rattle.ob_values.specs.Inspect.{inspect_text, failure_text}
use Rattle.ob_values.specs.Store.{Store, written}
use Rattle.ob_actions.specs.Core.{Effect}
use Rattle.ob_sem.specs.Hooks.{Hook, Hooks, call_hooks, invalidate}
use Rattle.ob_sem.specs.Runs.{Run, Outcome, Gives, Fails, segments, called, after_body, run_scope, fresh, with_inputs, budget}
use Rattle.ob_sem.specs.Setting.{Setting, Text, cell_text}

abbrev pub fn : Option (List ℕ) → List (List ℕ) → Bool → FnBody → Function
fn n ps g b = record { name = n; params = ps; generator = g; body = b }

abbrev pub decl : List ℕ → DeclValue → Decl
decl x v = record { name = x; value = v }

abbrev pub catch : Option (List ℕ) → List Stmt → CatchPart
catch x items = record { name = x; items = items }

abbrev pub hosts : List HostEntry
hosts = record { name = codes "quot"; arity = 2; code = host.Quot } ∷ record { name = codes "clamp0"; arity = 1; code = host.Clamp0 } ∷ []

-- without the texts of the prelude
abbrev pub no_texts : List (Option Text)
no_texts = None ∷ None ∷ None ∷ None ∷ None ∷ None ∷ None ∷ []

abbrev pub setting : List (Option Text) → Function → Setting
setting texts f = record { world = record { hosts = hosts; region = record { 0 = 0 } }; texts = texts ++ Some (cell_text f) ∷ [] }

-- a cell's run after n segments more than the first
abbrev pub run_of : List (Option Text) → Function → List Value → ℕ → Run
run_of texts f inputs n = segments (setting texts f) f 7 inputs (Some no_cells ∷ []) n

abbrev pub outcome_text : Store → Outcome → List ℕ
outcome_text store (Gives v) = inspect_text store v
outcome_text store (Fails f) = failure_text store f

-- the outcome as a report shows it, and the steps of the segment
abbrev pub shown : Run → List ℕ × ℕ
shown r = (outcome_text r.store r.outcome, r.spent)

-- the texts that the segment logged
abbrev pub shown_logs : Run → List (List ℕ)
shown_logs r = r.logs

-- a cell's first segment with fewer steps, in a region that has elements
abbrev pub run_with : List (Option Text) → Function → ℕ → ℕ → Run
run_with texts f left elements =
    after_body (setting texts f)
    (called (setting texts f) f (run_scope (setting texts f) 7 [] [])
    (fresh (with_inputs (setting texts f) [] (Some (record { items = []; elements = elements; literals = [] }) ∷ [])) [] [] left))

-- the position of a run, and whether it has ended
abbrev pub stands : Run → ℕ × Bool
stands r = (r.position, r.ended)

-- the changes of the last segment
abbrev pub effects_of : Run → List (ℕ × ChangeOp × Plain)
effects_of r = map (λ (change : Effect). (change.holder, change.op, change.value)) r.effects

-- a cell's first segment, where its invalidation object has kept so many functions before
abbrev pub kept_before : ℕ → Store → Store
kept_before n store = written hooks_of (λ _. B.Invalidation n) store (record { region = record { 0 = 0 }; item = 0 }) false

abbrev pub run_kept : ℕ → Function → List Value → Run
run_kept n f inputs =
    after_body (setting no_texts f)
    (called (setting no_texts f) f (run_scope (setting no_texts f) 7 inputs (Some no_cells ∷ []))
    (fresh (kept_before n (with_inputs (setting no_texts f) inputs (Some no_cells ∷ []))) [] [] budget))

-- how the hooks of a run failed, and what they logged
abbrev pub hook_text : Store → Hook → List (List ℕ)
hook_text store h = option_map_or (λ failure. failure_text store failure ∷ []) h.failure [] ++ h.logs

abbrev pub texts_of : Hooks → List (List ℕ)
texts_of h = flat_map (hook_text h.store) h.hooks

abbrev pub hooks_text : Run → Function → List (List ℕ)
hooks_text r f = texts_of (invalidate (setting no_texts f) (record { region = record { 0 = 0 }; item = 0 }) r)

-- the same where they share so many steps
abbrev pub hooks_with : ℕ → Run → Function → List (List ℕ)
hooks_with left r f =
    texts_of (call_hooks (setting no_texts f) (record { hooks = []; left = left; store = r.store; suspended = r.suspended }) r.hooks)

-- a cell that has the value of another, in a region of its own
abbrev pub value_of : Outcome → Value
value_of (Gives v) = v
value_of (Fails f) = V.Undefined

abbrev pub second_setting : Function → Function → Setting
second_setting a b =
    record { world = record { hosts = hosts; region = record { 0 = 1 } }; texts = no_texts ++ Some (cell_text a) ∷ Some (cell_text b) ∷ [] }

abbrev pub run_on : Run → Function → Function → Run
run_on r a b = segments (second_setting a b) b 8 (value_of r.outcome ∷ []) (r.store ++ Some no_cells ∷ []) 0

-- the second cell, whose one input is the value of the first on these inputs
abbrev pub run_after_on : List Value → Function → Function → Run
run_after_on inputs a b = run_on (run_of no_texts a inputs 0) a b

abbrev pub run_after : Function → Function → Run
run_after a b = run_after_on [] a b
