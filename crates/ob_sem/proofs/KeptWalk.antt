-- The walk over flows, loops, expressions and statements.
use Rattle.std.proofs.Common.{ℕ, zero, suc, ◌+◌, Bool, List, [], ◌∷◌, ◌++◌, Option, Some, None, slice_get, unwrap_or, subst, sym}
use Rattle.std.specs.Option.{option_and_then}
use Rattle.ob_base.specs.Utf16.{utf16}
use Rattle.ob_items.specs.Bodies.{array_of}
use Rattle.ob_items.specs.declared.item.Body.{Body}
use Rattle.ob_items.specs.declared.item.Body.TheVariants as B
use Rattle.ob_items.specs.declared.thrown.Thrown.TheVariants as T
use Rattle.ob_items.specs.declared.value.Ref.{Ref}
use Rattle.ob_items.specs.declared.value.Value.{Value}
use Rattle.ob_items.specs.declared.value.Value.TheVariants as V
use Rattle.ob_tree.specs.Scopes.{Bound}
use Rattle.ob_tree.specs.Walks.{variable, binding}
use Rattle.ob_tree_types.specs.declared.cell.SpecForm.TheVariants as forms
use Rattle.ob_tree_types.specs.declared.tree.DeclValue.TheBlock as tree
use Rattle.ob_tree_types.specs.declared.tree.DeclValue.{DeclValue}
use Rattle.ob_tree_types.specs.declared.tree.Expr.{Expr}
use Rattle.ob_tree_types.specs.declared.tree.ForHead.{ForHead}
use Rattle.ob_tree_types.specs.declared.tree.Function.{Function}
use Rattle.ob_tree_types.specs.declared.tree.PropNode.{PropNode}
use Rattle.ob_tree_types.specs.declared.tree.Stmt.{Stmt}
use Rattle.ob_values.specs.Store.{body_of, read_item}
use Rattle.ob_actions.specs.Act.{Out, Go, Threw, Refused, Act, then_with, pure, asks}
use Rattle.ob_actions.specs.Calls.{Called, invoke, pull}
use Rattle.ob_actions.specs.Core.{Core}
use Rattle.ob_actions.specs.Generators.{leave}
use Rattle.ob_actions.specs.Meters.{takes_step}
use Rattle.ob_actions.specs.Operators.{truth, needs_second}
use Rattle.ob_actions.specs.Properties.{Word, Computed}
use Rattle.ob_actions.specs.Requests.{Request, Reply}
use Rattle.ob_tree.specs.Declarations.{declared, declared_function, head_names}
use Rattle.ob_sem.specs.Evaluation.{for_extent, copied_names, member_word, set_function, set_functions, in_block, with_element_in, callee_by, over, over_value, eval, only, evals, maybe, test, only_target, target, only_callee, object_of, set_prop, set_props, exec, only_stmt, otherwise, run, declare, start, declare_all, value_of, handle, last}
use Rattle.ob_sem.specs.Flows.{Flow, Next, Broke, Continued, Returned, Yielded, after_flow, after_turn, caught, ends_as, finished, result_of}
use Rattle.ob_tree.specs.Functions.{in_value, in_expr, in_exprs, in_maybe, in_prop, in_head, in_stmt, in_stmts, in_catch}
use Rattle.ob_sem.specs.Loops.{turns, loop, element_turn, elements_from, element_loop, after_left, pulls_from, pull_loop}
use Rattle.ob_sem.specs.Pending.{Pending, Rest, MoreDecls, WhileLoop, DoLoop, ForLoop, ElementLoop, PullLoop, Handler, Last, Ignored, Assigned, Declared}
use Rattle.ob_sem.specs.Scope.{Scope, behind}
use Rattle.ob_sem.specs.Setting.{Setting}
use Rattle.ob_sem.specs.Targets.{Target, Variable, Property}
use Rattle.ob_sem.specs.Whole.{Whole, Caller, lift, carries}
use Rattle.ob_actions.proofs.Each.{each_append}
use Rattle.ob_actions.proofs.Holds.{Any, After, Holds, then_holds, bind, pure_holds, choice, chosen}
use Rattle.ob_actions.proofs.Kept.{GoodCallee, GoodReply, Law, read_by, step_holds, literal_value_holds, unary_holds, compare_holds, new_array_holds, new_object_holds}
use Rattle.ob_actions.proofs.KeptCalls.{units_holds, get_holds, set_holds, change_holds, end_holds, leave_holds, pull_holds, invoke_holds, construct_holds, member_callee_holds}
use Rattle.ob_sem.proofs.Kept.{GoodTarget, Wholly, lift_holds, carries_holds, value_holds, throw_holds, unit_holds, enter_holds, copy_holds, read_name_holds, read_input_holds, first_name_holds, assign_to_holds, update_holds, closure_holds, named_function_holds}
use Rattle.ob_actions.specs.Within.{Each, Good, GoodBody, GoodRequest, IfThere}
use Rattle.ob_sem.specs.Within.{GoodPending, GoodScope, GoodTaker, GoodTexts}

abbrev pub GoodFlow : (Ref → Type 0) → Flow → Type 0
GoodFlow G (Returned v) = Good G v
GoodFlow G (Yielded v t ps) = Good G v × GoodTaker G t × Each (GoodPending G) ps
GoodFlow G _ = Unit {0}

pub array_good : (G : Ref → Type 0) (o : Option Body) → IfThere (GoodBody G) o → Each (Good G) (unwrap_or (option_and_then array_of o) [])
array_good G None h = tt
array_good G (Some (B.Array vs)) h = h
array_good G (Some _) h = tt

module _ (P : Core → Type 0) (G : Ref → Type 0) (set : Setting) (law : Law P G set.world) (texts : GoodTexts G set) where
  flow_holds : (f : Flow) → GoodFlow G f → Holds (Wholly P G) G (GoodFlow G) (pure {S = Whole} f)
  flow_holds f g = pure_holds (Wholly P G) G (GoodFlow G) f g

  more_frames : (ps : List Pending) (p : Pending) → Each (GoodPending G) ps → GoodPending G p → Each (GoodPending G) (ps ++ p ∷ [])
  more_frames ps p h g = each_append (GoodPending G) ps (p ∷ []) h (g, tt)

  -- ---- flows

  pub after_flow_holds : (f : Flow) (p : Pending) (k : Act Whole Flow) → GoodFlow G f → GoodPending G p → Holds (Wholly P G) G (GoodFlow G) k → Holds (Wholly P G) G (GoodFlow G) (after_flow f p k)
  after_flow_holds Next p k h g f = f
  after_flow_holds Broke p k h g f = flow_holds Broke tt
  after_flow_holds Continued p k h g f = flow_holds Continued tt
  after_flow_holds (Returned v) p k h g f = flow_holds (Returned v) h
  after_flow_holds (Yielded v t ps) p k h g f = flow_holds (Yielded v t (ps ++ p ∷ [])) (h.0, h.1, more_frames ps p h.2 g)

  pub after_turn_holds : (f : Flow) (p : Pending) (k : Act Whole Flow) → GoodFlow G f → GoodPending G p → Holds (Wholly P G) G (GoodFlow G) k → Holds (Wholly P G) G (GoodFlow G) (after_turn f p k)
  after_turn_holds Next p k h g f = f
  after_turn_holds Continued p k h g f = f
  after_turn_holds Broke p k h g f = flow_holds Next tt
  after_turn_holds (Returned v) p k h g f = flow_holds (Returned v) h
  after_turn_holds (Yielded v t ps) p k h g f = flow_holds (Yielded v t (ps ++ p ∷ [])) (h.0, h.1, more_frames ps p h.2 g)

  pub caught_holds : (p : Pending) (o : Out Whole Flow) (handler : Value → Act Whole Flow) → GoodPending G p → After (Wholly P G) G (GoodFlow G) o
      → ((v : Value) → Good G v → Holds (Wholly P G) G (GoodFlow G) (handler v)) → After (Wholly P G) G (GoodFlow G) (caught p o handler)
  caught_holds p (Go (Yielded v t ps) s) handler g h f = (h.0, (h.1.0, h.1.1, more_frames ps p h.1.2 g))
  caught_holds p (Go Next s) handler g h f = h
  caught_holds p (Go Broke s) handler g h f = h
  caught_holds p (Go Continued s) handler g h f = h
  caught_holds p (Go (Returned v) s) handler g h f = h
  caught_holds p (Threw v s) handler g h f = (f v h.1).runs s h.0
  caught_holds p (Refused l s) handler g h f = h

  ends_holds : (m : Act Whole Flow) (f : Flow) → GoodFlow G f → Holds (Wholly P G) G (GoodFlow G) m → Holds (Wholly P G) G (GoodFlow G) (ends_as m f)
  ends_holds m Next g h = h
  ends_holds m Broke g h = flow_holds Broke tt
  ends_holds m Continued g h = flow_holds Continued tt
  ends_holds m (Returned v) g h = flow_holds (Returned v) g
  ends_holds m (Yielded v t ps) g h = flow_holds (Yielded v t ps) g

  ended_so : (f : Flow) (s : Whole) (last : Act Whole Flow) → GoodFlow G f → Wholly P G s → Holds (Wholly P G) G (GoodFlow G) last → After (Wholly P G) G (GoodFlow G) (then_with (last s) (ends_as (pure f)))
  ended_so f s last g h k = then_holds (Wholly P G) G (GoodFlow G) (GoodFlow G) (last s) (ends_as (pure f)) (k.runs s h) (λ e i. ends_holds (pure f) e i (flow_holds f g))

  pub finished_holds : (p : Pending) (o : Out Whole Flow) (last : Act Whole Flow) → GoodPending G p → After (Wholly P G) G (GoodFlow G) o → Holds (Wholly P G) G (GoodFlow G) last
      → After (Wholly P G) G (GoodFlow G) (finished p o last)
  finished_holds p (Go (Yielded v t ps) s) last g h k = (h.0, (h.1.0, h.1.1, more_frames ps p h.1.2 g))
  finished_holds p (Go Next s) last g h k = ended_so Next s last tt h.0 k
  finished_holds p (Go Broke s) last g h k = ended_so Broke s last tt h.0 k
  finished_holds p (Go Continued s) last g h k = ended_so Continued s last tt h.0 k
  finished_holds p (Go (Returned v) s) last g h k = ended_so (Returned v) s last h.1 h.0 k
  finished_holds p (Threw v s) last g h k =
      then_holds (Wholly P G) G (GoodFlow G) (GoodFlow G) (last s) (ends_as (λ t. Threw v t)) (k.runs s h.0) (λ e i. ends_holds (λ t. Threw v t) e i (record { runs = λ t j. (j, h.1) }))
  finished_holds p (Refused l s) last g h k = h

  pub result_good : (f : Flow) → GoodFlow G f → Good G (result_of f)
  result_good Next g = tt
  result_good Broke g = tt
  result_good Continued g = tt
  result_good (Returned v) g = g
  result_good (Yielded v t ps) g = tt

  -- ---- loops

  pub step : Holds (Wholly P G) G Any (lift (takes_step set.world))
  step = lift_holds P G (step_holds P G set.world law)

  pub turns_holds : (n : ℕ) (frame : Scope → Pending) (test : Scope → Act Whole Bool) (body : Scope → Act Whole Flow) (next : Scope → Act Whole Scope) (sc : Scope) → GoodScope G sc
      → ((i : Scope) → GoodScope G i → GoodPending G (frame i)) → ((i : Scope) → GoodScope G i → Holds (Wholly P G) G Any (test i))
      → ((i : Scope) → GoodScope G i → Holds (Wholly P G) G (GoodFlow G) (body i)) → ((i : Scope) → GoodScope G i → Holds (Wholly P G) G (GoodScope G) (next i))
      → Holds (Wholly P G) G (GoodFlow G) (turns set.world n frame test body next sc)
  turns_holds zero frame test body next sc g e f h k = record { runs = λ s p. p }
  turns_holds (suc n) frame test body next sc g e f h k =
      bind (Wholly P G) G (f sc g) (λ go _. chosen (Wholly P G) G (GoodFlow G) go _ _
      (bind (Wholly P G) G step (λ _ _. bind (Wholly P G) G (h sc g) (λ flow i.
      after_turn_holds flow (frame sc) _ i (e sc g) (bind (Wholly P G) G (k sc g) (λ inner j. turns_holds n frame test body next inner j e f h k)))))
      (flow_holds Next tt))

  pub loop_holds : (frame : Scope → Pending) (test : Scope → Act Whole Bool) (body : Scope → Act Whole Flow) (next : Scope → Act Whole Scope) (sc : Scope) → GoodScope G sc
      → ((i : Scope) → GoodScope G i → GoodPending G (frame i)) → ((i : Scope) → GoodScope G i → Holds (Wholly P G) G Any (test i))
      → ((i : Scope) → GoodScope G i → Holds (Wholly P G) G (GoodFlow G) (body i)) → ((i : Scope) → GoodScope G i → Holds (Wholly P G) G (GoodScope G) (next i))
      → Holds (Wholly P G) G (GoodFlow G) (loop set.world frame test body next sc)
  loop_holds frame test body next sc g e f h k = record { runs = λ s p. (turns_holds (suc s.core.left) frame test body next sc g e f h k).runs s p }

  element_turn_holds : (o : Option Value) (turn : Value → Act Whole Flow) (k : Flow → Act Whole Flow) → IfThere (Good G) o
      → ((v : Value) → Good G v → Holds (Wholly P G) G (GoodFlow G) (turn v)) → ((f : Flow) → GoodFlow G f → Holds (Wholly P G) G (GoodFlow G) (k f))
      → Holds (Wholly P G) G (GoodFlow G) (element_turn set.world o turn k)
  element_turn_holds None turn k g f h = flow_holds Next tt
  element_turn_holds (Some v) turn k g f h = bind (Wholly P G) G (f v g) h

  there : (values : List Value) (i : ℕ) → Each (Good G) values → IfThere (Good G) (slice_get values i)
  there [] i h = tt
  there (v ∷ values) zero h = h.0
  there (v ∷ values) (suc i) h = there values i h.1

  elements_good : (r : Ref) → G r → (s : Core) → P s → Each (Good G) (unwrap_or (read_item array_of s.store r) [])
  elements_good r g s h = subst (λ o. Each (Good G) (unwrap_or o [])) (sym (read_by array_of s.store r)) (array_good G (body_of s.store r) (law.inside s h r g))

  elements_holds : (n : ℕ) (r : Ref) (i : ℕ) (frame : ℕ → Pending) (turn : Value → Act Whole Flow) → G r → ((j : ℕ) → GoodPending G (frame j))
      → ((v : Value) → Good G v → Holds (Wholly P G) G (GoodFlow G) (turn v)) → Holds (Wholly P G) G (GoodFlow G) (elements_from set.world n r i frame turn)
  elements_holds zero r i frame turn g e f = record { runs = λ s p. p }
  elements_holds (suc n) r i frame turn g e f = record {
    runs = λ s p.
        (element_turn_holds (slice_get (unwrap_or (read_item array_of s.core.store r) []) i) turn (λ flow. after_turn flow (frame (i + 1)) (elements_from set.world n r (i + 1) frame turn))
        (there (unwrap_or (read_item array_of s.core.store r) []) i (elements_good r g s.core p.0)) f
        (λ flow k. after_turn_holds flow (frame (i + 1)) _ k (e (i + 1)) (elements_holds n r (i + 1) frame turn g e f))).runs s p;
  }

  pub element_loop_holds : (r : Ref) (i : ℕ) (frame : ℕ → Pending) (turn : Value → Act Whole Flow) → G r → ((j : ℕ) → GoodPending G (frame j))
      → ((v : Value) → Good G v → Holds (Wholly P G) G (GoodFlow G) (turn v)) → Holds (Wholly P G) G (GoodFlow G) (element_loop set.world r i frame turn)
  element_loop_holds r i frame turn g e f = record { runs = λ s p. (elements_holds (suc s.core.left) r i frame turn g e f).runs s p }

  left_so : (r : Ref) (f : Flow) (s : Whole) → G r → GoodFlow G f → Wholly P G s → After (Wholly P G) G (GoodFlow G) (then_with (lift (leave set.world r) s) (λ _. pure f))
  left_so r f s g h p = then_holds (Wholly P G) G Any (GoodFlow G) (lift (leave set.world r) s) (λ _. pure f) ((lift_holds P G (leave_holds P G set.world law r g)).runs s p) (λ _ _. flow_holds f h)

  pub after_left_holds : (r : Ref) (p : Pending) (k : Act Whole Flow) (o : Out Whole Flow) → G r → GoodPending G p → Holds (Wholly P G) G (GoodFlow G) k → After (Wholly P G) G (GoodFlow G) o
      → After (Wholly P G) G (GoodFlow G) (after_left set.world r p k o)
  after_left_holds r p k (Go Next s) g e f h = f.runs s h.0
  after_left_holds r p k (Go Continued s) g e f h = f.runs s h.0
  after_left_holds r p k (Go Broke s) g e f h = left_so r Next s g tt h.0
  after_left_holds r p k (Go (Returned v) s) g e f h = left_so r (Returned v) s g h.1 h.0
  after_left_holds r p k (Go (Yielded v t ps) s) g e f h = (h.0, (h.1.0, h.1.1, more_frames ps p h.1.2 e))
  after_left_holds r p k (Threw v s) g e f h = ((end_holds P G set.world law r s.core g h.0.0, h.0.1), h.1)
  after_left_holds r p k (Refused l s) g e f h = h

  pulls_holds : (n : ℕ) (r : Ref) (m : Act Whole Reply) (frame : Pending) (turn : Value → Act Whole Flow) → G r → GoodPending G frame → Holds (Wholly P G) G (GoodReply G) m
      → ((v : Value) → Good G v → Holds (Wholly P G) G (GoodFlow G) (turn v)) → Holds (Wholly P G) G (GoodFlow G) (pulls_from set.world n r m frame turn)
  pulls_holds zero r m frame turn g e f h = record { runs = λ s p. p }
  pulls_holds (suc n) r m frame turn g e f h =
      bind (Wholly P G) G f (λ reply i. record {
        runs = λ s p. choice (Wholly P G) G (GoodFlow G) reply.ended (Go Next s) (after_left set.world r frame (pulls_from set.world n r m frame turn) (turn reply.value s)) (p, tt)
            (after_left_holds r frame (pulls_from set.world n r m frame turn) (turn reply.value s) g e (pulls_holds n r m frame turn g e f h) ((h reply.value i).runs s p));
      })

  pub pull_loop_holds : (r : Ref) (m : Act Whole Reply) (frame : Pending) (turn : Value → Act Whole Flow) → G r → GoodPending G frame → Holds (Wholly P G) G (GoodReply G) m
      → ((v : Value) → Good G v → Holds (Wholly P G) G (GoodFlow G) (turn v)) → Holds (Wholly P G) G (GoodFlow G) (pull_loop set.world r m frame turn)
  pull_loop_holds r m frame turn g e f h = record { runs = λ s p. (pulls_holds (suc s.core.left) r m frame turn g e f h).runs s p }

  -- ---- blocks

  set_function_holds : (o : Option (List ℕ × Function)) (sc : Scope) → GoodScope G sc → Holds (Wholly P G) G Any (set_function set o sc)
  set_function_holds None sc g = unit_holds P G set law
  set_function_holds (Some f) sc g = bind (Wholly P G) G (closure_holds P G set law texts f.1 sc g) (λ v h. first_name_holds P G set law texts f.0 v sc g h)

  pub set_functions_holds : {m : _} (row : tree.Row_of-Stmt m) (sc : Scope) → GoodScope G sc → Holds (Wholly P G) G Any (set_functions set row sc)
  set_functions_holds tree.end_of-Stmt sc g = unit_holds P G set law
  set_functions_holds (tree.more_of-Stmt s rest) sc g = bind (Wholly P G) G (set_function_holds (declared_function s) sc g) (λ _ _. set_functions_holds rest (behind (in_stmt s) sc) g)

  pub in_block_holds : {m : _} (bs : List Bound) (row : tree.Row_of-Stmt m) (give : Scope → Act Whole (Unit {0})) (body : Scope → Act Whole Flow) (sc : Scope) → GoodScope G sc
      → ((i : Scope) → GoodScope G i → Holds (Wholly P G) G Any (give i)) → ((i : Scope) → GoodScope G i → Holds (Wholly P G) G (GoodFlow G) (body i))
      → Holds (Wholly P G) G (GoodFlow G) (in_block set bs row give body sc)
  in_block_holds bs row give body sc g e f =
      bind (Wholly P G) G (enter_holds P G set law bs (in_stmts row) sc g) (λ inner h.
      bind (Wholly P G) G (e inner h) (λ _ _. bind (Wholly P G) G (set_functions_holds row inner h) (λ _ _. f inner h)))

  pub element_in_holds : (k : Bool) (x : List ℕ) (a : Stmt) (sc : Scope) (body : Scope → Act Whole Flow) → GoodScope G sc → ((i : Scope) → GoodScope G i → Holds (Wholly P G) G (GoodFlow G) (body i))
      → (v : Value) → Good G v → Holds (Wholly P G) G (GoodFlow G) (with_element_in set k x a sc body v)
  element_in_holds k x a sc body g f v h =
      bind (Wholly P G) G (enter_holds P G set law (binding k x ∷ []) (in_stmt a) sc g) (λ inner i.
      bind (Wholly P G) G (first_name_holds P G set law texts x v inner i h) (λ _ _. bind (Wholly P G) G step (λ _ _. f inner i)))

  callee_holds : (o : Option (List ℕ)) (object value : Act Whole Value) → Holds (Wholly P G) G (Good G) object → Holds (Wholly P G) G (Good G) value → Holds (Wholly P G) G (GoodCallee G) (callee_by set o object value)
  callee_holds None object value f h = bind (Wholly P G) G h (λ v g. pure_holds (Wholly P G) G (GoodCallee G) (Called v) g)
  callee_holds (Some word) object value f h = bind (Wholly P G) G f (λ v g. lift_holds P G (member_callee_holds P G set.world law v word g))

  pub truth_holds : (v : Value) → Holds (Wholly P G) G Any (lift (truth v))
  truth_holds v = lift_holds P G (record { runs = λ s p. (p, tt) })

  module _ (enter_call : Caller) (calls : (q : Request) → GoodRequest G q → Holds (Wholly P G) G (GoodReply G) (enter_call q)) where
    pub pulling : (r : Ref) → G r → Holds (Wholly P G) G (GoodReply G) (carries enter_call (pull set.world r V.Undefined))
    pulling r g = carries_holds P G enter_call calls (GoodReply G) (pull set.world r V.Undefined) (pull_holds P G set.world law r V.Undefined g tt)

    over_holds : (r : Ref) (o : Option Body) (k : Bool) (x : List ℕ) (a : Stmt) (sc : Scope) (body : Scope → Act Whole Flow) → G r → GoodScope G sc
        → ((i : Scope) → GoodScope G i → Holds (Wholly P G) G (GoodFlow G) (body i)) → Holds (Wholly P G) G (GoodFlow G) (over set enter_call r o k x a sc body)
    over_holds r (Some (B.Array values)) k x a sc body g h f =
        element_loop_holds r 0 (λ i. ElementLoop r i k x a sc) (with_element_in set k x a sc body) g (λ j. (g, h)) (element_in_holds k x a sc body h f)
    over_holds r (Some (B.Generator kept)) k x a sc body g h f =
        pull_loop_holds r (carries enter_call (pull set.world r V.Undefined)) (PullLoop r k x a sc) (with_element_in set k x a sc body) g (g, h) (pulling r g) (element_in_holds k x a sc body h f)
    over_holds r _ k x a sc body g h f = throw_holds P G set law Flow (GoodFlow G) T.NotIterable

    over_value_holds : (v : Value) (k : Bool) (x : List ℕ) (a : Stmt) (sc : Scope) (body : Scope → Act Whole Flow) → Good G v → GoodScope G sc
        → ((i : Scope) → GoodScope G i → Holds (Wholly P G) G (GoodFlow G) (body i)) → Holds (Wholly P G) G (GoodFlow G) (over_value set enter_call v k x a sc body)
    over_value_holds (V.Ref r) k x a sc body g h f = record { runs = λ s p. (over_holds r (body_of s.core.store r) k x a sc body g h f).runs s p }
    over_value_holds _ k x a sc body g h f = record { runs = λ s p. (throw_holds P G set law Flow (GoodFlow G) T.NotIterable).runs s p }

    mutual
      pub eval_holds : (a : Expr) (sc : Scope) → GoodScope G sc → Holds (Wholly P G) G (Good G) (eval set enter_call a sc)
      eval_holds tree.Undefined sc g = value_holds P G set law V.Undefined tt
      eval_holds tree.Null sc g = value_holds P G set law V.Null tt
      eval_holds (tree.Bool b) sc g = value_holds P G set law (V.Bool b) tt
      eval_holds (tree.Int n) sc g = value_holds P G set law (V.Int n) tt
      eval_holds (tree.Text units) sc g = lift_holds P G (literal_value_holds P G set.world law units)
      eval_holds (tree.Name x) sc g = read_name_holds P G set law texts x sc g
      eval_holds (tree.ViewofName x) sc g = read_input_holds P G set law texts forms.Viewof x sc g
      eval_holds (tree.Array' _ items) sc g = bind (Wholly P G) G (evals_hold items sc g) (λ values h. lift_holds P G (new_array_holds P G set.world law values h))
      eval_holds (tree.Object' _ props) sc g =
          bind (Wholly P G) G (lift_holds P G (new_object_holds P G set.world law)) (λ o h. bind (Wholly P G) G (set_props_hold props o sc h g) (λ _ _. value_holds P G set law o h))
      eval_holds (tree.Expr::Function' n ps f body) sc g = named_function_holds P G set law texts n (record { name = n; params = ps; generator = f; body = body }) sc g
      eval_holds (tree.Arrow' n ps f body) sc g = closure_holds P G set law texts (record { name = n; params = ps; generator = f; body = body }) sc g
      eval_holds (tree.Unary' op _ a) sc g = bind (Wholly P G) G (only_holds a sc g) (λ x h. lift_holds P G (unary_holds P G set.world law op x))
      eval_holds (tree.Binary' op _ a _ b) sc g =
          bind (Wholly P G) G (only_holds a sc g) (λ x h. bind (Wholly P G) G (only_holds b (behind (in_exprs a) sc) g) (λ y i. lift_holds P G (law.binaries op x y)))
      eval_holds (tree.Compare' op _ a _ b) sc g =
          bind (Wholly P G) G (only_holds a sc g) (λ x h. bind (Wholly P G) G (only_holds b (behind (in_exprs a) sc) g) (λ y i. lift_holds P G (compare_holds P G set.world law op x y)))
      eval_holds (tree.Logic' op _ a _ b) sc g =
          bind (Wholly P G) G (only_holds a sc g) (λ x h. bind (Wholly P G) G {R = Any} {j = asks (λ (s : Whole). needs_second s.core.store op x)} (record { runs = λ s p. (p, tt) }) (λ needed _.
          chosen (Wholly P G) G (Good G) needed _ _ (only_holds b (behind (in_exprs a) sc) g) (value_holds P G set law x h)))
      eval_holds (tree.Cond' _ c _ a _ b) sc g =
          bind (Wholly P G) G (only_holds c sc g) (λ v h. bind (Wholly P G) G (truth_holds v) (λ holds _.
          chosen (Wholly P G) G (Good G) holds _ _ (only_holds a (behind (in_exprs c) sc) g) (only_holds b (behind (in_exprs a) (behind (in_exprs c) sc)) g)))
      eval_holds (tree.Assign' op _ a _ b) sc g =
          bind (Wholly P G) G (only_target_holds a sc g) (λ t h. assign_to_holds P G set law texts op t sc _ h g (only_holds b (behind (in_exprs a) sc) g))
      eval_holds (tree.Update' op before _ a) sc g = bind (Wholly P G) G (only_target_holds a sc g) (λ t h. update_holds P G set law texts op before t sc h g)
      eval_holds (tree.Member' _ a word) sc g = bind (Wholly P G) G (only_holds a sc g) (λ v h. lift_holds P G (get_holds P G set.world law v (Word (utf16 word)) h))
      eval_holds (tree.Index' _ a _ k) sc g =
          bind (Wholly P G) G (only_holds a sc g) (λ v h. bind (Wholly P G) G (only_holds k (behind (in_exprs a) sc) g) (λ key i. lift_holds P G (get_holds P G set.world law v (Computed key) h)))
      eval_holds (tree.Call' _ f _ args) sc g =
          bind (Wholly P G) G (only_callee_holds f sc g) (λ c h. bind (Wholly P G) G (evals_hold args (behind (in_exprs f) sc) g) (λ values i.
          carries_holds P G enter_call calls (Good G) (invoke set.world c values) (invoke_holds P G set.world law c values h i)))
      eval_holds (tree.New' x _ args) sc g =
          bind (Wholly P G) G (read_name_holds P G set law texts x sc g) (λ c h. bind (Wholly P G) G (evals_hold args sc g) (λ values i. lift_holds P G (construct_holds P G set.world law c values i)))

      only_holds : {m : _} (row : tree.Row_of-Expr m) (sc : Scope) → GoodScope G sc → Holds (Wholly P G) G (Good G) (only set enter_call row sc)
      only_holds tree.end_of-Expr sc g = value_holds P G set law V.Undefined tt
      only_holds (tree.more_of-Expr a rest) sc g = eval_holds a sc g

      evals_hold : {m : _} (row : tree.Row_of-Expr m) (sc : Scope) → GoodScope G sc → Holds (Wholly P G) G (Each (Good G)) (evals set enter_call row sc)
      evals_hold tree.end_of-Expr sc g = pure_holds (Wholly P G) G (Each (Good G)) [] tt
      evals_hold (tree.more_of-Expr a rest) sc g =
          bind (Wholly P G) G (eval_holds a sc g) (λ v h. bind (Wholly P G) G (evals_hold rest (behind (in_expr a) sc) g) (λ vs i. pure_holds (Wholly P G) G (Each (Good G)) (v ∷ vs) (h, i)))

      pub maybe_holds : (o : tree.Held-DeclValue-Yield-0) (sc : Scope) → GoodScope G sc → Holds (Wholly P G) G (Good G) (maybe set enter_call o sc)
      maybe_holds tree.DeclValue-Yield-0-None' sc g = value_holds P G set law V.Undefined tt
      maybe_holds (tree.DeclValue-Yield-0-Some' a) sc g = eval_holds a sc g

      pub test_holds : (o : tree.Held-DeclValue-Yield-0) (sc : Scope) → GoodScope G sc → Holds (Wholly P G) G Any (test set enter_call o sc)
      test_holds tree.DeclValue-Yield-0-None' sc g = record { runs = λ s p. (p, tt) }
      test_holds (tree.DeclValue-Yield-0-Some' a) sc g = bind (Wholly P G) G (eval_holds a sc g) (λ v _. truth_holds v)

      only_target_holds : {m : _} (row : tree.Row_of-Expr m) (sc : Scope) → GoodScope G sc → Holds (Wholly P G) G (GoodTarget G) (only_target set enter_call row sc)
      only_target_holds tree.end_of-Expr sc g = throw_holds P G set law Target (GoodTarget G) T.CannotSet
      only_target_holds (tree.more_of-Expr a rest) sc g = target_holds a sc g

      target_holds : (a : Expr) (sc : Scope) → GoodScope G sc → Holds (Wholly P G) G (GoodTarget G) (target set enter_call a sc)
      target_holds (tree.Name x) sc g = pure_holds (Wholly P G) G (GoodTarget G) (Variable x) tt
      target_holds (tree.Member' _ a word) sc g = bind (Wholly P G) G (only_holds a sc g) (λ v h. pure_holds (Wholly P G) G (GoodTarget G) (Property v (Word (utf16 word))) h)
      target_holds (tree.Index' _ a _ k) sc g =
          bind (Wholly P G) G (only_holds a sc g) (λ v h. bind (Wholly P G) G (only_holds k (behind (in_exprs a) sc) g) (λ key i. pure_holds (Wholly P G) G (GoodTarget G) (Property v (Computed key)) h))
      target_holds _ sc g = throw_holds P G set law Target (GoodTarget G) T.CannotSet

      only_callee_holds : {m : _} (row : tree.Row_of-Expr m) (sc : Scope) → GoodScope G sc → Holds (Wholly P G) G (GoodCallee G) (only_callee set enter_call row sc)
      only_callee_holds tree.end_of-Expr sc g = pure_holds (Wholly P G) G (GoodCallee G) (Called V.Undefined) tt
      only_callee_holds (tree.more_of-Expr a rest) sc g = callee_holds (member_word a) (λ s. object_of set enter_call a sc s) (λ s. eval set enter_call a sc s) (object_holds a sc g) (eval_holds a sc g)

      object_holds : (a : Expr) (sc : Scope) → GoodScope G sc → Holds (Wholly P G) G (Good G) (object_of set enter_call a sc)
      object_holds (tree.Member' _ a word) sc g = only_holds a sc g
      object_holds _ sc g = value_holds P G set law V.Undefined tt

      set_prop_holds : (p : PropNode) (o : Value) (sc : Scope) → Good G o → GoodScope G sc → Holds (Wholly P G) G Any (set_prop set enter_call p o sc)
      set_prop_holds (tree.Short x) o sc h g = bind (Wholly P G) G (read_name_holds P G set law texts x sc g) (λ v i. lift_holds P G (set_holds P G set.world law o (Word (utf16 x)) v h i))
      set_prop_holds (tree.Fixed units a) o sc h g = bind (Wholly P G) G (eval_holds a sc g) (λ v i. lift_holds P G (set_holds P G set.world law o (Word units) v h i))
      set_prop_holds (tree.Computed k a) o sc h g =
          bind (Wholly P G) G (eval_holds k sc g) (λ key _. bind (Wholly P G) G (lift_holds P G (units_holds P G set.world law (Computed key))) (λ _ _.
          bind (Wholly P G) G (eval_holds a (behind (in_expr k) sc) g) (λ v i. lift_holds P G (set_holds P G set.world law o (Computed key) v h i))))

      set_props_hold : {m : _} (row : tree.Row_of-PropNode m) (o : Value) (sc : Scope) → Good G o → GoodScope G sc → Holds (Wholly P G) G Any (set_props set enter_call row o sc)
      set_props_hold tree.end_of-PropNode o sc h g = unit_holds P G set law
      set_props_hold (tree.more_of-PropNode p rest) o sc h g = bind (Wholly P G) G (set_prop_holds p o sc h g) (λ _ _. set_props_hold rest o (behind (in_prop p) sc) h g)

    -- ---- statements

    mutual
      pub exec_holds : (a : Stmt) (sc : Scope) → GoodScope G sc → Holds (Wholly P G) G (GoodFlow G) (exec set enter_call a sc)
      exec_holds (tree.Block' _ items) sc g = in_block_holds (declared items) items _ _ sc g (λ i _. unit_holds P G set law) (λ i h. run_holds items i h)
      exec_holds tree.Empty sc g = flow_holds Next tt
      exec_holds (tree.Stmt::Expr a) sc g = bind (Wholly P G) G (eval_holds a sc g) (λ _ _. flow_holds Next tt)
      exec_holds (tree.Stmt::Let' _ decls) sc g = declare_holds decls sc g
      exec_holds (tree.Stmt::Const' _ decls) sc g = declare_holds decls sc g
      exec_holds (tree.Stmt::Function' n ps f body) sc g = flow_holds Next tt
      exec_holds (tree.Stmt::Yield' None a) sc g = bind (Wholly P G) G (maybe_holds a sc g) (λ v h. flow_holds (Yielded v Ignored []) (h, tt, tt))
      exec_holds (tree.Stmt::Yield' (Some x) a) sc g = bind (Wholly P G) G (maybe_holds a sc g) (λ v h. flow_holds (Yielded v (Assigned x sc) []) (h, g, tt))
      exec_holds (tree.Change' x op a) sc g =
          bind (Wholly P G) G (maybe_holds a sc g) (λ v _. bind (Wholly P G) G (read_input_holds P G set law texts forms.Mutable x sc g) (λ holder _.
          bind (Wholly P G) G (lift_holds P G (change_holds P G set.world law holder op v)) (λ _ _. flow_holds Next tt)))
      exec_holds (tree.If' c _ a b) sc g =
          bind (Wholly P G) G (eval_holds c sc g) (λ v _. bind (Wholly P G) G (truth_holds v) (λ holds _.
          chosen (Wholly P G) G (GoodFlow G) holds _ _ (only_stmt_holds a (behind (in_expr c) sc) g) (otherwise_holds b (behind (in_stmts a) (behind (in_expr c) sc)) g)))
      exec_holds (tree.While' c _ (tree.more_of-Stmt a tree.end_of-Stmt)) sc g =
          loop_holds (WhileLoop c a) _ _ pure sc g (λ i h. h)
          (λ i h. bind (Wholly P G) G (eval_holds c i h) (λ v _. truth_holds v)) (λ i h. exec_holds a (behind (in_expr c) i) h) (λ i h. pure_holds (Wholly P G) G (GoodScope G) i h)
      exec_holds (tree.DoWhile' _ (tree.more_of-Stmt a tree.end_of-Stmt) c) sc g =
          bind (Wholly P G) G step (λ _ _. bind (Wholly P G) G (exec_holds a sc g) (λ f i. after_turn_holds f (DoLoop a c sc) _ i g
          (loop_holds (DoLoop a c) _ _ pure sc g (λ i h. h)
          (λ i h. bind (Wholly P G) G (eval_holds c (behind (in_stmt a) i) h) (λ v _. truth_holds v)) (λ i h. exec_holds a i h) (λ i h. pure_holds (Wholly P G) G (GoodScope G) i h))))
      exec_holds (tree.For' head t u _ (tree.more_of-Stmt a tree.end_of-Stmt)) sc g =
          bind (Wholly P G) G (enter_holds P G set law (head_names head) (for_extent head t u a) sc g) (λ h gh. bind (Wholly P G) G (start_holds head h gh) (λ _ _.
          bind (Wholly P G) G (copy_holds P G set law (copied_names head) (behind (in_head head) h) gh) (λ first gf.
          loop_holds (ForLoop (copied_names head) t u a) _ _ _ first gf (λ i h. h)
          (λ i h. test_holds t i h) (λ i h. exec_holds a (behind (in_maybe u) (behind (in_maybe t) i)) h)
          (λ i h. bind (Wholly P G) G (copy_holds P G set law (copied_names head) i h) (λ next k. bind (Wholly P G) G (maybe_holds u (behind (in_maybe t) next) k) (λ _ _.
          pure_holds (Wholly P G) G (GoodScope G) next k))))))
      exec_holds (tree.ForOf' k x e _ (tree.more_of-Stmt a tree.end_of-Stmt)) sc g =
          bind (Wholly P G) G (enter_holds P G set law (binding variable x ∷ []) (in_expr e) sc g) (λ h gh. bind (Wholly P G) G (eval_holds e h gh) (λ v gv.
          over_value_holds v k x a (behind (in_expr e) sc) _ gv g (λ i h. exec_holds a i h)))
      exec_holds tree.Break sc g = flow_holds Broke tt
      exec_holds tree.Continue sc g = flow_holds Continued tt
      exec_holds (tree.Return' a) sc g = bind (Wholly P G) G (maybe_holds a sc g) (λ v h. flow_holds (Returned v) h)
      exec_holds (tree.Throw a) sc g = bind (Wholly P G) G (eval_holds a sc g) (λ v h. record { runs = λ s p. (p, h) })
      exec_holds (tree.Try' _ items c f) sc g = record {
        runs = λ s p.
            finished_holds (Last f (behind (in_catch c) (behind (in_stmts items) sc))) _ _ g
            (caught_holds (Handler c (behind (in_stmts items) sc)) _ _ g
            ((in_block_holds (declared items) items (λ inner. pure tt) (λ inner. run set enter_call items inner) sc g (λ i _. unit_holds P G set law) (λ i h. run_holds items i h)).runs s p)
            (λ v h. handle_holds c (behind (in_stmts items) sc) v g h))
            (last_holds f (behind (in_catch c) (behind (in_stmts items) sc)) g);
      }

      only_stmt_holds : {m : _} (row : tree.Row_of-Stmt m) (sc : Scope) → GoodScope G sc → Holds (Wholly P G) G (GoodFlow G) (only_stmt set enter_call row sc)
      only_stmt_holds tree.end_of-Stmt sc g = flow_holds Next tt
      only_stmt_holds (tree.more_of-Stmt a rest) sc g = exec_holds a sc g

      otherwise_holds : (o : tree.Held-Stmt-If-2) (sc : Scope) → GoodScope G sc → Holds (Wholly P G) G (GoodFlow G) (otherwise set enter_call o sc)
      otherwise_holds tree.Stmt-If-2-None' sc g = flow_holds Next tt
      otherwise_holds (tree.Stmt-If-2-Some' _ a) sc g = only_stmt_holds a sc g

      pub run_holds : {m : _} (row : tree.Row_of-Stmt m) (sc : Scope) → GoodScope G sc → Holds (Wholly P G) G (GoodFlow G) (run set enter_call row sc)
      run_holds tree.end_of-Stmt sc g = flow_holds Next tt
      run_holds (tree.more_of-Stmt a rest) sc g =
          bind (Wholly P G) G (exec_holds a sc g) (λ f h. after_flow_holds f (Rest rest (behind (in_stmt a) sc)) _ h g (run_holds rest (behind (in_stmt a) sc) g))

      pub declare_holds : {m : _} (row : tree.Row_of-Decl m) (sc : Scope) → GoodScope G sc → Holds (Wholly P G) G (GoodFlow G) (declare set enter_call row sc)
      declare_holds tree.end_of-Decl sc g = flow_holds Next tt
      declare_holds (tree.more_of-Decl x tree.DeclValue::Nothing rest) sc g = bind (Wholly P G) G (first_name_holds P G set law texts x V.Undefined sc g tt) (λ _ _. declare_holds rest sc g)
      declare_holds (tree.more_of-Decl x (tree.DeclValue::Value a) rest) sc g =
          bind (Wholly P G) G (eval_holds a sc g) (λ v h. bind (Wholly P G) G (first_name_holds P G set law texts x v sc g h) (λ _ _. declare_holds rest (behind (in_expr a) sc) g))
      declare_holds (tree.more_of-Decl x (tree.DeclValue::Yield' a) rest) sc g =
          bind (Wholly P G) G (maybe_holds a sc g) (λ v h. flow_holds (Yielded v (Declared x sc) (MoreDecls rest (behind (in_maybe a) sc) ∷ [])) (h, g, (g, tt)))

      start_holds : (head : ForHead) (sc : Scope) → GoodScope G sc → Holds (Wholly P G) G Any (start set enter_call head sc)
      start_holds tree.ForHead::Nothing sc g = unit_holds P G set law
      start_holds (tree.ForHead::Let' _ decls) sc g = declare_all_holds decls sc g
      start_holds (tree.ForHead::Const' _ decls) sc g = declare_all_holds decls sc g
      start_holds (tree.ForHead::Expr a) sc g = bind (Wholly P G) G (eval_holds a sc g) (λ _ _. unit_holds P G set law)

      declare_all_holds : {m : _} (row : tree.Row_of-Decl m) (sc : Scope) → GoodScope G sc → Holds (Wholly P G) G Any (declare_all set enter_call row sc)
      declare_all_holds tree.end_of-Decl sc g = unit_holds P G set law
      declare_all_holds (tree.more_of-Decl x a rest) sc g =
          bind (Wholly P G) G (value_of_holds a sc g) (λ v h. bind (Wholly P G) G (first_name_holds P G set law texts x v sc g h) (λ _ _. declare_all_holds rest (behind (in_value a) sc) g))

      value_of_holds : (a : DeclValue) (sc : Scope) → GoodScope G sc → Holds (Wholly P G) G (Good G) (value_of set enter_call a sc)
      value_of_holds tree.DeclValue::Nothing sc g = value_holds P G set law V.Undefined tt
      value_of_holds (tree.DeclValue::Value a) sc g = eval_holds a sc g
      value_of_holds (tree.DeclValue::Yield' a) sc g = maybe_holds a sc g

      pub handle_holds : (c : tree.Held-Stmt-Try-1) (sc : Scope) (v : Value) → GoodScope G sc → Good G v → Holds (Wholly P G) G (GoodFlow G) (handle set enter_call c sc v)
      handle_holds tree.Stmt-Try-1-None' sc v g h = record { runs = λ s p. (p, h) }
      handle_holds (tree.Stmt-Try-1-Some' None _ items) sc v g h = in_block_holds (declared items) items _ _ sc g (λ i _. unit_holds P G set law) (λ i k. run_holds items i k)
      handle_holds (tree.Stmt-Try-1-Some' (Some x) _ items) sc v g h =
          in_block_holds (binding variable x ∷ declared items) items _ _ sc g (λ i k. first_name_holds P G set law texts x v i k h) (λ i k. run_holds items i k)

      pub last_holds : (f : tree.Held-Stmt-Try-2) (sc : Scope) → GoodScope G sc → Holds (Wholly P G) G (GoodFlow G) (last set enter_call f sc)
      last_holds tree.Stmt-Try-2-None' sc g = flow_holds Next tt
      last_holds (tree.Stmt-Try-2-Some' _ items) sc g = in_block_holds (declared items) items _ _ sc g (λ i _. unit_holds P G set law) (λ i k. run_holds items i k)
