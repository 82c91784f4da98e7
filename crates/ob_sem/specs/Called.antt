-- How functions are called, and requests by the calls that may still be open (ECMA-262, "OrdinaryCallEvaluateBody",
-- "FunctionDeclarationInstantiation" and "EvaluateGeneratorBody", in this project's profile).
use Rattle.std.specs.Prelude.{ℕ, zero, suc, ◌+◌, Bool, true, false, List, [], ◌∷◌, Option, Some, None}
use Rattle.ob_base.specs.declared.limits.Limit.TheVariants as limit
use Rattle.ob_items.specs.Bodies.{closure_of}
use Rattle.ob_items.specs.declared.item.Closure.{Closure as Kept}
use Rattle.ob_items.specs.declared.thrown.Thrown.TheVariants as T
use Rattle.ob_items.specs.declared.value.Value.{Value}
use Rattle.ob_items.specs.declared.value.Value.TheVariants as V
use Rattle.ob_tree_types.specs.declared.tree.DeclValue.TheBlock as tree
use Rattle.ob_tree_types.specs.declared.tree.FnBody.{FnBody}
use Rattle.ob_tree_types.specs.declared.tree.Function.{Function}
use Rattle.ob_values.specs.Store.{read_item}
use Rattle.ob_actions.specs.Act.{Act, ◌>>=◌, pure, refuse, asks, updates}
use Rattle.ob_actions.specs.Meters.{takes_step, throws}
use Rattle.ob_actions.specs.NewItems.{blank_frame, new_generator}
use Rattle.ob_actions.specs.Requests.{Request, Closure, Prelude, Resume, Reply}
use Rattle.ob_actions.specs.World.{World}
use Rattle.ob_sem.specs.Bindings.{enter, set_params}
use Rattle.ob_tree.specs.Captures.{captures_of}
use Rattle.ob_sem.specs.Captures.{kept_bindings}
use Rattle.ob_tree.specs.Declarations.{own_bindings}
use Rattle.ob_sem.specs.Evaluation.{eval, run, set_functions}
use Rattle.ob_sem.specs.Flows.{result_of}
use Rattle.ob_tree.specs.Functions.{Located, in_body}
use Rattle.ob_sem.specs.Pending.{Rest, Ignored, Suspended}
use Rattle.ob_sem.specs.Resumption.{reply_of, resume}
use Rattle.ob_sem.specs.Scope.{Scope}
use Rattle.ob_sem.specs.Setting.{Setting, function_at}
use Rattle.ob_sem.specs.Whole.{Whole, Caller, suspends, lift, in_call}

-- ---- generator functions

-- a body that will run in this scope
abbrev pub unbegun : {m : _} → tree.Row_of-Stmt m → Scope → List (Option Value) → Suspended
unbegun items sc locals =
    record { taker = Ignored; frames = Rest items sc ∷ []; locals = locals; code = sc.code; inputs = sc.inputs }

-- a call of a generator function gives a generator object
abbrev pub begin_generator : {m : _} → World → tree.Row_of-Stmt m → Scope → Act Whole Value
begin_generator world items sc =
    asks (λ s. s.core.locals) >>= (λ locals. lift (new_generator world (blank_frame sc.code sc.inputs)) >>= (λ r.
    updates (suspends r (unbegun items sc locals)) >>= (λ _. pure (V.Ref r))))

-- ---- the scope in which a function is called

abbrev pub function_scope : Kept → Located → Scope
function_scope c l = record {
  code = c.code.code;
  next = c.code.function + 1;
  names = kept_bindings c.inputs (captures_of l) c.boxes;
  size = 0;
  inputs = c.inputs;
  invalidation = c.invalidation;
}

-- a text of the prelude is called as a function that keeps nothing; no array of inputs stands for it
abbrev pub prelude_function : World → ℕ → Kept
prelude_function world code = record {
  code = record { code = code; function = 0 };
  boxes = [];
  inputs = record { region = world.region; item = 0 };
  invalidation = None;
}

module _ (set : Setting) (enter_call : Caller) where
  -- ---- bodies

  abbrev pub start_body : {m : _} → Bool → tree.Row_of-Stmt m → Scope → Act Whole Value
  start_body false items sc = run set enter_call items sc >>= (λ f. pure (result_of f))
  start_body true items sc = begin_generator set.world items sc

  abbrev pub run_body : Bool → FnBody → Scope → Act Whole Value
  run_body g (tree.Items' _ items) sc = set_functions set items sc >>= (λ _. start_body g items sc)
  run_body g (tree.FnBody::Value' _ (tree.more_of-Expr a tree.end_of-Expr)) sc = eval set enter_call a sc

  -- the body of a function on these arguments, in a scope of what it captured; its parameters and the declarations of its block are one scope
  abbrev pub call_body : Function → List Value → Scope → Act Whole Value
  call_body f args sc =
      enter set (own_bindings f.params f.body) (in_body f.body) sc >>= (λ inner.
      set_params set f.params args inner >>= (λ _. run_body f.generator f.body inner))

  -- ---- function values

  abbrev pub call_located : Kept → Option Located → List Value → Act Whole Value
  call_located c None args = lift (throws set.world T.NotAFunction)
  call_located c (Some l) args = in_call [] (call_body l.function args (function_scope c l))

  abbrev pub call_function : Kept → List Value → Act Whole Value
  call_function c args = call_located c (function_at set c.code) args

  abbrev pub call_kept : Option Kept → List Value → Act Whole Value
  call_kept None args = lift (throws set.world T.NotAFunction)
  call_kept (Some c) args = call_function c args

  -- ---- what a request does, once its step is charged

  abbrev pub carried_out : Request → Act Whole Reply
  carried_out (Closure r args) s = (call_kept (read_item closure_of s.core.store r) args >>= (λ v. pure (reply_of false v))) s
  carried_out (Prelude code args) s = (call_function (prelude_function set.world code) args >>= (λ v. pure (reply_of false v))) s
  carried_out (Resume r v) s = resume set enter_call r v s

module _ (set : Setting) where
  -- requests where so many calls more may be open: the test of depth comes first, then the step
  abbrev pub call_to : ℕ → Caller
  call_to zero request = refuse limit.Calls
  call_to (suc depth) request = lift (takes_step set.world) >>= (λ _. carried_out set (call_to depth) request)
