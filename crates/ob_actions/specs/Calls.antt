-- Calls: of functions of a text, of builtins, of methods and of host functions (ECMA-262, "Function Calls" and "The new Operator", in this
-- project's profile).
use Rattle.std.specs.Prelude.{ℕ, ◌==◌, nat_lt, true, List, [], ◌∷◌, length, Option, Some, None, slice_get, codes, if◌then◌else◌}
use Rattle.std.specs.Option.{option_map_or, option_map}
use Rattle.ob_items.specs.Bodies.{kind_of}
use Rattle.ob_items.specs.Properties.{Keyed, only_named}
use Rattle.ob_items.specs.declared.frame.Taken.{Taken}
use Rattle.ob_items.specs.declared.frame.Taken.TheVariants as K
use Rattle.ob_items.specs.declared.item.Body.{Body}
use Rattle.ob_items.specs.declared.item.Body.TheVariants as B
use Rattle.ob_items.specs.declared.thrown.Thrown.TheVariants as T
use Rattle.ob_items.specs.declared.value.Ref.{Ref}
use Rattle.ob_items.specs.declared.value.Value.{Value}
use Rattle.ob_items.specs.declared.value.Value.TheVariants as V
use Rattle.ob_values.specs.BuiltinNames.{method_number}
use Rattle.ob_values.specs.Builtins.{method_call, function_call}
use Rattle.ob_values.specs.Effects.{argument}
use Rattle.ob_values.specs.Store.{Store, body_of, is_frozen}
use Rattle.ob_actions.specs.Act.{Go, Act, ◌>>=◌, pure}
use Rattle.ob_actions.specs.Core.{Core}
use Rattle.ob_actions.specs.FunctionValues.{Carrier, OneAction, Log, Next, Then, ThePrelude, Host, function_carrier, method_carrier, is_constructor}
use Rattle.ob_actions.specs.Generators.{kept_in}
use Rattle.ob_actions.specs.Hosts.{host_call}
use Rattle.ob_actions.specs.Meters.{takes_step, makes, throws, done_or}
use Rattle.ob_actions.specs.Output.{log, then_call}
use Rattle.ob_actions.specs.Properties.{Word, get_property}
use Rattle.ob_actions.specs.Requests.{Closure, Prelude, Resume, Reply, Ends, Asks, Planned, at_once, asks_value, plan_after, plan_then}
use Rattle.ob_actions.specs.World.{World}

-- ---- what is called

-- a value, or the method of a number with its receiver
pub data Callee : Type 0 where
  Called : Value → Callee
  Method : Ref → ℕ → Callee

-- the method of that name that a text, an array, a generator object or an invalidation object has
abbrev pub method_at : Store → Value → List ℕ → Option Callee
method_at s (V.Ref r) word = option_map_or (λ body. option_map (Method r) (method_number (kind_of body) word)) (body_of s r) None
method_at s v word = None

-- what the texts of the prelude are handed: the array, the function, and for `reduce` the first value and whether it was given
abbrev pub prelude_args : ℕ → Ref → List Value → List Value
prelude_args k r args =
    V.Ref r ∷ argument args 0
    ∷ (if k == 5 then argument args 1 ∷ V.Bool (nat_lt 1 (length args)) ∷ [] else [])

-- `{value, done}`, what `next` gives
abbrev pub next_result : Reply → Keyed
next_result reply = only_named ((codes "value", reply.value) ∷ (codes "done", V.Bool reply.ended) ∷ [])

module _ (world : World) where
  abbrev pub method_or_property : Option Callee → Value → List ℕ → Act Core Callee
  method_or_property (Some m) v word = pure m
  method_or_property None v word = get_property world v (Word word) >>= (λ f. pure (Called f))

  -- `a.m` before a call: the method of that name, else the property
  abbrev pub member_callee : Value → List ℕ → Act Core Callee
  member_callee v word s = method_or_property (method_at s.store v word) v word s

  -- ---- generator objects

  abbrev pub pull_kept : Ref → Value → Option Taken → Planned Reply
  pull_kept r v (Some K.Runs) s = Ends (throws world T.GeneratorRunning s)
  pull_kept r v (Some (K.Held frame)) s = Asks (Resume r v) s (λ reply t. Go reply t)
  pull_kept r v _ s = Ends (Go (record { value = V.Undefined; ended = true }) s)

  -- a pull sends a value: a frozen object throws, also where it has ended; one that has ended gives undefined and takes no step
  abbrev pub pull : Ref → Value → Planned Reply
  pull r v s = if is_frozen s.store r then Ends (throws world T.Frozen s) else pull_kept r v (kept_in s r) s

  abbrev pub next_object : Reply → Act Core Value
  next_object reply = makes world (B.Object (next_result reply)) 3 >>= (λ o. pure (V.Ref o))

  -- `next(v)`
  abbrev pub next_call : Ref → Value → Planned Value
  next_call r v s = plan_then (pull r v s) next_object

  -- ---- calls by number: the call's own step is an action of its own

  abbrev pub after_step : Act Core Value → Planned Value
  after_step m = at_once (takes_step world >>= (λ _. m))

  abbrev pub simple_method : Ref → ℕ → List Value → Act Core Value
  simple_method r n args s = done_or world T.NotAFunction (method_call s.store world.region n r args) s

  abbrev pub method_by : Carrier → Ref → ℕ → List Value → Planned Value
  method_by (ThePrelude k) r n args = asks_value (Prelude k (prelude_args k r args))
  method_by Next r n args = λ s. plan_after (takes_step world s) (λ _. next_call r (argument args 0))
  method_by Then r n args = after_step (then_call world r (argument args 0))
  method_by _ r n args = after_step (simple_method r n args)

  abbrev pub simple_function : ℕ → List Value → Act Core Value
  simple_function n args s = done_or world T.NotAFunction (function_call s.store world.region n args) s

  abbrev pub function_by : Carrier → ℕ → List Value → Planned Value
  function_by OneAction n args = after_step (simple_function n args)
  function_by Log n args = after_step (log world (argument args 0))
  function_by (ThePrelude k) n args = asks_value (Prelude k (argument args 0 ∷ argument args 1 ∷ []))
  function_by (Host k) n args = at_once (host_call world (slice_get world.hosts k) args)
  function_by _ n args = at_once (throws world T.NotAFunction)

  -- ---- calls

  abbrev pub call_item : Ref → Option Body → List Value → Planned Value
  call_item r (Some (B.Closure c)) args = asks_value (Closure r args)
  call_item r _ args = at_once (throws world T.NotAFunction)

  -- the test that a value is a function comes after the arguments
  abbrev pub call_value : Value → List Value → Planned Value
  call_value (V.Ref r) args s = call_item r (body_of s.store r) args s
  call_value (V.Builtin n) args s = function_by (function_carrier n) n args s
  call_value v args s = Ends (throws world T.NotAFunction s)

  abbrev pub invoke : Callee → List Value → Planned Value
  invoke (Called v) args = call_value v args
  invoke (Method r n) args = method_by (method_carrier n) r n args

  -- `new`, of the three errors alone
  abbrev pub construct : Value → List Value → Act Core Value
  construct (V.Builtin n) args =
      if is_constructor n then takes_step world >>= (λ _. simple_function n args) else throws world T.NotAConstructor
  construct v args = throws world T.NotAConstructor
