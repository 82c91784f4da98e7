-- What the properties, the output, generator objects and calls keep.
use Rattle.std.proofs.Common.{◌≡◌, ℕ, ◌==◌, pos, ℤ, Bool, true, false, List, [], ◌∷◌, length, Option, Some, None, Result, Ok, Err, slice_get, unwrap_or, codes, nat_lt, bytes_eq, if◌then◌else◌, refl}
use Rattle.std.specs.Option.{option_map_or}
use Rattle.ob_base.specs.PlainData.{elements}
use Rattle.ob_base.specs.declared.operators.ChangeOp.{ChangeOp}
use Rattle.ob_base.specs.declared.plain.Plain.{Plain}
use Rattle.ob_hosts.specs.Entry.{HostEntry}
use Rattle.ob_hosts.specs.Value.{host_value}
use Rattle.ob_items.specs.IndexText.{index_in}
use Rattle.ob_items.specs.Properties.{Keyed, property}
use Rattle.ob_items.specs.declared.error.PlainError.{PlainError}
use Rattle.ob_items.specs.declared.error.PlainError.TheVariants as E
use Rattle.ob_items.specs.declared.frame.Taken.{Taken}
use Rattle.ob_items.specs.declared.frame.Taken.TheVariants as K
use Rattle.ob_items.specs.declared.item.Body.{Body}
use Rattle.ob_items.specs.declared.item.Body.TheVariants as B
use Rattle.ob_items.specs.declared.thrown.Thrown.TheVariants as T
use Rattle.ob_items.specs.declared.value.Ref.{Ref}
use Rattle.ob_items.specs.declared.value.Value.{Value}
use Rattle.ob_items.specs.declared.value.Value.TheVariants as V
use Rattle.ob_values.specs.BuiltinNames.{property_number}
use Rattle.ob_values.specs.Effects.{argument, number_of}
use Rattle.ob_values.specs.Inspect.{inspect_text, error_name}
use Rattle.ob_values.specs.ObjectFunctions.{key_in}
use Rattle.ob_values.specs.PlainOf.{plain_result}
use Rattle.ob_values.specs.Store.{body_of, is_frozen, text_cost}
use Rattle.ob_actions.specs.Act.{Out, Go, Threw, Refused, Act, then_with, ◌>>=◌, pure, updates}
use Rattle.ob_actions.specs.Calls.{Callee, Called, Method, method_at, method_or_property, member_callee, prelude_args, pull_kept, pull, next_object, next_call, after_step, method_by, simple_function, function_by, call_item, call_value, invoke, construct}
use Rattle.ob_actions.specs.Core.{Core, with_log}
use Rattle.ob_actions.specs.FunctionValues.{Carrier, OneAction, Log, Next, Then, ThePrelude, Host, function_carrier, method_carrier, is_constructor}
use Rattle.ob_actions.specs.Generators.{kept_in, end_kept, end_left, leave_kept, leave}
use Rattle.ob_actions.specs.Hosts.{second_number, host_result, host_on, host_call}
use Rattle.ob_actions.specs.Meters.{takes_step, literal_value, throws}
use Rattle.ob_actions.specs.Output.{log, holder_of, change_by, change}
use Rattle.ob_actions.specs.Properties.{Key, Word, Computed, indexed, units_of_key, unit_text, array_property, item_property, property_at, get_property, put_property, set_element, set_item, set_property}
use Rattle.ob_actions.specs.Requests.{Request, Closure, Prelude, Reply, Plan, Ends, Asks, Planned, plan_after, plan_then, at_once, reply_value}
use Rattle.ob_actions.specs.World.{World}
use Rattle.ob_actions.proofs.Holds.{Any, After, Holds, then_holds, bind, pure_holds, either}
use Rattle.ob_actions.proofs.Kept.{GoodCallee, GoodReply, Law, good_or, good_there, good_property, good_array_property, callee_good, value_of, makes_holds, step_holds, literal_value_holds, throws_holds}
use Rattle.ob_actions.specs.Within.{Each, Good, GoodBody, GoodRequest, IfThere}

-- what a plan keeps
abbrev pub AfterPlan : {A : Type 0} → (Core → Type 0) → (Ref → Type 0) → (A → Type 0) → Plan A → Type 0
AfterPlan P G R (Ends o) = After P G R o
AfterPlan P G R (Asks request s k) = P s × GoodRequest G request × ((reply : Reply) → GoodReply G reply → Holds P G R (k reply))

pub record Plans {A : Type 0} (P : Core → Type 0) (G : Ref → Type 0) (R : A → Type 0) (m : Planned A) : Type 0 where
  pub runs : (s : Core) → P s → AfterPlan P G R (m s)

module _ (P : Core → Type 0) (G : Ref → Type 0) (world : World) (law : Law P G world) where
  throw_value : (t : _) → Holds P G (Good G) (throws world t)
  throw_value t = throws_holds P G world law Value (Good G) t

  throw_unit : (t : _) → Holds P G Any (throws world {A = Unit {0}} t)
  throw_unit t = throws_holds P G world law (Unit {0}) Any t

  value_holds : (v : Value) → Good G v → Holds P G (Good G) (pure v)
  value_holds v g = pure_holds P G (Good G) v g

  -- ---- properties

  units_by : (o : Option (List ℕ)) (s : Core) → P s → After P G Any (option_map_or (λ units. Go units s) o (throws world T.BadKey s))
  units_by None s h = (throws_holds P G world law (List ℕ) Any T.BadKey).runs s h
  units_by (Some units) s h = (h, tt)

  pub units_holds : (k : Key) → Holds P G Any (units_of_key world k)
  units_holds (Word units) = record { runs = λ s h. (h, tt) }
  units_holds (Computed v) = record { runs = λ s h. units_by (key_in s.store v) s h }

  unit_holds : (o : Option ℕ) → Holds P G (Good G) (unit_text world o)
  unit_holds None = value_holds V.Undefined tt
  unit_holds (Some u) = bind P G (makes_holds P G world law (B.Text (u ∷ [])) 1 tt) (λ r g. value_holds (V.Ref r) g)

  item_property_holds : (o : Option Body) → IfThere (GoodBody G) o → (key : List ℕ) → Holds P G (Good G) (item_property world o key)
  item_property_holds None g key = value_holds V.Undefined tt
  item_property_holds (Some (B.Text units)) g key =
      either P G (Good G) (bytes_eq key (codes "length")) (pure (V.Int (pos (length units)))) (unit_text world (indexed units key))
      (value_holds (V.Int (pos (length units))) tt) (unit_holds (indexed units key))
  item_property_holds (Some (B.Array values)) g key =
      value_holds (array_property world values key)
      (value_of G (bytes_eq key (codes "length")) (V.Int (pos (length values))) (unwrap_or (indexed values key) V.Undefined) tt (good_array_property G values key (index_in key) g))
  item_property_holds (Some (B.Object properties)) g key =
      value_holds (unwrap_or (property properties key) V.Undefined) (good_there G (property properties key) (good_property G properties key g))
  item_property_holds (Some (B.Error kind message)) g key =
      either P G (Good G) (bytes_eq key (codes "name")) (literal_value world (error_name kind)) (if bytes_eq key (codes "message") then pure (V.Ref message) else pure V.Undefined)
      (literal_value_holds P G world law (error_name kind))
      (either P G (Good G) (bytes_eq key (codes "message")) (pure (V.Ref message)) (pure V.Undefined) (value_holds (V.Ref message) g) (value_holds V.Undefined tt))
  item_property_holds (Some _) g key = value_holds V.Undefined tt

  builtin_good : (o : Option ℕ) → Good G (option_map_or (λ k. V.Builtin k) o V.Undefined)
  builtin_good None = tt
  builtin_good (Some k) = tt

  property_at_holds : (v : Value) (key : List ℕ) → Good G v → Holds P G (Good G) (property_at world v key)
  property_at_holds (V.Ref r) key g = record { runs = λ s h. (item_property_holds (body_of s.store r) (law.inside s h r g) key).runs s h }
  property_at_holds (V.Builtin n) key g = record { runs = λ s h. (h, builtin_good (property_number n key)) }
  property_at_holds _ key g = record { runs = λ s h. (h, tt) }

  pub get_holds : (v : Value) (k : Key) → Good G v → Holds P G (Good G) (get_property world v k)
  get_holds V.Undefined k g = throw_value T.NoProperty
  get_holds V.Null k g = throw_value T.NoProperty
  get_holds v k g = bind P G (units_holds k) (λ key _. property_at_holds v key g)

  element_holds : (r : Ref) (values : List Value) (o : Option ℕ) (v : Value) (s : Core) → P s → G r → Good G v → body_of s.store r ≡ Some (B.Array values)
      → After P G Any (set_element world r (length values) o v s)
  element_holds r values None v s h g good e = (throw_unit T.CannotSet).runs s h
  element_holds r values (Some i) v s h g good e = law.elements r values i v s h g good e

  item_by : (r : Ref) (values : List Value) (o : Option (List ℕ)) (v : Value) (s : Core) → P s → G r → Good G v → body_of s.store r ≡ Some (B.Array values)
      → After P G Any (then_with (option_map_or (λ units. Go units s) o (throws world T.BadKey s)) (λ key. set_element world r (length values) (index_in key) v))
  item_by r values None v s h g good e =
      then_holds P G (λ _. ⊥) Any (throws world T.BadKey s) _ ((throws_holds P G world law (List ℕ) (λ _. ⊥) T.BadKey).runs s h) (λ key no. absurd no)
  item_by r values (Some units) v s h g good e = element_holds r values (index_in units) v s h g good e

  property_by : (r : Ref) (properties : Keyed) (o : Option (List ℕ)) (v : Value) (s : Core) → P s → G r → Good G v → body_of s.store r ≡ Some (B.Object properties)
      → After P G Any (then_with (option_map_or (λ units. Go units s) o (throws world T.BadKey s)) (λ key. put_property world r key v))
  property_by r properties None v s h g good e =
      then_holds P G (λ _. ⊥) Any (throws world T.BadKey s) _ ((throws_holds P G world law (List ℕ) (λ _. ⊥) T.BadKey).runs s h) (λ key no. absurd no)
  property_by r properties (Some units) v s h g good e = law.properties r properties units v s h g good e

  item_written : (r : Ref) (o : Option Body) (k : Key) (v : Value) (s : Core) → P s → G r → Good G v → body_of s.store r ≡ o → After P G Any (set_item world r o k v s)
  unfolding ◌>>=◌
  item_written r None k v s h g good e = (throw_unit T.CannotSet).runs s h
  item_written r (Some (B.Array values)) (Word units) v s h g good e = element_holds r values (index_in units) v s h g good e
  item_written r (Some (B.Array values)) (Computed key) v s h g good e = item_by r values (key_in s.store key) v s h g good e
  item_written r (Some (B.Object properties)) (Word units) v s h g good e = law.properties r properties units v s h g good e
  item_written r (Some (B.Object properties)) (Computed key) v s h g good e = property_by r properties (key_in s.store key) v s h g good e
  item_written r (Some _) k v s h g good e = (throw_unit T.CannotSet).runs s h

  pub set_holds : (a : Value) (k : Key) (v : Value) → Good G a → Good G v → Holds P G Any (set_property world a k v)
  set_holds (V.Ref r) k v g good = record { runs = λ s h. item_written r (body_of s.store r) k v s h g good refl }
  set_holds _ k v g good = record { runs = λ s h. (throw_unit T.CannotSet).runs s h }

  -- ---- hosts and output

  host_result_holds : (o : Option ℤ) → Holds P G (Good G) (host_result world o)
  host_result_holds None = throw_value T.DivisionByZero
  host_result_holds (Some n) = value_holds (V.Int n) tt

  host_on_holds : (host : HostEntry) (a b : Option ℤ) → Holds P G (Good G) (host_on world host a b)
  host_on_holds host (Some a) (Some b) = host_result_holds (host_value host.code a b)
  host_on_holds host _ _ = throw_value T.BadArgument

  host_call_holds : (o : Option HostEntry) (args : List Value) → Holds P G (Good G) (host_call world o args)
  host_call_holds None args = throw_value T.NotAFunction
  host_call_holds (Some host) args = bind P G (step_holds P G world law) (λ _ _. host_on_holds host (number_of (argument args 0)) (second_number host args))

  log_holds : (v : Value) → Holds P G (Good G) (log world v)
  log_holds v = record {
    runs = λ s h. (bind P G (law.counts (text_cost (length (inspect_text s.store v)))) (λ _ _.
        bind P G {R = Any} {j = updates (with_log (inspect_text s.store v))} (record { runs = λ t k. (law.logs (inspect_text s.store v) t k, tt) }) (λ _ _. value_holds V.Undefined tt))).runs s h;
  }

  change_by_holds : (n : ℕ) (op : ChangeOp) (o : Result Plain PlainError) → Holds P G Any (change_by world n op o)
  change_by_holds n op (Ok p) = bind P G (law.counts (elements p)) (λ _ _. record { runs = λ s h. (law.effects (record { holder = n; op = op; value = p }) s h, tt) })
  change_by_holds n op (Err E.NotPlain) = throw_unit T.NotPlain
  change_by_holds n op (Err E.HeapFull) = record { runs = λ s h. h }
  change_by_holds n op (Err E.NoMemory) = throw_unit T.NotPlain

  pub change_holds : (holder : Value) (op : ChangeOp) (v : Value) → Holds P G Any (change world holder op v)
  change_holds holder op v = record { runs = λ s h. (change_by_holds (holder_of holder) op (plain_result s.store v)).runs s h }

  -- ---- generator objects

  end_kept_holds : (r : Ref) (o : Option Taken) (s : Core) → G r → P s → P (end_kept r o s)
  end_kept_holds r (Some (K.Held frame)) s g h = law.keeps r K.Ended s g h
  end_kept_holds r _ s g h = h

  pub end_holds : (r : Ref) (s : Core) → G r → P s → P (end_left r s)
  end_holds r s g h = end_kept_holds r (kept_in s r) s g h

  leave_kept_holds : (r : Ref) (o : Option Taken) → G r → Holds P G Any (leave_kept world r o)
  leave_kept_holds r (Some K.Runs) g = throw_unit T.GeneratorRunning
  leave_kept_holds r _ g = record { runs = λ s h. (end_holds r s g h, tt) }

  pub leave_holds : (r : Ref) → G r → Holds P G Any (leave world r)
  leave_holds r g = record { runs = λ s h. (leave_kept_holds r (kept_in s r) g).runs s h }

  -- ---- plans

  pub at_once_holds : {A : Type 0} (R : A → Type 0) (m : Act Core A) → Holds P G R m → Plans P G R (at_once m)
  at_once_holds R m f = record { runs = λ s h. f.runs s h }

  asked : (request : Request) → GoodRequest G request → Plans P G (Good G) (λ s. Asks request s reply_value)
  asked request g = record { runs = λ s h. (h, g, (λ reply k. record { runs = λ t i. (i, k) })) }

  after_holds : {A B : Type 0} (R : A → Type 0) (Q : B → Type 0) (o : Out Core A) (k : A → Planned B) → After P G R o → ((a : A) → R a → Plans P G Q (k a)) → AfterPlan P G Q (plan_after o k)
  after_holds R Q (Go a s) k h f = (f a h.1).runs s h.0
  after_holds R Q (Threw v s) k h f = h
  after_holds R Q (Refused l s) k h f = h

  plan_holds : {A B : Type 0} (R : A → Type 0) (Q : B → Type 0) (plan : Plan A) (k : A → Act Core B) → AfterPlan P G R plan → ((a : A) → R a → Holds P G Q (k a)) → AfterPlan P G Q (plan_then plan k)
  plan_holds R Q (Ends o) k h f = then_holds P G R Q o k h f
  plan_holds R Q (Asks request s j) k h f = (h.0, h.1, (λ reply g. record { runs = λ t i. then_holds P G R Q (j reply t) k ((h.2 reply g).runs t i) f }))

  choice_plan : {A : Type 0} (R : A → Type 0) (b : Bool) (x y : Plan A) → AfterPlan P G R x → AfterPlan P G R y → AfterPlan P G R (if b then x else y)
  choice_plan R true x y f g = f
  choice_plan R false x y f g = g

  pull_kept_holds : (r : Ref) (v : Value) (o : Option Taken) → G r → Good G v → Plans P G (GoodReply G) (pull_kept world r v o)
  pull_kept_holds r v (Some K.Runs) g good = record { runs = λ s h. (throws_holds P G world law Reply (GoodReply G) T.GeneratorRunning).runs s h }
  pull_kept_holds r v (Some (K.Held frame)) g good = record { runs = λ s h. (h, (g, good), (λ reply k. record { runs = λ t i. (i, k) })) }
  pull_kept_holds r v _ g good = record { runs = λ s h. (h, tt) }

  pub pull_holds : (r : Ref) (v : Value) → G r → Good G v → Plans P G (GoodReply G) (pull world r v)
  pull_holds r v g good = record {
    runs = λ s h.
        choice_plan (GoodReply G) (is_frozen s.store r) _ _ ((throws_holds P G world law Reply (GoodReply G) T.Frozen).runs s h) ((pull_kept_holds r v (kept_in s r) g good).runs s h);
  }

  next_object_holds : (reply : Reply) → GoodReply G reply → Holds P G (Good G) (next_object world reply)
  next_object_holds reply g = bind P G (makes_holds P G world law _ 3 (g, (tt, tt))) (λ r k. value_holds (V.Ref r) k)

  next_holds : (r : Ref) (v : Value) → G r → Good G v → Plans P G (Good G) (next_call world r v)
  next_holds r v g good = record { runs = λ s h. plan_holds (GoodReply G) (Good G) (pull world r v s) (next_object world) ((pull_holds r v g good).runs s h) next_object_holds }

  -- ---- calls

  after_step_holds : (m : Act Core Value) → Holds P G (Good G) m → Plans P G (Good G) (after_step world m)
  after_step_holds m f = at_once_holds (Good G) _ (bind P G (step_holds P G world law) (λ _ _. f))

  good_argument : (args : List Value) (i : ℕ) → Each (Good G) args → Good G (argument args i)
  good_argument args i h = good_or G args i h

  good_more : (b : Bool) (v w : Value) → Good G v → Good G w → Each (Good G) (if b then v ∷ w ∷ [] else [])
  good_more true v w g h = (g, (h, tt))
  good_more false v w g h = tt

  prelude_good : (k : ℕ) (r : Ref) (args : List Value) → G r → Each (Good G) args → Each (Good G) (prelude_args k r args)
  prelude_good k r args g h = (g, (good_argument args 0 h, good_more (k == 5) (argument args 1) (V.Bool (nat_lt 1 (length args))) (good_argument args 1 h) tt))

  method_holds : (c : Carrier) (r : Ref) (n : ℕ) (args : List Value) → G r → Each (Good G) args → Plans P G (Good G) (method_by world c r n args)
  method_holds (ThePrelude k) r n args g h = asked (Prelude k (prelude_args k r args)) (prelude_good k r args g h)
  method_holds Next r n args g h = record {
    runs = λ s i.
        after_holds Any (Good G) (takes_step world s) (λ _. next_call world r (argument args 0)) ((step_holds P G world law).runs s i) (λ _ _. next_holds r (argument args 0) g (good_argument args 0 h));
  }
  method_holds Then r n args g h = after_step_holds _ (law.thens r (argument args 0) g (good_argument args 0 h))
  method_holds _ r n args g h = after_step_holds _ (law.methods r n args g h)

  function_holds : (c : Carrier) (n : ℕ) (args : List Value) → Each (Good G) args → Plans P G (Good G) (function_by world c n args)
  function_holds OneAction n args h = after_step_holds _ (law.functions n args h)
  function_holds Log n args h = after_step_holds _ (log_holds (argument args 0))
  function_holds (ThePrelude k) n args h = asked (Prelude k (argument args 0 ∷ argument args 1 ∷ [])) (good_argument args 0 h, (good_argument args 1 h, tt))
  function_holds (Host k) n args h = at_once_holds (Good G) _ (host_call_holds (slice_get world.hosts k) args)
  function_holds _ n args h = at_once_holds (Good G) _ (throw_value T.NotAFunction)

  call_item_holds : (r : Ref) (o : Option Body) (args : List Value) → G r → Each (Good G) args → Plans P G (Good G) (call_item world r o args)
  call_item_holds r (Some (B.Closure c)) args g h = asked (Closure r args) (g, h)
  call_item_holds r _ args g h = at_once_holds (Good G) _ (throw_value T.NotAFunction)

  pub call_value_holds : (v : Value) (args : List Value) → Good G v → Each (Good G) args → Plans P G (Good G) (call_value world v args)
  call_value_holds (V.Ref r) args g h = record { runs = λ s i. (call_item_holds r (body_of s.store r) args g h).runs s i }
  call_value_holds (V.Builtin n) args g h = record { runs = λ s i. (function_holds (function_carrier n) n args h).runs s i }
  call_value_holds _ args g h = record { runs = λ s i. (throw_value T.NotAFunction).runs s i }

  pub invoke_holds : (c : Callee) (args : List Value) → GoodCallee G c → Each (Good G) args → Plans P G (Good G) (invoke world c args)
  invoke_holds (Called v) args g h = call_value_holds v args g h
  invoke_holds (Method r n) args g h = method_holds (method_carrier n) r n args g h

  pub construct_holds : (v : Value) (args : List Value) → Each (Good G) args → Holds P G (Good G) (construct world v args)
  construct_holds (V.Builtin n) args h =
      either P G (Good G) (is_constructor n) (takes_step world >>= (λ _. simple_function world n args)) (throws world T.NotAConstructor)
      (bind P G (step_holds P G world law) (λ _ _. law.functions n args h)) (throw_value T.NotAConstructor)
  construct_holds _ args h = throw_value T.NotAConstructor

  method_or_holds : (o : Option Callee) (v : Value) (word : List ℕ) → IfThere (GoodCallee G) o → Good G v → Holds P G (GoodCallee G) (method_or_property world o v word)
  method_or_holds (Some m) v word g good = pure_holds P G (GoodCallee G) m g
  method_or_holds None v word g good = bind P G (get_holds v (Word word) good) (λ f k. pure_holds P G (GoodCallee G) (Called f) k)

  pub member_callee_holds : (v : Value) (word : List ℕ) → Good G v → Holds P G (GoodCallee G) (member_callee world v word)
  member_callee_holds v word g = record { runs = λ s h. (method_or_holds (method_at s.store v word) v word (callee_good G s.store v word g) g).runs s h }
