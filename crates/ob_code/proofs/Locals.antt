-- The actions leave as many locals as there were, however they end; a limit ends the call.
use Rattle.std.proofs.Common.{◌≡◌, ℕ, zero, suc, ◌+◌, ◌==◌, pos, ℤ, Bool, true, false, not, List, [], ◌∷◌, length, Option, Some, None, Result, Ok, Err, slice_get, unwrap_or, codes, nat_lt, bytes_eq, if◌then◌else◌, refl, ap, ◌∙◌, subst, arith}
use Rattle.std.specs.Prelude.{slice_set}
use Rattle.std.specs.Option.{option_map_or}
use Rattle.ob_base.specs.PlainData.{elements}
use Rattle.ob_base.specs.declared.operators.BinaryOp.{BinaryOp}
use Rattle.ob_base.specs.declared.operators.ChangeOp.{ChangeOp}
use Rattle.ob_base.specs.declared.operators.CompareOp.{CompareOp}
use Rattle.ob_base.specs.declared.operators.UnaryOp.{UnaryOp}
use Rattle.ob_base.specs.declared.operators.UnaryOp.TheVariants as U
use Rattle.ob_base.specs.declared.operators.UpdateOp.{UpdateOp}
use Rattle.ob_base.specs.declared.plain.Plain.{Plain}
use Rattle.ob_hosts.specs.Entry.{HostEntry}
use Rattle.ob_hosts.specs.Value.{host_value}
use Rattle.ob_items.specs.IndexText.{index_in}
use Rattle.ob_items.specs.Messages.{message_of, kind_of_thrown}
use Rattle.ob_items.specs.Properties.{property}
use Rattle.ob_items.specs.declared.error.OpError.{OpError}
use Rattle.ob_items.specs.declared.error.OpError.TheVariants as OE
use Rattle.ob_items.specs.declared.error.PlainError.{PlainError}
use Rattle.ob_items.specs.declared.error.PlainError.TheVariants as PE
use Rattle.ob_items.specs.declared.frame.Frame.{Frame}
use Rattle.ob_items.specs.declared.frame.Taken.{Taken}
use Rattle.ob_items.specs.declared.frame.Taken.TheVariants as K
use Rattle.ob_items.specs.declared.item.Body.{Body}
use Rattle.ob_items.specs.declared.item.Body.TheVariants as B
use Rattle.ob_items.specs.declared.thrown.Thrown.{Thrown}
use Rattle.ob_items.specs.declared.thrown.Thrown.TheVariants as T
use Rattle.ob_items.specs.declared.value.CodeKey.{CodeKey}
use Rattle.ob_items.specs.declared.value.Ref.{Ref}
use Rattle.ob_items.specs.declared.value.Value.{Value}
use Rattle.ob_items.specs.declared.value.Value.TheVariants as V
use Rattle.ob_values.specs.Builtins.{method_call, function_call}
use Rattle.ob_values.specs.Effects as effects
use Rattle.ob_values.specs.Effects.{argument, number_of}
use Rattle.ob_values.specs.Inspect.{inspect_text, error_name}
use Rattle.ob_values.specs.ObjectFunctions.{key_in}
use Rattle.ob_values.specs.Operators.{Made, Number, Text, unary_result, compare_result, typeof_value, binary_answer}
use Rattle.ob_values.specs.PlainOf.{plain_result}
use Rattle.ob_values.specs.Store.{body_of, is_frozen, is_new_in, hooks_in, elements_in, text_cost}
use Rattle.ob_actions.specs.Act.{Out, Go, Threw, Refused, Act, then_with, ◌>>=◌, pure, updates}
use Rattle.ob_actions.specs.Calls.{Callee, Called, Method, method_at, method_or_property, member_callee, prelude_args, pull_kept, pull, next_object, next_call, after_step, simple_method, method_by, simple_function, function_by, call_item, call_value, invoke, construct}
use Rattle.ob_actions.specs.Core.{Core, with_log}
use Rattle.ob_actions.specs.FunctionValues.{Carrier, OneAction, Log, Next, Then, ThePrelude, Host, function_carrier, method_carrier, is_constructor, is_function}
use Rattle.ob_actions.specs.Generators.{kept_in, keeps, end_kept, end_left, leave_kept, leave}
use Rattle.ob_actions.specs.Hosts.{second_number, host_result, host_on, host_call}
use Rattle.ob_actions.specs.Meters.{fails, spend, charges, takes_step, allocate, makes, literal, literal_value, counts, throws, made, done, done_or}
use Rattle.ob_actions.specs.NewItems.{new_array, new_object, new_closure, new_generator}
use Rattle.ob_actions.specs.Operators.{answer, answer_bool, unary, binary, compare, one_more, step_of}
use Rattle.ob_actions.specs.Output.{log, then_call, holder_of, change_by, change}
use Rattle.ob_actions.specs.Places.{Place, Slot, Boxed, held, read_held, read, first, assign}
use Rattle.ob_actions.specs.Properties.{Key, Word, Computed, indexed, units_of_key, unit_text, array_property, item_property, property_at, get_property, put_element, set_element, put_property, set_item, set_property}
use Rattle.ob_actions.specs.Requests.{Request, Closure, Prelude, Reply, Plan, Ends, Asks, Planned, plan_after, plan_then, at_once, reply_value}
use Rattle.ob_actions.specs.World.{World}
use Rattle.ob_code.specs.Instructions.{make_boxes, new_boxes, copy_each, copied}

-- so many locals are there, unless a limit ended the call
abbrev pub Left : {A : Type 0} → ℕ → Out Core A → Type 0
Left n (Go a s) = length s.locals ≡ n
Left n (Threw v s) = length s.locals ≡ n
Left n (Refused l s) = Unit {0}

pub record Leaves {A : Type 0} (n : ℕ) (m : Act Core A) : Type 0 where
  pub runs : (s : Core) → length s.locals ≡ n → Left n (m s)

-- of a plan: so many at a request, and after its reply
abbrev pub LeftPlan : {A : Type 0} → ℕ → Plan A → Type 0
LeftPlan n (Ends o) = Left n o
LeftPlan n (Asks request s k) = (length s.locals ≡ n) × ((reply : Reply) → Leaves n (k reply))

pub record LeavesPlan {A : Type 0} (n : ℕ) (m : Planned A) : Type 0 where
  pub runs : (s : Core) → length s.locals ≡ n → LeftPlan n (m s)

length_set : {X : Type 0} (xs : List X) (i : ℕ) (x : X) → length (slice_set xs i x) ≡ length xs
length_set [] i x = refl
length_set (y ∷ ys) zero x = refl
length_set (y ∷ ys) (suc i) x = ap suc (length_set ys i x)

module _ (n : ℕ) where
  then_left : {A B : Type 0} (o : Out Core A) (k : A → Act Core B) → Left n o → ((a : A) → Leaves n (k a)) → Left n (then_with o k)
  then_left (Go a s) k h f = (f a).runs s h
  then_left (Threw v s) k h f = h
  then_left (Refused l s) k h f = h

  bind : {A B : Type 0} {j : Act Core A} {k : A → Act Core B} → Leaves n j → ((a : A) → Leaves n (k a)) → Leaves n (j >>= k)
  unfolding ◌>>=◌
  bind {j = j} {k = k} f g = record { runs = λ s h. then_left (j s) k (f.runs s h) g }

  pub pure_left : {A : Type 0} (a : A) → Leaves n (pure a)
  pure_left a = record { runs = λ s h. h }

  choice : {A : Type 0} (b : Bool) (x y : Out Core A) → Left n x → Left n y → Left n (if b then x else y)
  choice true x y f g = f
  choice false x y f g = g

  either : {A : Type 0} (b : Bool) (j k : Act Core A) → Leaves n j → Leaves n k → Leaves n (if b then j else k)
  either true j k f g = f
  either false j k f g = g

  module _ (world : World) where
    spend_left : (made steps : ℕ) → Leaves n (spend world made steps)
    spend_left made steps = record {
      runs = λ s h.
          choice (nat_lt 50000 (elements_in s.store world.region + made)) _ _ tt (choice (nat_lt s.left (made + steps)) _ _ tt h);
    }

    pub charges_left : (k : ℕ) → Leaves n (charges world k)
    charges_left zero = pure_left tt
    charges_left (suc k) = spend_left (suc k) 0

    pub step_left : Leaves n (takes_step world)
    step_left = spend_left 0 1

    pub allocate_left : (body : Body) (cost : ℕ) → Leaves n (allocate world body cost)
    allocate_left body cost = record { runs = λ s h. h }

    literal_left : (units : List ℕ) → Leaves n (literal world units)
    literal_left units = record { runs = λ s h. h }

    makes_left : (body : Body) (cost : ℕ) → Leaves n (makes world body cost)
    makes_left body cost = bind (spend_left cost 0) (λ _. allocate_left body cost)

    pub literal_value_left : (units : List ℕ) → Leaves n (literal_value world units)
    literal_value_left units = bind (literal_left units) (λ r. pure_left (V.Ref r))

    pub throws_left : (A : Type 0) (t : Thrown) → Leaves n (throws world {A = A} t)
    throws_left A t =
        bind (spend_left 1 0) (λ _. bind (literal_left (message_of t)) (λ message.
        bind (allocate_left (B.Error (kind_of_thrown t) message) 1) (λ r. record { runs = λ s h. h })))

    counts_left : (k : ℕ) → Leaves n (counts world k)
    counts_left k = bind (spend_left k 0) (λ _. record { runs = λ s h. h })

    value_throws : (t : Thrown) → Leaves n (throws world {A = Value} t)
    value_throws t = throws_left Value t

    unit_throws : (t : Thrown) → Leaves n (throws world {A = Unit {0}} t)
    unit_throws t = throws_left (Unit {0}) t

    fails_left : (e : OpError) → Leaves n (fails (throws world {A = Value}) e)
    fails_left (OE.Throws t) = value_throws t
    fails_left OE.HeapFull = record { runs = λ s h. tt }
    fails_left OE.StepsOut = record { runs = λ s h. tt }
    fails_left OE.NoMemory = record { runs = λ s h. tt }

    made_left : (o : Result Made OpError) → Leaves n (made world o)
    made_left (Ok (Number i)) = record { runs = λ s h. h }
    made_left (Ok (Text units)) = record { runs = λ s h. h }
    made_left (Err e) = record { runs = λ s h. (fails_left e).runs s h }

    done_left : (o : Result effects.Effect OpError) → Leaves n (done world o)
    done_left (Ok e) = record { runs = λ s h. h }
    done_left (Err e) = record { runs = λ s h. (fails_left e).runs s h }

    done_or_left : (t : Thrown) (o : Option (Result effects.Effect Thrown)) → Leaves n (done_or world t o)
    done_or_left t None = record { runs = λ s h. (value_throws t).runs s h }
    done_or_left t (Some a) = record { runs = λ s h. (done_left (effects.answer_of s.store s.left a)).runs s h }

    -- ---- operators

    answer_left : (o : Result Value Thrown) → Leaves n (answer world o)
    answer_left (Ok v) = pure_left v
    answer_left (Err t) = value_throws t

    pub unary_left : (op : UnaryOp) (v : Value) → Leaves n (unary world op v)
    unary_left U.Typeof v = record { runs = λ s h. (literal_value_left (typeof_value s.store v)).runs s h }
    unary_left op v = record { runs = λ s h. (answer_left (unary_result s.store op v)).runs s h }

    pub binary_left : (op : BinaryOp) (a b : Value) → Leaves n (binary world op a b)
    binary_left op a b = record { runs = λ s h. (made_left (binary_answer s.store world.region op a b s.left)).runs s h }

    answer_bool_left : (o : Result Bool Thrown) → Leaves n (answer_bool world o)
    answer_bool_left (Ok b) = pure_left (V.Bool b)
    answer_bool_left (Err t) = value_throws t

    pub compare_left : (op : CompareOp) (a b : Value) → Leaves n (compare world op a b)
    compare_left op a b = record { runs = λ s h. (answer_bool_left (compare_result s.store op a b)).runs s h }

    pub one_more_left : (op : UpdateOp) (v : Value) → Leaves n (one_more world op v)
    one_more_left op (V.Int k) = binary_left (step_of op) (V.Int k) (V.Int (pos 1))
    one_more_left op _ = value_throws T.WrongOperand

    -- ---- places

    read_held_left : (o : Option Value) → Leaves n (read_held world o)
    read_held_left None = value_throws T.UsedBefore
    read_held_left (Some v) = pure_left v

    pub read_left : (p : Place) → Leaves n (read world p)
    read_left p = record { runs = λ s h. (read_held_left (held s p)).runs s h }

    pub first_left : (p : Place) (v : Value) → Leaves n (first world p v)
    first_left (Slot i) v = record { runs = λ s h. length_set s.locals i (Some v) ∙ h }
    first_left (Boxed r) v = record { runs = λ s h. choice (is_frozen s.store r) _ _ ((unit_throws T.Frozen).runs s h) h }

    assign_by : (constant : Bool) (p : Place) (v : Value) → Leaves n (λ s. if constant then throws world T.Constant s else first world p v s)
    assign_by true p v = record { runs = λ s h. (unit_throws T.Constant).runs s h }
    assign_by false p v = record { runs = λ s h. (first_left p v).runs s h }

    pub assign_left : (constant : Bool) (p : Place) (v : Value) → Leaves n (assign world constant p v)
    assign_left constant p v = bind (read_left p) (λ _. assign_by constant p v)

    make_boxes_left : (k : ℕ) → Leaves n (make_boxes world k)
    make_boxes_left zero = pure_left []
    make_boxes_left (suc k) = bind (allocate_left (B.Box None) 1) (λ r. bind (make_boxes_left k) (λ boxes. pure_left (r ∷ boxes)))

    pub new_boxes_left : (k : ℕ) → Leaves n (new_boxes world k)
    new_boxes_left k = bind (charges_left k) (λ _. make_boxes_left k)

    copy_left : (boxes : List Ref) → Leaves n (copy_each world boxes)
    copy_left [] = pure_left []
    copy_left (r ∷ boxes) = bind (record { runs = λ s h. h }) (λ c. bind (copy_left boxes) (λ copies. pure_left (c ∷ copies)))

    pub copied_left : (boxes : List Ref) → Leaves n (copied world boxes)
    copied_left boxes = bind (charges_left (length boxes)) (λ _. copy_left boxes)

    -- ---- new items

    pub new_array_left : (values : List Value) → Leaves n (new_array world values)
    new_array_left values = bind (makes_left (B.Array values) (1 + length values)) (λ r. pure_left (V.Ref r))

    pub new_object_left : Leaves n (new_object world)
    new_object_left = bind (makes_left _ 1) (λ r. pure_left (V.Ref r))

    pub new_closure_left : (code : CodeKey) (boxes : List Ref) (inputs : Ref) (invalidation : Option Ref) → Leaves n (new_closure world code boxes inputs invalidation)
    new_closure_left code boxes inputs invalidation = bind (makes_left _ 1) (λ r. pure_left (V.Ref r))

    pub new_generator_left : (frame : Frame) → Leaves n (new_generator world frame)
    new_generator_left frame = makes_left (B.Generator (K.Held frame)) 1

    -- ---- properties

    units_by : (o : Option (List ℕ)) (s : Core) → length s.locals ≡ n → Left n (option_map_or (λ units. Go units s) o (throws world T.BadKey s))
    units_by None s h = (throws_left (List ℕ) T.BadKey).runs s h
    units_by (Some units) s h = h

    pub units_left : (k : Key) → Leaves n (units_of_key world k)
    units_left (Word units) = record { runs = λ s h. h }
    units_left (Computed v) = record { runs = λ s h. units_by (key_in s.store v) s h }

    unit_left : (o : Option ℕ) → Leaves n (unit_text world o)
    unit_left None = pure_left V.Undefined
    unit_left (Some u) = bind (makes_left (B.Text (u ∷ [])) 1) (λ r. pure_left (V.Ref r))

    item_property_left : (o : Option Body) (key : List ℕ) → Leaves n (item_property world o key)
    item_property_left None key = pure_left V.Undefined
    item_property_left (Some (B.Text units)) key =
        either (bytes_eq key (codes "length")) (pure (V.Int (pos (length units)))) (unit_text world (indexed units key))
        (pure_left (V.Int (pos (length units)))) (unit_left (indexed units key))
    item_property_left (Some (B.Array values)) key = pure_left (array_property world values key)
    item_property_left (Some (B.Object properties)) key = pure_left (unwrap_or (property properties key) V.Undefined)
    item_property_left (Some (B.Error kind message)) key =
        either (bytes_eq key (codes "name")) (literal_value world (error_name kind)) (if bytes_eq key (codes "message") then pure (V.Ref message) else pure V.Undefined)
        (literal_value_left (error_name kind))
        (either (bytes_eq key (codes "message")) (pure (V.Ref message)) (pure V.Undefined) (pure_left (V.Ref message)) (pure_left V.Undefined))
    item_property_left (Some _) key = pure_left V.Undefined

    property_at_left : (v : Value) (key : List ℕ) → Leaves n (property_at world v key)
    property_at_left (V.Ref r) key = record { runs = λ s h. (item_property_left (body_of s.store r) key).runs s h }
    property_at_left (V.Builtin k) key = record { runs = λ s h. h }
    property_at_left _ key = record { runs = λ s h. h }

    pub get_left : (v : Value) (k : Key) → Leaves n (get_property world v k)
    get_left V.Undefined k = value_throws T.NoProperty
    get_left V.Null k = value_throws T.NoProperty
    get_left v k = bind (units_left k) (λ key. property_at_left v key)

    put_element_left : (r : Ref) (count i : ℕ) (v : Value) → Leaves n (put_element world r count i v)
    put_element_left r count i v = record {
      runs = λ s h.
          choice (is_frozen s.store r) _ _ ((unit_throws T.Frozen).runs s h)
          (choice (nat_lt count i) _ _ ((unit_throws T.PastEnd).runs s h)
          ((bind (charges_left (if i == count then 1 else 0)) (λ _. record { runs = λ t k. k })).runs s h));
    }

    set_element_left : (r : Ref) (count : ℕ) (o : Option ℕ) (v : Value) → Leaves n (set_element world r count o v)
    set_element_left r count None v = unit_throws T.CannotSet
    set_element_left r count (Some i) v = put_element_left r count i v

    put_property_left : (r : Ref) (key : List ℕ) (v : Value) → Leaves n (put_property world r key v)
    put_property_left r key v = record {
      runs = λ s h.
          choice (is_frozen s.store r) _ _ ((unit_throws T.Frozen).runs s h)
          ((bind (charges_left (if is_new_in s.store r key then 1 else 0)) (λ _. record { runs = λ t k. k })).runs s h);
    }

    set_item_left : (r : Ref) (o : Option Body) (k : Key) (v : Value) → Leaves n (set_item world r o k v)
    set_item_left r None k v = unit_throws T.CannotSet
    set_item_left r (Some (B.Array values)) k v = bind (units_left k) (λ key. set_element_left r (length values) (index_in key) v)
    set_item_left r (Some (B.Object properties)) k v = bind (units_left k) (λ key. put_property_left r key v)
    set_item_left r (Some _) k v = unit_throws T.CannotSet

    pub set_left : (a : Value) (k : Key) (v : Value) → Leaves n (set_property world a k v)
    set_left (V.Ref r) k v = record { runs = λ s h. (set_item_left r (body_of s.store r) k v).runs s h }
    set_left _ k v = record { runs = λ s h. (unit_throws T.CannotSet).runs s h }

    -- ---- hosts and output

    host_result_left : (o : Option ℤ) → Leaves n (host_result world o)
    host_result_left None = value_throws T.DivisionByZero
    host_result_left (Some k) = pure_left (V.Int k)

    host_on_left : (host : HostEntry) (a b : Option ℤ) → Leaves n (host_on world host a b)
    host_on_left host (Some a) (Some b) = host_result_left (host_value host.code a b)
    host_on_left host _ _ = value_throws T.BadArgument

    host_call_left : (o : Option HostEntry) (args : List Value) → Leaves n (host_call world o args)
    host_call_left None args = value_throws T.NotAFunction
    host_call_left (Some host) args = bind step_left (λ _. host_on_left host (number_of (argument args 0)) (second_number host args))

    log_left : (v : Value) → Leaves n (log world v)
    log_left v = record {
      runs = λ s h. (bind (counts_left (text_cost (length (inspect_text s.store v)))) (λ _.
          bind {j = updates (with_log (inspect_text s.store v))} (record { runs = λ t k. k }) (λ _. pure_left V.Undefined))).runs s h;
    }

    then_left_by : (r : Ref) (f : Value) → Leaves n (then_call world r f)
    then_left_by r f = record {
      runs = λ s h.
          choice (is_frozen s.store r) _ _ ((value_throws T.Frozen).runs s h)
          (choice (not (is_function s.store f)) _ _ ((value_throws T.BadArgument).runs s h)
          (choice (nat_lt 999 (hooks_in s.store r)) _ _ ((value_throws T.BadCount).runs s h) h));
    }

    change_by_left : (holder : ℕ) (op : ChangeOp) (o : Result Plain PlainError) → Leaves n (change_by world holder op o)
    change_by_left holder op (Ok p) = bind (counts_left (elements p)) (λ _. record { runs = λ s h. h })
    change_by_left holder op (Err PE.NotPlain) = unit_throws T.NotPlain
    change_by_left holder op (Err PE.HeapFull) = record { runs = λ s h. tt }
    change_by_left holder op (Err PE.NoMemory) = unit_throws T.NotPlain

    pub change_left : (holder : Value) (op : ChangeOp) (v : Value) → Leaves n (change world holder op v)
    change_left holder op v = record { runs = λ s h. (change_by_left (holder_of holder) op (plain_result s.store v)).runs s h }

    -- ---- generator objects

    one_left : (b : Bool) (x y : Core) → length x.locals ≡ n → length y.locals ≡ n → length (if b then x else y).locals ≡ n
    one_left true x y f g = f
    one_left false x y f g = g

    pub kept_left : (r : Ref) (k : Taken) (s : Core) → length s.locals ≡ n → length (keeps r k s).locals ≡ n
    kept_left r k s h = one_left (is_frozen s.store r) s _ h h

    end_kept_left : (r : Ref) (o : Option Taken) (s : Core) → length s.locals ≡ n → length (end_kept r o s).locals ≡ n
    end_kept_left r (Some (K.Held frame)) s h = kept_left r K.Ended s h
    end_kept_left r _ s h = h

    pub end_left_left : (r : Ref) (s : Core) → length s.locals ≡ n → length (end_left r s).locals ≡ n
    end_left_left r s h = end_kept_left r (kept_in s r) s h

    leave_kept_left : (r : Ref) (o : Option Taken) → Leaves n (leave_kept world r o)
    leave_kept_left r (Some K.Runs) = unit_throws T.GeneratorRunning
    leave_kept_left r _ = record { runs = λ s h. end_left_left r s h }

    pub leave_left : (r : Ref) → Leaves n (leave world r)
    leave_left r = record { runs = λ s h. (leave_kept_left r (kept_in s r)).runs s h }

    -- ---- plans

    at_once_left : {A : Type 0} (m : Act Core A) → Leaves n m → LeavesPlan n (at_once m)
    at_once_left m f = record { runs = λ s h. f.runs s h }

    asked : (request : Request) → LeavesPlan n (λ s. Asks request s reply_value)
    asked request = record { runs = λ s h. (h, (λ reply. record { runs = λ t i. i })) }

    after_left : {A B : Type 0} (o : Out Core A) (k : A → Planned B) → Left n o → ((a : A) → LeavesPlan n (k a)) → LeftPlan n (plan_after o k)
    after_left (Go a s) k h f = (f a).runs s h
    after_left (Threw v s) k h f = h
    after_left (Refused l s) k h f = h

    plan_left : {A B : Type 0} (plan : Plan A) (k : A → Act Core B) → LeftPlan n plan → ((a : A) → Leaves n (k a)) → LeftPlan n (plan_then plan k)
    plan_left (Ends o) k h f = then_left o k h f
    plan_left (Asks request s j) k h f = (h.0, (λ reply. record { runs = λ t i. then_left (j reply t) k ((h.1 reply).runs t i) f }))

    choice_plan : {A : Type 0} (b : Bool) (x y : Plan A) → LeftPlan n x → LeftPlan n y → LeftPlan n (if b then x else y)
    choice_plan true x y f g = f
    choice_plan false x y f g = g

    pull_kept_left : (r : Ref) (v : Value) (o : Option Taken) → LeavesPlan n (pull_kept world r v o)
    pull_kept_left r v (Some K.Runs) = record { runs = λ s h. (throws_left Reply T.GeneratorRunning).runs s h }
    pull_kept_left r v (Some (K.Held frame)) = record { runs = λ s h. (h, (λ reply. record { runs = λ t i. i })) }
    pull_kept_left r v _ = record { runs = λ s h. h }

    pub pull_left : (r : Ref) (v : Value) → LeavesPlan n (pull world r v)
    pull_left r v = record {
      runs = λ s h.
          choice_plan (is_frozen s.store r) _ _ ((throws_left Reply T.Frozen).runs s h) ((pull_kept_left r v (kept_in s r)).runs s h);
    }

    next_object_left : (reply : Reply) → Leaves n (next_object world reply)
    next_object_left reply = bind (makes_left _ 3) (λ r. pure_left (V.Ref r))

    next_left : (r : Ref) (v : Value) → LeavesPlan n (next_call world r v)
    next_left r v = record { runs = λ s h. plan_left (pull world r v s) (next_object world) ((pull_left r v).runs s h) next_object_left }

    -- ---- calls

    after_step_left : (m : Act Core Value) → Leaves n m → LeavesPlan n (after_step world m)
    after_step_left m f = at_once_left _ (bind step_left (λ _. f))

    simple_method_left : (r : Ref) (k : ℕ) (args : List Value) → Leaves n (simple_method world r k args)
    simple_method_left r k args = record { runs = λ s h. (done_or_left T.NotAFunction (method_call s.store world.region k r args)).runs s h }

    simple_function_left : (k : ℕ) (args : List Value) → Leaves n (simple_function world k args)
    simple_function_left k args = record { runs = λ s h. (done_or_left T.NotAFunction (function_call s.store world.region k args)).runs s h }

    method_left : (c : Carrier) (r : Ref) (k : ℕ) (args : List Value) → LeavesPlan n (method_by world c r k args)
    method_left (ThePrelude i) r k args = asked (Prelude i (prelude_args i r args))
    method_left Next r k args = record {
      runs = λ s i.
          after_left (takes_step world s) (λ _. next_call world r (argument args 0)) (step_left.runs s i) (λ _. next_left r (argument args 0));
    }
    method_left Then r k args = after_step_left _ (then_left_by r (argument args 0))
    method_left _ r k args = after_step_left _ (simple_method_left r k args)

    function_left : (c : Carrier) (k : ℕ) (args : List Value) → LeavesPlan n (function_by world c k args)
    function_left OneAction k args = after_step_left _ (simple_function_left k args)
    function_left Log k args = after_step_left _ (log_left (argument args 0))
    function_left (ThePrelude i) k args = asked (Prelude i (argument args 0 ∷ argument args 1 ∷ []))
    function_left (Host i) k args = at_once_left _ (host_call_left (slice_get world.hosts i) args)
    function_left _ k args = at_once_left _ (value_throws T.NotAFunction)

    call_item_left : (r : Ref) (o : Option Body) (args : List Value) → LeavesPlan n (call_item world r o args)
    call_item_left r (Some (B.Closure c)) args = asked (Closure r args)
    call_item_left r _ args = at_once_left _ (value_throws T.NotAFunction)

    call_value_left : (v : Value) (args : List Value) → LeavesPlan n (call_value world v args)
    call_value_left (V.Ref r) args = record { runs = λ s i. (call_item_left r (body_of s.store r) args).runs s i }
    call_value_left (V.Builtin k) args = record { runs = λ s i. (function_left (function_carrier k) k args).runs s i }
    call_value_left _ args = record { runs = λ s i. (value_throws T.NotAFunction).runs s i }

    pub invoke_left : (c : Callee) (args : List Value) → LeavesPlan n (invoke world c args)
    invoke_left (Called v) args = call_value_left v args
    invoke_left (Method r k) args = method_left (method_carrier k) r k args

    pub construct_left : (v : Value) (args : List Value) → Leaves n (construct world v args)
    construct_left (V.Builtin k) args =
        either (is_constructor k) (takes_step world >>= (λ _. simple_function world k args)) (throws world T.NotAConstructor)
        (bind step_left (λ _. simple_function_left k args)) (value_throws T.NotAConstructor)
    construct_left _ args = value_throws T.NotAConstructor

    method_or_left : (o : Option Callee) (v : Value) (word : List ℕ) → Leaves n (method_or_property world o v word)
    method_or_left (Some m) v word = pure_left m
    method_or_left None v word = bind (get_left v (Word word)) (λ f. pure_left (Called f))

    pub member_callee_left : (v : Value) (word : List ℕ) → Leaves n (member_callee world v word)
    member_callee_left v word = record { runs = λ s h. (method_or_left (method_at s.store v word) v word).runs s h }

  pub bind_left : {A B : Type 0} {j : Act Core A} {k : A → Act Core B} → Leaves n j → ((a : A) → Leaves n (k a)) → Leaves n (j >>= k)
  bind_left f g = bind f g

  pub then_after : {A B : Type 0} (o : Out Core A) (k : A → Act Core B) → Left n o → ((a : A) → Leaves n (k a)) → Left n (then_with o k)
  then_after o k h f = then_left o k h f

-- ---- actions that give so many boxes

abbrev pub LeftMany : ℕ → ℕ → Out Core (List Ref) → Type 0
LeftMany n k (Go boxes s) = (length s.locals ≡ n) × (length boxes ≡ k)
LeftMany n k (Threw v s) = length s.locals ≡ n
LeftMany n k (Refused l s) = Unit {0}

pub record LeavesMany (n k : ℕ) (m : Act Core (List Ref)) : Type 0 where
  pub runs : (s : Core) → length s.locals ≡ n → LeftMany n k (m s)

module _ (n : ℕ) where
  then_many : {A : Type 0} (k : ℕ) (o : Out Core A) (f : A → Act Core (List Ref)) → Left n o → ((a : A) → LeavesMany n k (f a)) → LeftMany n k (then_with o f)
  then_many k (Go a s) f h g = (g a).runs s h
  then_many k (Threw v s) f h g = h
  then_many k (Refused l s) f h g = h

  bind_many : {A : Type 0} {j : Act Core A} {f : A → Act Core (List Ref)} (k : ℕ) → Leaves n j → ((a : A) → LeavesMany n k (f a)) → LeavesMany n k (j >>= f)
  unfolding ◌>>=◌
  bind_many {j = j} {f = f} k h g = record { runs = λ s e. then_many k (j s) f (h.runs s e) g }

  one_more_box : (k : ℕ) (r : Ref) (o : Out Core (List Ref)) → LeftMany n k o → LeftMany n (k + 1) (then_with o (λ boxes. pure (r ∷ boxes)))
  one_more_box k r (Go boxes s) h = (h.0, omega (arith, h.1))
  one_more_box k r (Threw v s) h = h
  one_more_box k r (Refused l s) h = h

  more_many : (k : ℕ) (r : Ref) (m : Act Core (List Ref)) → LeavesMany n k m → LeavesMany n (k + 1) (m >>= (λ boxes. pure (r ∷ boxes)))
  unfolding ◌>>=◌
  more_many k r m h = record { runs = λ s e. one_more_box k r (m s) (h.runs s e) }

  suc_many : (k : ℕ) (m : Act Core (List Ref)) → LeavesMany n (k + 1) m → LeavesMany n (suc k) m
  suc_many k m h = let e : k + 1 ≡ suc k = omega arith in subst (λ i. LeavesMany n i m) e h

  module _ (world : World) where
    make_many : (k : ℕ) → LeavesMany n k (make_boxes world k)
    make_many zero = record { runs = λ s h. (h, refl) }
    make_many (suc k) = suc_many k _ (bind_many (k + 1) (allocate_left n world (B.Box None) 1) (λ r. more_many k r (make_boxes world k) (make_many k)))

    pub new_many : (k : ℕ) → LeavesMany n k (new_boxes world k)
    new_many k = bind_many k (charges_left n world k) (λ _. make_many k)

    copy_many : (boxes : List Ref) → LeavesMany n (length boxes) (copy_each world boxes)
    copy_many [] = record { runs = λ s h. (h, refl) }
    copy_many (r ∷ boxes) = suc_many (length boxes) _ (bind_many (length boxes + 1) (record { runs = λ s h. h }) (λ c. more_many (length boxes) c (copy_each world boxes) (copy_many boxes)))

    pub copied_many : (boxes : List Ref) → LeavesMany n (length boxes) (copied world boxes)
    copied_many boxes = bind_many (length boxes) (charges_left n world (length boxes)) (λ _. copy_many boxes)
