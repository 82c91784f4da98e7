-- The steps that are left never rise.
use Rattle.std.proofs.Common.{ℕ, zero, suc, ◌+◌, ◌-◌, ◌≤◌, ◌==◌, Bool, true, false, not, List, length, Option, Some, None, Result, Ok, Err, nat_lt, if◌then◌else◌, arith}
use Rattle.ob_items.specs.Bodies.{array_of, properties_of}
use Rattle.ob_items.specs.Items.{with_element}
use Rattle.ob_items.specs.Messages.{message_of, kind_of_thrown}
use Rattle.ob_items.specs.declared.error.OpError.{OpError}
use Rattle.ob_items.specs.declared.error.OpError.TheVariants as E
use Rattle.ob_items.specs.declared.item.Body.TheVariants as B
use Rattle.ob_items.specs.declared.thrown.Thrown.{Thrown}
use Rattle.ob_items.specs.declared.thrown.Thrown.TheVariants as T
use Rattle.ob_items.specs.declared.value.Ref.{Ref}
use Rattle.ob_items.specs.declared.value.Value.{Value}
use Rattle.ob_values.specs.Builtins.{method_call, function_call}
use Rattle.ob_values.specs.Effects as effects
use Rattle.ob_values.specs.Operators.{Made, Number, Text, binary_answer}
use Rattle.ob_values.specs.Store.{elements_in, is_frozen, is_new_in, hooks_in, body_of, written}
use Rattle.ob_actions.specs.Act.{Go, Refused}
use Rattle.ob_actions.specs.Core.{Core, with_store, with_left}
use Rattle.ob_actions.specs.FunctionValues.{is_function}
use Rattle.ob_actions.specs.Meters.{fails, spend, charges, literal, allocate, throws, made, done, done_or}
use Rattle.ob_actions.specs.Properties.{put_element, put_property, with_new_property}
use Rattle.ob_actions.specs.World.{World}
use Rattle.ob_actions.proofs.AnyGood.{AnyRef, any_value, any_body, any_there, any_locals}
use Rattle.ob_actions.proofs.Holds.{Any, After, Holds, bind, choice}
use Rattle.ob_actions.proofs.Kept.{Law}
use Rattle.ob_actions.specs.Within.{Good, GoodBody}

module _ (n : ℕ) (world : World) where
  abbrev pub AtMost : Core → Type 0
  AtMost s = s.left ≤ n

  less : (k : ℕ) (s : Core) → AtMost s → AtMost (with_left (s.left - k) s)
  less k s h = let l : s.left - k ≤ n = omega (arith, h) in l

  spends : (made steps : ℕ) → Holds AtMost AnyRef Any (spend world made steps)
  spends made steps = record {
    runs = λ s h.
        choice AtMost AnyRef Any (nat_lt 50000 (elements_in s.store world.region + made)) _ _ h
        (choice AtMost AnyRef Any (nat_lt s.left (made + steps)) (Refused _ s) _ h (less (made + steps) s h, tt));
  }

  charges_fall : (k : ℕ) → Holds AtMost AnyRef Any (charges world k)
  charges_fall zero = record { runs = λ s h. (h, tt) }
  charges_fall (suc k) = spends (suc k) 0

  thrown : (A : Type 0) (R : A → Type 0) (t : Thrown) → Holds AtMost AnyRef R (throws world {A = A} t)
  thrown A R t =
      bind AtMost AnyRef (spends 1 0) (λ _ _. bind AtMost AnyRef {R = Any} {j = literal world (message_of t)} (record { runs = λ s h. (h, tt) }) (λ message _.
      bind AtMost AnyRef {R = Any} {j = allocate world (B.Error (kind_of_thrown t) message) 1} (record { runs = λ s h. (h, tt) }) (λ r _. record { runs = λ s h. (h, tt) })))

  failed : (e : OpError) → Holds AtMost AnyRef (Good AnyRef) (fails (throws world) e)
  failed (E.Throws t) = thrown Value (Good AnyRef) t
  failed E.HeapFull = record { runs = λ s h. h }
  failed E.StepsOut = record { runs = λ s h. h }
  failed E.NoMemory = record { runs = λ s h. h }

  made_falls : (o : Result Made OpError) (s : Core) → AtMost s → After AtMost AnyRef (Good AnyRef) (made world o s)
  made_falls (Ok (Number k)) s h = (h, tt)
  made_falls (Ok (Text units)) s h = (less _ s h, tt)
  made_falls (Err e) s h = (failed e).runs s h

  done_falls : (o : Result effects.Effect OpError) (s : Core) → AtMost s → After AtMost AnyRef (Good AnyRef) (done world o s)
  done_falls (Ok e) s h = (less (e.elements + e.steps) s h, any_value e.value)
  done_falls (Err e) s h = (failed e).runs s h

  done_or_falls : (t : Thrown) (o : Option (Result effects.Effect Thrown)) (s : Core) → AtMost s → After AtMost AnyRef (Good AnyRef) (done_or world t o s)
  done_or_falls t None s h = (thrown Value (Good AnyRef) t).runs s h
  done_or_falls t (Some answer) s h = done_falls (effects.answer_of s.store s.left answer) s h

  unit_thrown : (t : Thrown) (s : Core) → AtMost s → After AtMost AnyRef (Any {A = Unit {0}}) (throws world t s)
  unit_thrown t s h = (thrown (Unit {0}) Any t).runs s h

  element_falls : (r : Ref) (count i : ℕ) (v : Value) (s : Core) → AtMost s → After AtMost AnyRef Any (put_element world r count i v s)
  element_falls r count i v s h =
      choice AtMost AnyRef Any (is_frozen s.store r) _ _ (unit_thrown T.Frozen s h)
      (choice AtMost AnyRef Any (nat_lt count i) _ _ (unit_thrown T.PastEnd s h)
      ((bind AtMost AnyRef {R = Any} {Q = Any} {j = charges world (if i == count then 1 else 0)} {k = λ _ t. Go tt (with_store (written array_of (with_element i v) t.store r (i == count)) t)}
      (charges_fall _) (λ _ _. record { runs = λ t g. (g, tt) })).runs s h))

  property_falls : (r : Ref) (key : List ℕ) (v : Value) (s : Core) → AtMost s → After AtMost AnyRef Any (put_property world r key v s)
  property_falls r key v s h =
      choice AtMost AnyRef Any (is_frozen s.store r) _ _ (unit_thrown T.Frozen s h)
      ((bind AtMost AnyRef {R = Any} {Q = Any} {j = charges world (if is_new_in s.store r key then 1 else 0)}
      {k = λ _ t. Go tt (with_store (written properties_of (with_new_property world key v) t.store r (is_new_in t.store r key)) t)}
      (charges_fall _) (λ _ _. record { runs = λ t g. (g, tt) })).runs s h)

  pub steps_law : Law AtMost AnyRef world
  steps_law = record {
    spends = spends;
    counts = λ k. bind AtMost AnyRef (spends k 0) (λ _ _. record { runs = λ s h. (h, tt) });
    allocates = λ body cost g. record { runs = λ s h. (h, tt) };
    literals = λ units. record { runs = λ s h. (h, tt) };
    inside = λ s h r g. any_there (GoodBody AnyRef) any_body (body_of s.store r);
    good_locals = λ s h. any_locals s.locals;
    locals = λ ls s h g. h;
    binaries = λ op a b. record { runs = λ s h. made_falls (binary_answer s.store world.region op a b s.left) s h };
    methods = λ r k args g i. record { runs = λ s h. done_or_falls T.NotAFunction (method_call s.store world.region k r args) s h };
    functions = λ k args i. record { runs = λ s h. done_or_falls T.NotAFunction (function_call s.store world.region k args) s h };
    boxes = λ r v g i. record { runs = λ s h. choice AtMost AnyRef Any (is_frozen s.store r) _ _ (unit_thrown T.Frozen s h) (h, tt) };
    elements = λ r values i v s h g k e. element_falls r (length values) i v s h;
    properties = λ r properties key v s h g k e. property_falls r key v s h;
    thens = λ r f g i. record {
      runs = λ s h.
          choice AtMost AnyRef (Good AnyRef) (is_frozen s.store r) _ _ ((thrown Value (Good AnyRef) T.Frozen).runs s h)
          (choice AtMost AnyRef (Good AnyRef) (not (is_function s.store f)) _ _ ((thrown Value (Good AnyRef) T.BadArgument).runs s h)
          (choice AtMost AnyRef (Good AnyRef) (nat_lt 999 (hooks_in s.store r)) _ _ ((thrown Value (Good AnyRef) T.BadCount).runs s h) (h, tt)));
    };
    keeps = λ r k s g h. kept (is_frozen s.store r) s _ h h;
    logs = λ text s h. h;
    effects = λ e s h. h;
  }
    where
      kept : (b : Bool) (x y : Core) → AtMost x → AtMost y → AtMost (if b then x else y)
      kept true x y f g = f
      kept false x y f g = g
