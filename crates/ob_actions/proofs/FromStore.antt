-- The actions that change a state keep what the changes of a store keep.
use Rattle.std.proofs.Common.{◌≡◌, ℕ, zero, suc, ◌+◌, ◌-◌, ◌==◌, Bool, true, false, not, List, length, Option, Some, None, Result, Ok, Err, nat_lt, if◌then◌else◌, subst, refl}
use Rattle.ob_base.specs.declared.limits.Limit.TheVariants as limit
use Rattle.ob_items.specs.Bodies.{array_of, properties_of, kept_of}
use Rattle.ob_items.specs.Items.{with_element}
use Rattle.ob_items.specs.Messages.{message_of, kind_of_thrown}
use Rattle.ob_items.specs.Properties.{Keyed}
use Rattle.ob_items.specs.declared.error.OpError.{OpError}
use Rattle.ob_items.specs.declared.error.OpError.TheVariants as E
use Rattle.ob_items.specs.declared.frame.Taken.{Taken}
use Rattle.ob_items.specs.declared.item.Body.{Body}
use Rattle.ob_items.specs.declared.item.Body.TheVariants as B
use Rattle.ob_items.specs.declared.thrown.Thrown.{Thrown}
use Rattle.ob_items.specs.declared.thrown.Thrown.TheVariants as T
use Rattle.ob_items.specs.declared.value.Ref.{Ref}
use Rattle.ob_items.specs.declared.value.Value.{Value}
use Rattle.ob_values.specs.Builtins.{method_call, function_call}
use Rattle.ob_values.specs.Effects as effects
use Rattle.ob_values.specs.Operators.{Made, Number, Text, binary_answer}
use Rattle.ob_values.specs.Store.{Store, elements_in, is_frozen, is_new_in, hooks_in, body_of, text_cost, written}
use Rattle.ob_actions.specs.Act.{Out, Go, Refused, then_with, ◌>>=◌}
use Rattle.ob_actions.specs.Core.{Core, with_store, with_left}
use Rattle.ob_actions.specs.FunctionValues.{is_function}
use Rattle.ob_actions.specs.Generators.{keeps}
use Rattle.ob_actions.specs.Meters.{fails, spend, charges, allocate, literal, throws, made, done, done_or}
use Rattle.ob_actions.specs.Output.{then_call}
use Rattle.ob_actions.specs.Places.{Boxed, first}
use Rattle.ob_actions.specs.Properties.{put_element, put_property, with_new_property}
use Rattle.ob_actions.specs.World.{World}
use Rattle.ob_actions.proofs.Holds.{Any, After, Holds, bind, choice}
use Rattle.ob_actions.proofs.Kept.{Law}
use Rattle.ob_actions.proofs.StoreLaw.{StoreLaw, AreFine, method_fine, builtin_fine, put_good}
use Rattle.ob_actions.proofs.PropertyLemmas.{good_with_property}
use Rattle.ob_actions.specs.Within.{Good, GoodBody, GoodLocals, IfThere}

abbrev pub InStore : (Store → Type 0) → (Ref → Type 0) → Core → Type 0
InStore Q G s = Q s.store × GoodLocals G s.locals

abbrev gone : ℕ → Core → Out Core (Unit {0})
gone left s = Go tt (with_left left s)

module _ (Q : Store → Type 0) (G : Ref → Type 0) (world : World) (law : StoreLaw Q G world) where
  spends : (made steps : ℕ) → Holds (InStore Q G) G Any (spend world made steps)
  spends made steps = record {
    runs = λ s h.
        choice (InStore Q G) G Any (nat_lt 50000 (elements_in s.store world.region + made)) _ _ h
        (choice (InStore Q G) G Any (nat_lt s.left (made + steps)) (Refused _ s) _ h (h, tt));
  }

  allocates : (body : Body) (cost : ℕ) → GoodBody G body → Holds (InStore Q G) G G (allocate world body cost)
  allocates body cost g = record { runs = λ s h. ((law.news s.store body cost g h.0, h.1), law.fresh s.store h.0) }

  literals : (units : List ℕ) → Holds (InStore Q G) G G (literal world units)
  literals units = record { runs = λ s h. ((law.literals s.store units h.0, h.1), law.literal_good s.store units h.0) }

  thrown : (A : Type 0) (R : A → Type 0) (t : Thrown) → Holds (InStore Q G) G R (throws world {A = A} t)
  thrown A R t =
      bind (InStore Q G) G (spends 1 0) (λ _ _. bind (InStore Q G) G (literals (message_of t)) (λ message m.
      bind (InStore Q G) G (allocates (B.Error (kind_of_thrown t) message) 1 m) (λ r g. record { runs = λ s h. (h, g) })))

  failed : (e : OpError) → Holds (InStore Q G) G (Good G) (fails (throws world) e)
  failed (E.Throws t) = thrown Value (Good G) t
  failed E.HeapFull = record { runs = λ s h. h }
  failed E.StepsOut = record { runs = λ s h. h }
  failed E.NoMemory = record { runs = λ s h. h }

  made_kept : (o : Result Made OpError) (s : Core) → InStore Q G s → After (InStore Q G) G (Good G) (made world o s)
  made_kept (Ok (Number n)) s h = (h, tt)
  made_kept (Ok (Text units)) s h = ((law.news s.store (B.Text units) (text_cost (length units)) tt h.0, h.1), law.fresh s.store h.0)
  made_kept (Err e) s h = (failed e).runs s h

  -- ---- builtins

  within : (b c : Bool) (e : effects.Effect) (s : Core) → InStore Q G s → Q e.store × Good G e.value
      → After (InStore Q G) G (Good G) (done world (if b then Err E.HeapFull else if c then Err E.StepsOut else Ok e) s)
  within true c e s h f = h
  within false true e s h f = h
  within false false e s h f = ((f.0, h.1), f.1)

  done_kept : (t : Thrown) (o : Option (Result effects.Effect Thrown)) (s : Core) → InStore Q G s → AreFine Q G world law o → After (InStore Q G) G (Good G) (done_or world t o s)
  done_kept t None s h f = (thrown Value (Good G) t).runs s h
  done_kept t (Some (Err fault)) s h f = (thrown Value (Good G) fault).runs s h
  done_kept t (Some (Ok e)) s h f = within (nat_lt 50000 (elements_in s.store e.region + e.elements)) (nat_lt s.left (e.elements + e.steps)) e s h f

  -- ---- writes

  charged : (n : ℕ) (s : Core) (k : Core → Core) → InStore Q G s → ((left : ℕ) → InStore Q G (k (with_left left s)))
      → After (InStore Q G) G (Any {A = Unit {0}}) (then_with (charges world n s) (λ _ t. Go tt (k t)))
  charged zero s k h f = (f s.left, tt)
  charged (suc n) s k h f = by (nat_lt 50000 (elements_in s.store world.region + suc n)) (nat_lt s.left (suc n + 0))
    where
      by : (b c : Bool) → After (InStore Q G) G (Any {A = Unit {0}}) (then_with (if b then Refused limit.Elements s else if c then Refused limit.Steps s else gone (s.left - (suc n + 0)) s) (λ _ t. Go tt (k t)))
      by true c = h
      by false true = h
      by false false = (f _, tt)

  thawed : {A : Type 0} (R : A → Type 0) (s : Core) (r : Ref) (x y : Out Core A) → After (InStore Q G) G R x → (is_frozen s.store r ≡ false → After (InStore Q G) G R y)
      → After (InStore Q G) G R (if is_frozen s.store r then x else y)
  thawed R s r x y f g = by (is_frozen s.store r) refl
    where
      by : (b : Bool) → is_frozen s.store r ≡ b → After (InStore Q G) G R (if b then x else y)
      by true e = f
      by false e = g e

  box_kept : (r : Ref) (v : Value) → G r → Good G v → Holds (InStore Q G) G Any (first world (Boxed r) v)
  box_kept r v g good = record {
    runs = λ s h.
        thawed Any s r _ _ ((thrown (Unit {0}) Any T.Frozen).runs s h) (λ cold. ((law.boxes s.store r v h.0 g good cold, h.1), tt));
  }

  element_kept : (r : Ref) (values : List Value) (i : ℕ) (v : Value) (s : Core) → InStore Q G s → G r → Good G v → body_of s.store r ≡ Some (B.Array values)
      → After (InStore Q G) G Any (put_element world r (length values) i v s)
  unfolding ◌>>=◌
  element_kept r values i v s h g good is =
      thawed Any s r _ _ ((thrown (Unit {0}) Any T.Frozen).runs s h) (λ cold.
      choice (InStore Q G) G Any (nat_lt (length values) i) _ _ ((thrown (Unit {0}) Any T.PastEnd).runs s h)
      (charged (if i == length values then 1 else 0) s (λ t. with_store (written array_of (with_element i v) t.store r (i == length values)) t) h
      (λ left. (
        law.arrays s.store r (with_element i v) (i == length values) values h.0 g cold is
            (put_good Q G world law (i == length values) values i v (subst (λ o. IfThere (GoodBody G) o) is (law.inside s.store h.0 r g)) good),
        h.1,
      ))))

  property_kept : (r : Ref) (properties : Keyed) (key : List ℕ) (v : Value) (s : Core) → InStore Q G s → G r → Good G v → body_of s.store r ≡ Some (B.Object properties)
      → After (InStore Q G) G Any (put_property world r key v s)
  unfolding ◌>>=◌
  property_kept r properties key v s h g good is =
      thawed Any s r _ _ ((thrown (Unit {0}) Any T.Frozen).runs s h) (λ cold.
      charged (if is_new_in s.store r key then 1 else 0) s (λ t. with_store (written properties_of (with_new_property world key v) t.store r (is_new_in t.store r key)) t) h
      (λ left. (
        law.objects s.store r (with_new_property world key v) (is_new_in s.store r key) properties h.0 g cold is
            (good_with_property G properties key v (subst (λ o. IfThere (GoodBody G) o) is (law.inside s.store h.0 r g)) good),
        h.1,
      )))

  then_kept : (r : Ref) (f : Value) → G r → Good G f → Holds (InStore Q G) G (Good G) (then_call world r f)
  then_kept r f g good = record {
    runs = λ s h.
        thawed (Good G) s r _ _ ((thrown Value (Good G) T.Frozen).runs s h) (λ cold.
        choice (InStore Q G) G (Good G) (not (is_function s.store f)) _ _ ((thrown Value (Good G) T.BadArgument).runs s h)
        (choice (InStore Q G) G (Good G) (nat_lt 999 (hooks_in s.store r)) _ _ ((thrown Value (Good G) T.BadCount).runs s h)
        ((law.hooks s.store r h.0 g cold, h.1), tt)));
  }

  kept_kept : (r : Ref) (k : Taken) (s : Core) → G r → InStore Q G s → InStore Q G (keeps r k s)
  kept_kept r k s g h = by (is_frozen s.store r) refl
    where
      by : (b : Bool) → is_frozen s.store r ≡ b → InStore Q G (if b then s else with_store (written kept_of (λ _. B.Generator k) s.store r false) s)
      by true e = h
      by false e = (law.kepts s.store r k h.0 g e, h.1)

  pub law_of_store : Law (InStore Q G) G world
  law_of_store = record {
    spends = spends;
    counts = λ n. bind (InStore Q G) G (spends n 0) (λ _ _. record { runs = λ s h. ((law.counted n s.store h.0, h.1), tt) });
    allocates = allocates;
    literals = literals;
    inside = λ s h r g. law.inside s.store h.0 r g;
    good_locals = λ s h. h.1;
    locals = λ ls s h g. (h.0, g);
    binaries = λ op a b. record { runs = λ s h. made_kept (binary_answer s.store world.region op a b s.left) s h };
    methods = λ r n args g h. record { runs = λ s i. done_kept T.NotAFunction (method_call s.store world.region n r args) s i (method_fine Q G world law s.store n r args i.0 g h) };
    functions = λ n args h. record { runs = λ s i. done_kept T.NotAFunction (function_call s.store world.region n args) s i (builtin_fine Q G world law s.store n args i.0 h) };
    boxes = box_kept;
    elements = element_kept;
    properties = property_kept;
    thens = then_kept;
    keeps = kept_kept;
    logs = λ text s h. h;
    effects = λ e s h. h;
  }
