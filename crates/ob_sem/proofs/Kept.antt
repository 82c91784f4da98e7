-- What evaluation keeps, where the actions that change a state do: one walk over the whole language.
use Rattle.std.proofs.Common.{ℕ, zero, suc, Bool, true, false, List, [], ◌∷◌, take, drop, filter_map, Option, Some, None, if◌then◌else◌, bytes_eq}
use Rattle.std.specs.List.{cons_option}
use Rattle.std.specs.Option.{option_map_or, option_and_then}
use Rattle.ob_base.specs.declared.operators.AssignOp.{AssignOp}
use Rattle.ob_base.specs.declared.operators.AssignOp.TheVariants as A
use Rattle.ob_base.specs.declared.operators.UpdateOp.{UpdateOp}
use Rattle.ob_items.specs.declared.value.Ref.{Ref}
use Rattle.ob_items.specs.declared.value.Value.{Value}
use Rattle.ob_items.specs.declared.value.Value.TheVariants as V
use Rattle.ob_tree.specs.Names.{Referred, place_among}
use Rattle.ob_tree.specs.Scopes.{Bound}
use Rattle.ob_tree.specs.Walks.{binding, constant}
use Rattle.ob_tree_types.specs.declared.cell.SpecForm.{SpecForm}
use Rattle.ob_tree_types.specs.declared.cell.SpecForm.TheVariants as forms
use Rattle.ob_tree_types.specs.declared.tree.Function.{Function}
use Rattle.ob_values.specs.Effects.{argument}
use Rattle.ob_actions.specs.Act.{Out, Go, Threw, Refused, Act, ◌>>=◌, pure, asks}
use Rattle.ob_actions.specs.Core.{Core, with_locals}
use Rattle.ob_actions.specs.Meters.{throws}
use Rattle.ob_actions.specs.Operators.{needs_second}
use Rattle.ob_actions.specs.Places.{Place, Slot, Boxed}
use Rattle.ob_actions.specs.Requests.{Request, Plan, Ends, Asks, Planned}
use Rattle.ob_sem.specs.Bindings.{input_of, enter_with, enter, copied_to, copy_each, copy, read_binding_or, read_name, read_input, assign_binding, assign_name, first_binding, first_name, set_params}
use Rattle.ob_tree.specs.Captures.{captured_in, outward}
use Rattle.ob_sem.specs.Captures.{boxes_for, box_of_place, kept_bindings, kept_invalidation, names_invalidation}
use Rattle.ob_sem.specs.Closures.{closure, with_own_name, named_function}
use Rattle.ob_tree.specs.Functions.{Part, whole}
use Rattle.ob_sem.specs.Scope.{Binding, Scope, binding_of, next_code, placed, with_names, inner, boxes_among}
use Rattle.ob_sem.specs.Setting.{Setting, Text, text_at}
use Rattle.ob_sem.specs.Targets.{Target, Variable, Property, read_target, write_target, write_value, assign_to, update}
use Rattle.ob_sem.specs.Whole.{Kept, Whole, with_core, kept_at, lifted, lift, Caller, carry, carries, with_callers, in_call}
use Rattle.ob_values.specs.Values.{ref_eq}
use Rattle.ob_actions.proofs.Holds.{Any, After, Holds, then_holds, bind, pure_holds, chosen}
use Rattle.ob_actions.proofs.Kept.{GoodReply, Law, good_or, input_good, enter_scope_holds, copy_box_holds, read_holds, first_holds, assign_holds, charges_holds, throws_holds, one_more_holds, new_closure_holds}
use Rattle.ob_actions.proofs.KeptCalls.{AfterPlan, Plans, get_holds, set_holds}
use Rattle.ob_items.specs.declared.thrown.Thrown.TheVariants as T
use Rattle.ob_actions.specs.Within.{Each, Good, GoodLocals, GoodPlace, GoodRequest, IfThere}
use Rattle.ob_sem.specs.Within.{GoodBinding, GoodEntry, GoodScope, GoodSuspended}

-- ---- what is good

abbrev pub GoodTarget : (Ref → Type 0) → Target → Type 0
GoodTarget G (Variable x) = Unit {0}
GoodTarget G (Property a k) = Good G a

-- a property of the whole state: of its core, and the generators that stand still are good
abbrev pub Wholly : (Core → Type 0) → (Ref → Type 0) → Whole → Type 0
Wholly P G s = P s.core × Each (GoodEntry G) s.suspended

module _ (P : Core → Type 0) (G : Ref → Type 0) where
  lifted_holds : {A : Type 0} (R : A → Type 0) (kept : Kept) (o : Out Core A) → Each (GoodEntry G) kept → After P G R o → After (Wholly P G) G R (lifted kept o)
  lifted_holds R kept (Go a s) g h = ((h.0, g), h.1)
  lifted_holds R kept (Threw v s) g h = ((h.0, g), h.1)
  lifted_holds R kept (Refused l s) g h = (h, g)

  pub lift_holds : {A : Type 0} {R : A → Type 0} {m : Act Core A} → Holds P G R m → Holds (Wholly P G) G R (lift m)
  unfolding lift
  lift_holds {R = R} {m = m} f = record { runs = λ s h. lifted_holds R s.suspended (m s.core) h.1 (f.runs s.core h.0) }

  module _ (enter_call : Caller) (calls : (q : Request) → GoodRequest G q → Holds (Wholly P G) G (GoodReply G) (enter_call q)) where
    carry_holds : {A : Type 0} (R : A → Type 0) (kept : Kept) (plan : Plan A) → Each (GoodEntry G) kept → AfterPlan P G R plan → After (Wholly P G) G R (carry enter_call kept plan)
    carry_holds R kept (Ends o) g h = lifted_holds R kept o g h
    carry_holds R kept (Asks q s k) g h =
        then_holds (Wholly P G) G (GoodReply G) R (enter_call q (record { core = s; suspended = kept })) (λ reply. lift (k reply))
        ((calls q h.1).runs (record { core = s; suspended = kept }) (h.0, g)) (λ reply i. lift_holds (h.2 reply i))

    pub carries_holds : {A : Type 0} (R : A → Type 0) (plan : Planned A) → Plans P G R plan → Holds (Wholly P G) G R (carries enter_call plan)
    unfolding carries
    carries_holds R plan f = record { runs = λ s h. carry_holds R s.suspended (plan s.core) h.1 (f.runs s.core h.0) }

  with_callers_holds : {A : Type 0} (R : A → Type 0) (world : _) (law : Law P G world) (ls : List (Option Value)) (o : Out Whole A) → GoodLocals G ls → After (Wholly P G) G R o → After (Wholly P G) G R (with_callers ls o)
  with_callers_holds R world law ls (Go a s) g h = ((law.locals ls s.core h.0.0 g, h.0.1), h.1)
  with_callers_holds R world law ls (Threw v s) g h = ((law.locals ls s.core h.0.0 g, h.0.1), h.1)
  with_callers_holds R world law ls (Refused l s) g h = (law.locals ls s.core h.0 g, h.1)

  pub in_call_holds : {A : Type 0} (R : A → Type 0) (world : _) (law : Law P G world) (ls : List (Option Value)) (m : Act Whole A) → GoodLocals G ls → Holds (Wholly P G) G R m → Holds (Wholly P G) G R (in_call ls m)
  in_call_holds R world law ls m g f = record {
    runs = λ s h.
        with_callers_holds R world law s.core.locals (m (with_core (with_locals ls s.core) s)) (law.good_locals s.core h.0)
        (f.runs (with_core (with_locals ls s.core) s) (law.locals ls s.core h.0 g, h.1));
  }

  pub good_kept : (kept : Kept) (r : Ref) → Each (GoodEntry G) kept → IfThere (GoodSuspended G) (kept_at kept r)
  good_kept [] r h = tt
  good_kept (e ∷ more) r h = pick (ref_eq e.0 r) (good_kept more r h.1)
    where
      pick : (b : Bool) → IfThere (GoodSuspended G) (kept_at more r) → IfThere (GoodSuspended G) (if b then Some e.1 else kept_at more r)
      pick true g = h.0
      pick false g = g

  -- ---- scopes

  pub found_good : (names : List Binding) (x : List ℕ) → Each (GoodBinding G) names → IfThere (GoodBinding G) (binding_of names x)
  found_good [] x h = tt
  found_good (b ∷ names) x h = pick (bytes_eq b.name x) (found_good names x h.1)
    where
      pick : (t : Bool) → IfThere (GoodBinding G) (binding_of names x) → IfThere (GoodBinding G) (if t then Some b else binding_of names x)
      pick true g = h.0
      pick false g = g

  placed_good : (bs : List Bound) (places : List Place) (names : List Binding) → Each (GoodPlace G) places → Each (GoodBinding G) names → Each (GoodBinding G) (placed bs places names)
  placed_good [] places names g h = h
  placed_good (b ∷ bs) [] names g h = h
  placed_good (b ∷ bs) (p ∷ places) names g h = placed_good bs places _ g.1 (g.0, h)

  boxes_good : (names : List Binding) (xs : List (List ℕ)) → Each (GoodBinding G) names
      → Each G (filter_map (λ x. option_and_then (λ (b : Binding). box_of_place b.place) (binding_of names x)) xs)
  boxes_good names [] h = tt
  boxes_good names (x ∷ xs) h = at (binding_of names x) (found_good names x h) (boxes_good names xs h)
    where
      at : (o : Option Binding) → IfThere (GoodBinding G) o → Each G (filter_map (λ y. option_and_then (λ (b : Binding). box_of_place b.place) (binding_of names y)) xs)
          → Each G (cons_option (option_and_then (λ (b : Binding). box_of_place b.place) o) (filter_map (λ y. option_and_then (λ (b : Binding). box_of_place b.place) (binding_of names y)) xs))
      at None g k = k
      at (Some b) g k = in_place b.place g
        where
          in_place : (p : Place) → GoodPlace G p → Each G (cons_option (box_of_place p) (filter_map (λ y. option_and_then (λ (b : Binding). box_of_place b.place) (binding_of names y)) xs))
          in_place (Slot i) g = k
          in_place (Boxed r) g = (g, k)

  invalidation_good : (b : Bool) (o : Option Ref) → IfThere G o → IfThere G (if b then o else None)
  invalidation_good true o h = h
  invalidation_good false o h = tt

  pub kept_good : (nowhere : Ref) (bs : List Bound) (boxes : List Ref) → G nowhere → Each G boxes → Each (GoodBinding G) (kept_bindings nowhere bs boxes)
  kept_good nowhere [] boxes g h = tt
  kept_good nowhere (b ∷ bs) [] g h = (g, kept_good nowhere bs [] g tt)
  kept_good nowhere (b ∷ bs) (r ∷ boxes) g h = (h.0, kept_good nowhere bs boxes g h.1)

module _ (P : Core → Type 0) (G : Ref → Type 0) (set : Setting) (law : Law P G set.world) where
  -- the property of the whole state
  abbrev pub W : Whole → Type 0
  W = Wholly P G

  pub unit_holds : Holds (Wholly P G) G Any (pure {S = Whole} {A = Unit {0}} tt)
  unit_holds = pure_holds (Wholly P G) G Any tt tt

  pub value_holds : (v : Value) → Good G v → Holds (Wholly P G) G (Good G) (pure {S = Whole} v)
  value_holds v g = pure_holds (Wholly P G) G (Good G) v g

  pub throw_holds : (A : Type 0) (R : A → Type 0) (t : _) → Holds (Wholly P G) G R (lift (throws set.world {A = A} t))
  throw_holds A R t = lift_holds P G (throws_holds P G set.world law A R t)

  -- ---- scopes

  pub enter_with_holds : (flags : List Bool) (bs : List Bound) (sc : Scope) → GoodScope G sc → Holds (Wholly P G) G (GoodScope G) (enter_with set flags bs sc)
  enter_with_holds flags bs sc g =
      bind (Wholly P G) G (lift_holds P G (enter_scope_holds P G set.world law sc.size flags)) (λ places h.
      pure_holds (Wholly P G) G (GoodScope G) (inner bs flags sc places) (placed_good P G bs places sc.names h g.0, g.1, g.2))

  pub enter_holds : (bs : List Bound) (part : Part) (sc : Scope) → GoodScope G sc → Holds (Wholly P G) G (GoodScope G) (enter set bs part sc)
  enter_holds bs part sc g = enter_with_holds (captured_in bs part) bs sc g

  copied_holds : (b : Binding) (p : Place) → GoodBinding G b → GoodPlace G p → Holds (Wholly P G) G (GoodBinding G) (copied_to set b p)
  copied_holds b (Slot i) g h = pure_holds (Wholly P G) G (GoodBinding G) b g
  copied_holds b (Boxed r) g h = bind (Wholly P G) G (lift_holds P G (copy_box_holds P G set.world law r h)) (λ c k. pure_holds (Wholly P G) G (GoodBinding G) _ k)

  copy_each_holds : (n : ℕ) (names : List Binding) → Each (GoodBinding G) names → Holds (Wholly P G) G (Each (GoodBinding G)) (copy_each set n names)
  copy_each_holds zero names h = pure_holds (Wholly P G) G (Each (GoodBinding G)) names h
  copy_each_holds (suc n) [] h = pure_holds (Wholly P G) G (Each (GoodBinding G)) [] tt
  copy_each_holds (suc n) (b ∷ names) h =
      bind (Wholly P G) G (copy_each_holds n names h.1) (λ rest k. bind (Wholly P G) G (copied_holds b b.place h.0 h.0) (λ c i. pure_holds (Wholly P G) G (Each (GoodBinding G)) (c ∷ rest) (i, k)))

  pub copy_holds : (n : ℕ) (sc : Scope) → GoodScope G sc → Holds (Wholly P G) G (GoodScope G) (copy set n sc)
  copy_holds n sc g =
      bind (Wholly P G) G (lift_holds P G (charges_holds P G set.world law (boxes_among (take n sc.names)))) (λ _ _.
      bind (Wholly P G) G (copy_each_holds n sc.names g.0) (λ names h. pure_holds (Wholly P G) G (GoodScope G) (with_names names 0 sc) (h, g.1, g.2)))

  -- ---- names

  GoodTexts : Type 0
  GoodTexts = (code : ℕ) → IfThere (λ (text : Text). IfThere (Each (Good G)) text.given) (text_at set code)

  input_by : (sc : Scope) (i : ℕ) (o : Option (List Value)) → GoodScope G sc → IfThere (Each (Good G)) o → (s : Core) → P s → Good G (input_of sc s i o)
  input_by sc i None g h s p = input_good P G set.world law sc.inputs i g.1 s p
  input_by sc i (Some values) g h s p = good_or G values i h

  text_good : (sc : Scope) (r : Referred) (o : Option Text) → GoodScope G sc → IfThere (λ (text : Text). IfThere (Each (Good G)) text.given) o → (s : Core) → P s
      → Good G (option_map_or (λ (text : Text). input_of sc s (place_among text.free r) text.given) o V.Undefined)
  text_good sc r None g h s p = tt
  text_good sc r (Some text) g h s p = input_by sc (place_among text.free r) text.given g h s p

  module _ (texts : (code : ℕ) → IfThere (λ (text : Text). IfThere (Each (Good G)) text.given) (text_at set code)) where
    read_or_holds : (form : SpecForm) (x : List ℕ) (sc : Scope) (o : Option Binding) → GoodScope G sc → IfThere (GoodBinding G) o → Holds (Wholly P G) G (Good G) (read_binding_or set form x sc o)
    read_or_holds form x sc (Some b) g h = lift_holds P G (read_holds P G set.world law b.place h)
    read_or_holds form x sc None g h =
        lift_holds P G (record { runs = λ s p. (p, text_good sc (record { form = form; name = x }) (text_at set sc.code) g (texts sc.code) s p) })

    pub read_name_holds : (x : List ℕ) (sc : Scope) → GoodScope G sc → Holds (Wholly P G) G (Good G) (read_name set x sc)
    read_name_holds x sc g = read_or_holds forms.Plain x sc (binding_of sc.names x) g (found_good P G sc.names x g.0)

    pub read_input_holds : (form : SpecForm) (x : List ℕ) (sc : Scope) → GoodScope G sc → Holds (Wholly P G) G (Good G) (read_input set form x sc)
    read_input_holds form x sc g = read_or_holds form x sc None g tt

    assign_binding_holds : (o : Option Binding) (v : Value) → IfThere (GoodBinding G) o → Good G v → Holds (Wholly P G) G Any (assign_binding set o v)
    assign_binding_holds (Some b) v g h = lift_holds P G (assign_holds P G set.world law b.constant b.place v g h)
    assign_binding_holds None v g h = throw_holds (Unit {0}) Any T.Constant

    pub assign_name_holds : (x : List ℕ) (v : Value) (sc : Scope) → GoodScope G sc → Good G v → Holds (Wholly P G) G Any (assign_name set x v sc)
    assign_name_holds x v sc g h = assign_binding_holds (binding_of sc.names x) v (found_good P G sc.names x g.0) h

    first_binding_holds : (o : Option Binding) (v : Value) → IfThere (GoodBinding G) o → Good G v → Holds (Wholly P G) G Any (first_binding set o v)
    first_binding_holds (Some b) v g h = lift_holds P G (first_holds P G set.world law b.place v g h)
    first_binding_holds None v g h = unit_holds

    pub first_name_holds : (x : List ℕ) (v : Value) (sc : Scope) → GoodScope G sc → Good G v → Holds (Wholly P G) G Any (first_name set x v sc)
    first_name_holds x v sc g h = first_binding_holds (binding_of sc.names x) v (found_good P G sc.names x g.0) h

    each_drop_one : (args : List Value) → Each (Good G) args → Each (Good G) (drop 1 args)
    each_drop_one [] h = tt
    each_drop_one (v ∷ args) h = h.1

    pub set_params_holds : (xs : List (List ℕ)) (args : List Value) (sc : Scope) → GoodScope G sc → Each (Good G) args → Holds (Wholly P G) G Any (set_params set xs args sc)
    set_params_holds [] args sc g h = unit_holds
    set_params_holds (x ∷ xs) args sc g h =
        bind (Wholly P G) G (first_name_holds x (argument args 0) sc g (good_or G args 0 h)) (λ _ _. set_params_holds xs (drop 1 args) sc g (each_drop_one args h))

    -- ---- targets

    read_target_holds : (t : Target) (sc : Scope) → GoodTarget G t → GoodScope G sc → Holds (Wholly P G) G (Good G) (read_target set t sc)
    read_target_holds (Variable x) sc t g = read_name_holds x sc g
    read_target_holds (Property a k) sc t g = lift_holds P G (get_holds P G set.world law a k t)

    write_target_holds : (t : Target) (v : Value) (sc : Scope) → GoodTarget G t → Good G v → GoodScope G sc → Holds (Wholly P G) G Any (write_target set t v sc)
    write_target_holds (Variable x) v sc t h g = assign_name_holds x v sc g h
    write_target_holds (Property a k) v sc t h g = lift_holds P G (set_holds P G set.world law a k v t h)

    write_value_holds : (t : Target) (sc : Scope) (v : Value) → GoodTarget G t → Good G v → GoodScope G sc → Holds (Wholly P G) G (Good G) (write_value set t sc v)
    write_value_holds t sc v h i g = bind (Wholly P G) G (write_target_holds t v sc h i g) (λ _ _. value_holds v i)

    pub assign_to_holds : (op : AssignOp) (t : Target) (sc : Scope) (right : Act Whole Value) → GoodTarget G t → GoodScope G sc → Holds (Wholly P G) G (Good G) right
        → Holds (Wholly P G) G (Good G) (assign_to set op t sc right)
    assign_to_holds A.Set t sc right h g f = bind (Wholly P G) G f (λ v i. write_value_holds t sc v h i g)
    assign_to_holds (A.Binary op) t sc right h g f =
        bind (Wholly P G) G (read_target_holds t sc h g) (λ old o. bind (Wholly P G) G f (λ v i.
        bind (Wholly P G) G (lift_holds P G (law.binaries op old v)) (λ w k. write_value_holds t sc w h k g)))
    assign_to_holds (A.Logic op) t sc right h g f =
        bind (Wholly P G) G (read_target_holds t sc h g) (λ old o.
        bind (Wholly P G) G {R = Any} {j = asks (λ (s : Whole). needs_second s.core.store op old)} (record { runs = λ s p. (p, tt) }) (λ needed _.
        chosen (Wholly P G) G (Good G) needed (right >>= write_value set t sc) (pure old) (bind (Wholly P G) G f (λ v i. write_value_holds t sc v h i g)) (value_holds old o)))

    old_or_new : (b : Bool) (v w : Value) → Good G v → Good G w → Good G (if b then v else w)
    old_or_new true v w g h = g
    old_or_new false v w g h = h

    pub update_holds : (op : UpdateOp) (before : Bool) (t : Target) (sc : Scope) → GoodTarget G t → GoodScope G sc → Holds (Wholly P G) G (Good G) (update set op before t sc)
    update_holds op before t sc h g =
        bind (Wholly P G) G (read_target_holds t sc h g) (λ old o. bind (Wholly P G) G (lift_holds P G (one_more_holds P G set.world law op old)) (λ v i.
        bind (Wholly P G) G (write_target_holds t v sc h i g) (λ _ _. value_holds (if before then v else old) (old_or_new before v old i o))))

    -- ---- function values

    pub closure_holds : (f : Function) (sc : Scope) → GoodScope G sc → Holds (Wholly P G) G (Good G) (closure set f sc)
    closure_holds f sc g =
        lift_holds P G (new_closure_holds P G set.world law (next_code sc) (boxes_for sc.names f) sc.inputs (kept_invalidation sc f)
        (boxes_good P G sc.names (outward f) g.0) g.1 (invalidation_good P G (names_invalidation sc.names f) sc.invalidation g.2))

    own_name_holds : (x : List ℕ) (f : Function) (sc : Scope) (flags : List Bool) → GoodScope G sc → Holds (Wholly P G) G (Good G) (with_own_name set x f sc flags)
    own_name_holds x f sc (true ∷ []) g =
        bind (Wholly P G) G (enter_with_holds (true ∷ []) (binding constant x ∷ []) sc g) (λ around h.
        bind (Wholly P G) G (closure_holds f around h) (λ v i. bind (Wholly P G) G (first_name_holds x v around h i) (λ _ _. value_holds v i)))
    own_name_holds x f sc _ g = closure_holds f sc g

    pub named_function_holds : (n : Option (List ℕ)) (f : Function) (sc : Scope) → GoodScope G sc → Holds (Wholly P G) G (Good G) (named_function set n f sc)
    named_function_holds None f sc g = closure_holds f sc g
    named_function_holds (Some x) f sc g = own_name_holds x f sc (captured_in (binding constant x ∷ []) (whole f)) g
