-- What the actions of a run keep, where the few that change a state do.
use Rattle.std.proofs.Common.{◌≡◌, ℕ, zero, suc, ◌+◌, pos, ℤ, neg_ℤ, Bool, true, false, List, [], ◌∷◌, ◌++◌, map, length, take, Option, Some, None, Result, Ok, Err, slice_get, unwrap_or, nat_eq, if◌then◌else◌, subst, sym, refl}
use Rattle.std.specs.List.{repeat}
use Rattle.std.specs.BTreeMap as tree
use Rattle.std.specs.Cmp.Lexicographic.{pointwise}
use Rattle.std.specs.Map.{lookup}
use Rattle.std.specs.Ordering.{nat_cmp}
use Rattle.std.specs.Option.{option_map_or, option_map, option_and_then}
use Rattle.ob_base.specs.declared.operators.BinaryOp.{BinaryOp}
use Rattle.ob_base.specs.declared.operators.CompareOp.{CompareOp}
use Rattle.ob_base.specs.declared.operators.UnaryOp.{UnaryOp}
use Rattle.ob_base.specs.declared.operators.UnaryOp.TheVariants as U
use Rattle.ob_base.specs.declared.operators.UpdateOp.{UpdateOp}
use Rattle.ob_items.specs.Bodies.{box_of, inputs_of, closure_of, kind_of}
use Rattle.ob_items.specs.IndexText.{index_in}
use Rattle.ob_items.specs.Items.{at_item}
use Rattle.ob_items.specs.Item.{Item}
use Rattle.ob_items.specs.Numbers.{ranged}
use Rattle.ob_items.specs.Messages.{message_of, kind_of_thrown}
use Rattle.ob_items.specs.Properties.{Keyed, property, values_of}
use Rattle.ob_items.specs.Region.{Cells}
use Rattle.ob_items.specs.declared.frame.Frame.{Frame}
use Rattle.ob_items.specs.declared.frame.Taken.{Taken}
use Rattle.ob_items.specs.declared.frame.Taken.TheVariants as K
use Rattle.ob_items.specs.declared.item.Body.{Body}
use Rattle.ob_items.specs.declared.item.Body.TheVariants as B
use Rattle.ob_items.specs.declared.item.Closure.{Closure as Kept}
use Rattle.ob_items.specs.declared.thrown.Thrown.{Thrown}
use Rattle.ob_items.specs.declared.thrown.Thrown.TheVariants as T
use Rattle.ob_items.specs.declared.value.CodeKey.{CodeKey}
use Rattle.ob_items.specs.declared.value.Ref.{Ref}
use Rattle.ob_items.specs.declared.value.Value.{Value}
use Rattle.ob_items.specs.declared.value.Value.TheVariants as V
use Rattle.ob_values.specs.BuiltinNames.{method_number}
use Rattle.ob_values.specs.Operators.{unary_result, compare_result, typeof_value, number_value}
use Rattle.ob_values.specs.Store.{Store, region_of, read_item, body_of}
use Rattle.ob_actions.specs.Act.{Act, pure, updates}
use Rattle.ob_actions.specs.Calls.{Callee, Called, Method, method_at, simple_method, simple_function}
use Rattle.ob_actions.specs.Core.{Core, Effect, with_locals, with_log, with_effect}
use Rattle.ob_actions.specs.Generators.{keeps}
use Rattle.ob_actions.specs.Meters.{spend, charges, takes_step, allocate, makes, literal, literal_value, counts, throws}
use Rattle.ob_actions.specs.NewItems.{new_array, new_object, new_closure, new_generator}
use Rattle.ob_actions.specs.Operators.{answer, answer_bool, unary, binary, compare, one_more, step_of}
use Rattle.ob_actions.specs.Output.{then_call}
use Rattle.ob_actions.specs.Places.{Place, Slot, Boxed, held, input_at, count_true, count_false, fresh_locals, make_places, enter_scope, copy_box, read_held, read, first, assign}
use Rattle.ob_actions.specs.Properties.{Key, Word, Computed, put_element, put_property}
use Rattle.ob_actions.specs.Requests.{Reply}
use Rattle.ob_actions.specs.World.{World}
use Rattle.ob_actions.proofs.Each.{each_append, each_take, each_set, each_repeat}
use Rattle.ob_actions.proofs.Holds.{Any, After, Holds, bind, pure_holds, choice}
use Rattle.ob_actions.specs.Within.{Each, Good, GoodBody, GoodLocals, GoodPlace, IfThere}

-- ---- what is good

abbrev pub GoodKey : (Ref → Type 0) → Key → Type 0
GoodKey G (Word units) = Unit {0}
GoodKey G (Computed v) = Good G v

abbrev pub GoodCallee : (Ref → Type 0) → Callee → Type 0
GoodCallee G (Called v) = Good G v
GoodCallee G (Method r n) = G r

abbrev pub GoodReply : (Ref → Type 0) → Reply → Type 0
GoodReply G reply = Good G reply.value

abbrev pub GoodResult : (Ref → Type 0) → Result Value Thrown → Type 0
GoodResult G (Ok v) = Good G v
GoodResult G (Err t) = Unit {0}

-- the actions that change a state keep the property, and what is reached from what is good is good
pub record Law (P : Core → Type 0) (G : Ref → Type 0) (world : World) : Type 0 where
  pub spends : (made steps : ℕ) → Holds P G Any (spend world made steps)
  pub counts : (n : ℕ) → Holds P G Any (counts world n)
  pub allocates : (body : Body) (cost : ℕ) → GoodBody G body → Holds P G G (allocate world body cost)
  pub literals : (units : List ℕ) → Holds P G G (literal world units)
  pub inside : (s : Core) → P s → (r : Ref) → G r → IfThere (GoodBody G) (body_of s.store r)
  pub good_locals : (s : Core) → P s → GoodLocals G s.locals
  pub locals : (ls : List (Option Value)) (s : Core) → P s → GoodLocals G ls → P (with_locals ls s)
  pub binaries : (op : BinaryOp) (a b : Value) → Holds P G (Good G) (binary world op a b)
  pub methods : (r : Ref) (n : ℕ) (args : List Value) → G r → Each (Good G) args → Holds P G (Good G) (simple_method world r n args)
  pub functions : (n : ℕ) (args : List Value) → Each (Good G) args → Holds P G (Good G) (simple_function world n args)
  pub boxes : (r : Ref) (v : Value) → G r → Good G v → Holds P G Any (first world (Boxed r) v)
  pub elements : (r : Ref) (values : List Value) (i : ℕ) (v : Value) (s : Core) → P s → G r → Good G v → body_of s.store r ≡ Some (B.Array values)
      → After P G Any (put_element world r (length values) i v s)
  pub properties : (r : Ref) (properties : Keyed) (key : List ℕ) (v : Value) (s : Core) → P s → G r → Good G v → body_of s.store r ≡ Some (B.Object properties)
      → After P G Any (put_property world r key v s)
  pub thens : (r : Ref) (f : Value) → G r → Good G f → Holds P G (Good G) (then_call world r f)
  pub keeps : (r : Ref) (k : Taken) (s : Core) → G r → P s → P (keeps r k s)
  pub logs : (text : List ℕ) (s : Core) → P s → P (with_log text s)
  pub effects : (e : Effect) (s : Core) → P s → P (with_effect e s)

-- a reader of items reads the body
pub read_by : {X : Type 0} (f : Body → Option X) (s : Store) (r : Ref) → read_item f s r ≡ option_and_then f (body_of s r)
read_by {X} f s r = in_region (region_of s r.region.0)
  where
    at : (o : Option Item) → option_map_or (λ (item : Item). f item.body) o None ≡ option_and_then f (option_map_or (λ (item : Item). Some item.body) o None)
    at None = refl
    at (Some item) = refl

    in_region : (o : Option Cells) → option_map_or (λ (c : Cells). at_item f c.items r.item) o None ≡ option_and_then f (option_map_or (λ (c : Cells). at_item (λ body. Some body) c.items r.item) o None)
    in_region None = refl
    in_region (Some c) = at (slice_get c.items r.item)

module _ (G : Ref → Type 0) where
  pub good_or : (values : List Value) (i : ℕ) → Each (Good G) values → Good G (unwrap_or (slice_get values i) V.Undefined)
  good_or [] i h = tt
  good_or (v ∷ values) zero h = h.0
  good_or (v ∷ values) (suc i) h = good_or values i h.1

  pub good_held : (ls : List (Option Value)) (i : ℕ) → GoodLocals G ls → IfThere (Good G) (unwrap_or (slice_get ls i) None)
  good_held [] i h = tt
  good_held (v ∷ ls) zero h = h.0
  good_held (v ∷ ls) (suc i) h = good_held ls i h.1

  pub left_of : {X : Type 0} (P : X → Type 0) (xs ys : List X) → Each P (xs ++ ys) → Each P xs
  left_of P [] ys h = tt
  left_of P (x ∷ xs) ys h = (h.0, left_of P xs ys h.1)

  pub right_of : {X : Type 0} (P : X → Type 0) (xs ys : List X) → Each P (xs ++ ys) → Each P ys
  right_of P [] ys h = h
  right_of P (x ∷ xs) ys h = right_of P xs ys h.1

  one_of : (b : Bool) (x y : Option Value) → IfThere (Good G) x → IfThere (Good G) y → IfThere (Good G) (if b then x else y)
  one_of true x y f g = f
  one_of false x y f g = g

  pub good_lookup : {X : Type 0} (test : X → Bool) (es : List (X × Value)) → Each (Good G) (map (λ e. e.1) es) → IfThere (Good G) (lookup test es)
  good_lookup test [] h = tt
  good_lookup test (e ∷ es) h = one_of (test e.0) (Some e.1) (lookup test es) h.0 (good_lookup test es h.1)

  pub good_there : (o : Option Value) → IfThere (Good G) o → Good G (unwrap_or o V.Undefined)
  good_there None h = tt
  good_there (Some v) h = h

  at_key : (p : Keyed) (key : List ℕ) (o : Option ℕ) → Each (Good G) (values_of p)
      → IfThere (Good G) (option_map_or (λ n. lookup (tree.is_at (nat_cmp n)) p.indices) o (lookup (pointwise nat_eq key) p.named))
  at_key p key None h = good_lookup _ p.named (right_of (Good G) (map (λ e. e.1) p.indices) (map (λ e. e.1) p.named) h)
  at_key p key (Some n) h = good_lookup _ p.indices (left_of (Good G) (map (λ e. e.1) p.indices) (map (λ e. e.1) p.named) h)

  pub good_property : (p : Keyed) (key : List ℕ) → Each (Good G) (values_of p) → IfThere (Good G) (property p key)
  good_property p key h = at_key p key (index_in key) h

  pub good_array_property : (values : List Value) (key : List ℕ) (o : Option ℕ) → Each (Good G) values → Good G (unwrap_or (option_map_or (λ i. slice_get values i) o None) V.Undefined)
  good_array_property values key None h = tt
  good_array_property values key (Some i) h = good_or values i h

  pub value_of : (b : Bool) (v w : Value) → Good G v → Good G w → Good G (if b then v else w)
  value_of true v w f g = f
  value_of false v w f g = g

  pub box_good : (o : Option Body) → IfThere (GoodBody G) o → IfThere (Good G) (unwrap_or (option_and_then box_of o) None)
  box_good None h = tt
  box_good (Some (B.Box v)) h = h
  box_good (Some _) h = tt

  pub inputs_good : (o : Option Body) → IfThere (GoodBody G) o → Each (Good G) (unwrap_or (option_and_then inputs_of o) [])
  inputs_good None h = tt
  inputs_good (Some (B.Inputs vs)) h = h
  inputs_good (Some _) h = tt

  pub closure_good : (o : Option Body) → IfThere (GoodBody G) o → IfThere (λ (c : Kept). Each G c.boxes × G c.inputs × IfThere G c.invalidation) (option_and_then closure_of o)
  closure_good None h = tt
  closure_good (Some (B.Closure c)) h = h
  closure_good (Some _) h = tt

  method_good : (r : Ref) (o : Option Body) (word : List ℕ) → G r → IfThere (GoodCallee G) (option_map_or (λ body. option_map (Method r) (method_number (kind_of body) word)) o None)
  method_good r None word g = tt
  method_good r (Some body) word g = by (method_number (kind_of body) word)
    where
      by : (o : Option ℕ) → IfThere (GoodCallee G) (option_map (Method r) o)
      by None = tt
      by (Some n) = g

  pub callee_good : (s : Store) (v : Value) (word : List ℕ) → Good G v → IfThere (GoodCallee G) (method_at s v word)
  callee_good s (V.Ref r) word g = method_good r (body_of s r) word g
  callee_good s _ word g = tt

module _ (P : Core → Type 0) (G : Ref → Type 0) (world : World) (law : Law P G world) where
  -- ---- meters

  pub charges_holds : (n : ℕ) → Holds P G Any (charges world n)
  charges_holds zero = pure_holds P G Any tt tt
  charges_holds (suc n) = law.spends (suc n) 0

  pub step_holds : Holds P G Any (takes_step world)
  step_holds = law.spends 0 1

  pub makes_holds : (body : Body) (cost : ℕ) → GoodBody G body → Holds P G G (makes world body cost)
  makes_holds body cost g = bind P G (law.spends cost 0) (λ _ _. law.allocates body cost g)

  ref_value : Ref → Act Core Value
  ref_value r = pure (V.Ref r)

  pub literal_value_holds : (units : List ℕ) → Holds P G (Good G) (literal_value world units)
  literal_value_holds units = bind P G (law.literals units) (λ r g. pure_holds P G (Good G) (V.Ref r) g)

  pub throws_holds : (A : Type 0) (R : A → Type 0) (t : Thrown) → Holds P G R (throws world {A = A} t)
  throws_holds A R t =
      bind P G (law.spends 1 0) (λ _ _. bind P G (law.literals (message_of t)) (λ message m.
      bind P G (law.allocates (B.Error (kind_of_thrown t) message) 1 m) (λ r g. record { runs = λ s h. (h, g) })))

  -- ---- operators

  answer_holds : (o : Result Value Thrown) → GoodResult G o → Holds P G (Good G) (answer world o)
  answer_holds (Ok v) g = pure_holds P G (Good G) v g
  answer_holds (Err t) g = throws_holds Value (Good G) t

  number_good : (o : Result ℤ Thrown) → GoodResult G (number_value o)
  number_good (Ok n) = tt
  number_good (Err t) = tt

  unary_good : (s : Store) (op : UnaryOp) (v : Value) → GoodResult G (unary_result s op v)
  unary_good s U.Not v = tt
  unary_good s U.Minus (V.Int n) = number_good (ranged (neg_ℤ n))
  unary_good s U.Plus (V.Int n) = number_good (ranged n)
  unary_good s U.BitNot (V.Int n) = tt
  unary_good s U.Void v = tt
  unary_good s _ _ = tt

  pub unary_holds : (op : UnaryOp) (v : Value) → Holds P G (Good G) (unary world op v)
  unary_holds U.Typeof v = record { runs = λ s h. (literal_value_holds (typeof_value s.store v)).runs s h }
  unary_holds op v = record { runs = λ s h. (answer_holds (unary_result s.store op v) (unary_good s.store op v)).runs s h }

  answer_bool_holds : (o : Result Bool Thrown) → Holds P G (Good G) (answer_bool world o)
  answer_bool_holds (Ok b) = pure_holds P G (Good G) (V.Bool b) tt
  answer_bool_holds (Err t) = throws_holds Value (Good G) t

  pub compare_holds : (op : CompareOp) (a b : Value) → Holds P G (Good G) (compare world op a b)
  compare_holds op a b = record { runs = λ s h. (answer_bool_holds (compare_result s.store op a b)).runs s h }

  pub one_more_holds : (op : UpdateOp) (v : Value) → Holds P G (Good G) (one_more world op v)
  one_more_holds op (V.Int n) = law.binaries (step_of op) (V.Int n) (V.Int (pos 1))
  one_more_holds op _ = throws_holds Value (Good G) T.WrongOperand

  -- ---- places

  pub make_places_holds : (size : ℕ) (flags : List Bool) → Holds P G (Each (GoodPlace G)) (make_places world size flags)
  make_places_holds size [] = pure_holds P G (Each (GoodPlace G)) [] tt
  make_places_holds size (true ∷ flags) =
      bind P G (law.allocates (B.Box None) 1 tt) (λ r g. bind P G (make_places_holds size flags) (λ ps h. pure_holds P G (Each (GoodPlace G)) (Boxed r ∷ ps) (g, h)))
  make_places_holds size (false ∷ flags) =
      bind P G (make_places_holds (suc size) flags) (λ ps h. pure_holds P G (Each (GoodPlace G)) (Slot size ∷ ps) (tt, h))

  fresh_good : (size more : ℕ) (ls : List (Option Value)) → GoodLocals G ls → GoodLocals G (take size ls ++ repeat more (None ∷ []))
  fresh_good size more ls h =
      each_append (IfThere (Good G)) (take size ls) (repeat more (None ∷ [])) (each_take (IfThere (Good G)) size ls h) (each_repeat (IfThere (Good G)) more (None ∷ []) (tt, tt))

  pub enter_scope_holds : (size : ℕ) (flags : List Bool) → Holds P G (Each (GoodPlace G)) (enter_scope world size flags)
  enter_scope_holds size flags =
      bind P G (charges_holds (count_true flags)) (λ _ _.
      bind P G {R = Any} {j = updates (fresh_locals size (count_false flags))} (record { runs = λ s h. (law.locals _ s h (fresh_good size (count_false flags) s.locals (law.good_locals s h)), tt) })
      (λ _ _. make_places_holds size flags))

  box_held : (r : Ref) → G r → (s : Core) → P s → IfThere (Good G) (held s (Boxed r))
  box_held r g s h =
      subst (λ o. IfThere (Good G) (unwrap_or o None)) (sym (read_by box_of s.store r)) (box_good G (body_of s.store r) (law.inside s h r g))

  pub held_good : (p : Place) → GoodPlace G p → (s : Core) → P s → IfThere (Good G) (held s p)
  held_good (Slot i) g s h = good_held G s.locals i (law.good_locals s h)
  held_good (Boxed r) g s h = box_held r g s h

  pub input_good : (inputs : Ref) (i : ℕ) → G inputs → (s : Core) → P s → Good G (input_at inputs i s)
  input_good inputs i g s h =
      good_or G (unwrap_or (read_item inputs_of s.store inputs) []) i
      (subst (λ o. Each (Good G) (unwrap_or o [])) (sym (read_by inputs_of s.store inputs)) (inputs_good G (body_of s.store inputs) (law.inside s h inputs g)))

  pub copy_box_holds : (r : Ref) → G r → Holds P G G (copy_box world r)
  copy_box_holds r g = record { runs = λ s h. (law.allocates (B.Box (held s (Boxed r))) 1 (box_held r g s h)).runs s h }

  read_held_holds : (o : Option Value) → IfThere (Good G) o → Holds P G (Good G) (read_held world o)
  read_held_holds None g = throws_holds Value (Good G) T.UsedBefore
  read_held_holds (Some v) g = pure_holds P G (Good G) v g

  pub read_holds : (p : Place) → GoodPlace G p → Holds P G (Good G) (read world p)
  read_holds p g = record { runs = λ s h. (read_held_holds (held s p) (held_good p g s h)).runs s h }

  pub first_holds : (p : Place) (v : Value) → GoodPlace G p → Good G v → Holds P G Any (first world p v)
  first_holds (Slot i) v g good = record { runs = λ s h. (law.locals _ s h (each_set (IfThere (Good G)) s.locals i (Some v) (law.good_locals s h) good), tt) }
  first_holds (Boxed r) v g good = law.boxes r v g good

  pub assign_holds : (constant : Bool) (p : Place) (v : Value) → GoodPlace G p → Good G v → Holds P G Any (assign world constant p v)
  assign_holds constant p v g good =
      bind P G (read_holds p g) (λ _ _. record { runs = λ s h. choice P G Any constant (throws world T.Constant s) (first world p v s) ((throws_holds (Unit {0}) Any T.Constant).runs s h) ((first_holds p v g good).runs s h) })

  -- ---- new items

  pub new_array_holds : (values : List Value) → Each (Good G) values → Holds P G (Good G) (new_array world values)
  new_array_holds values g = bind P G (makes_holds (B.Array values) (1 + length values) g) (λ r h. pure_holds P G (Good G) (V.Ref r) h)

  pub new_object_holds : Holds P G (Good G) (new_object world)
  new_object_holds = bind P G (makes_holds _ 1 tt) (λ r h. pure_holds P G (Good G) (V.Ref r) h)

  pub new_closure_holds : (code : CodeKey) (boxes : List Ref) (inputs : Ref) (invalidation : Option Ref) → Each G boxes → G inputs → IfThere G invalidation
      → Holds P G (Good G) (new_closure world code boxes inputs invalidation)
  new_closure_holds code boxes inputs invalidation f g h = bind P G (makes_holds _ 1 (f, g, h)) (λ r k. pure_holds P G (Good G) (V.Ref r) k)

  pub new_generator_holds : (frame : Frame) → Holds P G G (new_generator world frame)
  new_generator_holds frame = makes_holds (B.Generator (K.Held frame)) 1 tt
