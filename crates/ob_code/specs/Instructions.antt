-- What each instruction does that goes no call deeper (this project): the actions are those of the meaning of trees.
use Rattle.std.specs.Prelude.{ℕ, zero, suc, ◌+◌, ◌-◌, Bool, true, false, List, [], ◌∷◌, ◌++◌, length, take, drop, Option, Some, None, slice_get, codes, if◌then◌else◌}
use Rattle.std.specs.List.{repeat}
use Rattle.std.specs.Option.{option_map_or}
use Rattle.ob_items.specs.declared.item.Body.{Body}
use Rattle.ob_items.specs.declared.item.Body.TheVariants as B
use Rattle.ob_items.specs.declared.thrown.Thrown.TheVariants as T
use Rattle.ob_items.specs.declared.value.Ref.{Ref}
use Rattle.ob_items.specs.declared.value.Value.{Value}
use Rattle.ob_items.specs.declared.value.Value.TheVariants as V
use Rattle.ob_values.specs.Effects.{argument}
use Rattle.ob_values.specs.Operators.{is_truthy}
use Rattle.ob_values.specs.Store.{body_of}
use Rattle.ob_actions.specs.Act.{Go, Act, ◌>>=◌, pure}
use Rattle.ob_actions.specs.Calls.{Callee, Called, Method, member_callee, construct}
use Rattle.ob_actions.specs.Core.{Core, with_locals}
use Rattle.ob_actions.specs.Meters.{charges, takes_step, allocate, literal_value, throws}
use Rattle.ob_actions.specs.NewItems.{new_array, new_object, new_closure, new_generator, blank_frame}
use Rattle.ob_actions.specs.Operators.{needs_second, unary, binary, compare, one_more}
use Rattle.ob_actions.specs.Output.{change}
use Rattle.ob_actions.specs.Places.{Slot, Boxed, read, first, assign, input_at, fresh_locals, copy_box}
use Rattle.ob_actions.specs.Properties.{Word, Computed, units_of_key, get_property, set_property}
use Rattle.ob_actions.specs.World.{World}
use Rattle.ob_code.specs.Code.{Code, code_of, function_at}
use Rattle.ob_code.specs.Configs.{Here, Own, Config, Running, Done, Paused, Stuck, with_boxes}
use Rattle.ob_code.specs.Leaves.{leaves, given}
use Rattle.ob_code.specs.declared.chunk.Chunk.{Chunk}
use Rattle.ob_code.specs.declared.chunk.Methods.{Methods}
use Rattle.ob_code.specs.declared.entry.Entry.{Entry}
use Rattle.ob_code.specs.declared.entry.Entry.TheVariants as entry
use Rattle.ob_code.specs.declared.entry.Leaving.{Leaving}
use Rattle.ob_code.specs.declared.entry.Leaving.TheVariants as leaving
use Rattle.ob_code.specs.declared.op.Op.{Op}
use Rattle.ob_code.specs.declared.op.Op.TheVariants as op

-- ---- operands

-- so many operands, the deepest first, and those below them
abbrev pub gathered : ℕ → List Value → List Value → Option (List Value × List Value)
gathered zero st values = Some (values, st)
gathered (suc n) (v ∷ st) values = gathered n st (v ∷ values)
gathered (suc n) [] values = None

-- what is called is two operands: for a method its receiver and its number, for a value undefined and the value
abbrev pub receiver_of : Callee → Value
receiver_of (Called f) = V.Undefined
receiver_of (Method r n) = V.Ref r

abbrev pub function_of : Callee → Value
function_of (Called f) = f
function_of (Method r n) = V.Builtin n

abbrev pub callee_of : Value → Value → Callee
callee_of (V.Ref r) (V.Builtin n) = Method r n
callee_of receiver f = Called f

-- ---- boxes and locals

-- the boxes at these places
abbrev pub boxes_at : List Ref → List ℕ → List Ref
boxes_at boxes [] = []
boxes_at boxes (i ∷ is) = option_map_or (λ r. r ∷ boxes_at boxes is) (slice_get boxes i) (boxes_at boxes is)

-- the first arguments as locals
abbrev pub first_locals : ℕ → List Value → List (Option Value)
first_locals zero args = []
first_locals (suc n) args = Some (argument args 0) ∷ first_locals n (drop 1 args)

-- what is there, or the call is stuck
abbrev pub where_there : {A : Type 0} → Option A → (A → Config) → Config
where_there None k = Stuck
where_there (Some a) k = k a

abbrev pub text_of : Code → Option Methods → Option (List ℕ)
text_of code None = None
text_of code (Some m) = slice_get code.texts m.name

module _ (world : World) where
  abbrev pub make_boxes : ℕ → Act Core (List Ref)
  make_boxes zero = pure []
  make_boxes (suc n) = allocate world (B.Box None) 1 >>= (λ r. make_boxes n >>= (λ boxes. pure (r ∷ boxes)))

  -- so many new boxes, which are charged together
  abbrev pub new_boxes : ℕ → Act Core (List Ref)
  new_boxes n = charges world n >>= (λ _. make_boxes n)

  abbrev pub copy_each : List Ref → Act Core (List Ref)
  copy_each [] = pure []
  copy_each (r ∷ boxes) = copy_box world r >>= (λ c. copy_each boxes >>= (λ copies. pure (c ∷ copies)))

  -- new boxes with the values of these
  abbrev pub copied : List Ref → Act Core (List Ref)
  copied boxes = charges world (length boxes) >>= (λ _. copy_each boxes)

  -- ---- how an action goes on: with a value that is pushed, with none, by a test

  abbrev pub valued : Act Core Value → ℕ → List Value → List Entry → Core → Own → Config
  valued k next st es s o = given world (k s) es o (λ v t. Running next (v ∷ st) es t o)

  abbrev pub acted : {A : Type 0} → Act Core A → ℕ → List Value → List Entry → Core → Own → Config
  acted k next st es s o = given world (k s) es o (λ _ t. Running next st es t o)

  abbrev pub tested : Act Core Value → ℕ → ℕ → List Value → List Entry → Core → Own → Config
  tested k truthy falsy st es s o = given world (k s) es o (λ v t. Running (if is_truthy t.store v then truthy else falsy) st es t o)

  -- a turn of a loop takes a step and goes back; else the loop is closed
  abbrev pub turn : Bool → ℕ → ℕ → List Value → List Entry → Core → Own → Config
  turn true n pc st es s o = acted (takes_step world) (pc - n) st es s o
  turn false n pc st [] s o = Stuck
  turn false n pc st (e ∷ es) s o = Running (pc + 1) st es s o

  abbrev pub turned : Act Core Value → ℕ → ℕ → List Value → List Entry → Core → Own → Config
  turned k n pc st es s o = given world (k s) es o (λ v t. turn (is_truthy t.store v) n pc st es t o)

  -- an action that throws whatever comes
  abbrev pub thrown : Act Core ⊥ → List Entry → Core → Own → Config
  thrown k es s o = given world (k s) es o (λ never t. absurd never)

  abbrev pub logic : Bool → ℕ → ℕ → Value → List Value → List Entry → Core → Own → Config
  logic true n pc v st es s o = Running (pc + 1) st es s o
  logic false n pc v st es s o = Running (pc + 1 + n) (v ∷ st) es s o

  -- ---- arrays, calls by `new`, function values

  abbrev pub array_of_operands : Option (List Value × List Value) → ℕ → List Entry → Core → Own → Config
  array_of_operands None next es s o = Stuck
  array_of_operands (Some p) next es s o = valued (new_array world p.0) next p.1 es s o

  abbrev pub constructed : List Value → List Value → ℕ → List Entry → Core → Own → Config
  constructed args [] next es s o = Stuck
  constructed args (c ∷ st) next es s o = valued (construct world c args) next st es s o

  abbrev pub constructed_by : Option (List Value × List Value) → ℕ → List Entry → Core → Own → Config
  constructed_by None next es s o = Stuck
  constructed_by (Some p) next es s o = constructed p.0 p.1 next es s o

  abbrev pub called_by : Value → List ℕ → ℕ → List Value → List Entry → Core → Own → Config
  called_by v word next st es s o =
      given world (member_callee world v word s) es o (λ c t. Running next (function_of c ∷ receiver_of c ∷ st) es t o)

  abbrev pub closure : Here → ℕ → Code → Own → Act Core Value
  closure here function code o =
      new_closure world (record { code = here.key.code; function = function }) (boxes_at o.boxes code.captures) here.inputs
      (if code.invalidation then here.invalidation else None)

  -- ---- what a loop goes over: an array or a generator object

  abbrev pub over : Option Body → Ref → ℕ → ℕ → ℕ → List Value → List Entry → Core → Own → Config
  over (Some (B.Array values)) r out again next st es s o = Running next st (entry.Elements out again r 0 ∷ es) s o
  over (Some (B.Generator kept)) r out again next st es s o = Running next st (entry.Pulls out again r ∷ es) s o
  over _ r out again next st es s o = thrown (throws world T.NotIterable) es s o

  abbrev pub over_value : Value → ℕ → ℕ → ℕ → List Value → List Entry → Core → Own → Config
  over_value (V.Ref r) out again next st es s o = over (body_of s.store r) r out again next st es s o
  over_value v out again next st es s o = thrown (throws world T.NotIterable) es s o

  -- the end of a part that followed another: that one's end is the end of both
  abbrev pub after_last : Option Leaving → ℕ → List Value → List Entry → Core → Own → Config
  after_last None next st es s o = Running next st es s o
  after_last (Some l) next st es s o = leaves world l es s o

  -- a generator object, which goes on at a place
  abbrev pub begun : Here → ℕ → List Entry → Core → Own → Config
  begun here place es s o =
      given world (new_generator world (blank_frame here.key.code here.inputs) s) es o
      (λ r t. Done (Go (V.Ref r) t)
      ((r, record { here = here; place = place; entries = []; boxes = o.boxes; locals = s.locals }) ∷ o.frames))

module _ (world : World) (chunk : Chunk) (code : Code) (here : Here) where
  abbrev pub act : Op → ℕ → List Value → List Entry → Core → Own → Config
  -- values
  act op.Undefined pc st es s o = Running (pc + 1) (V.Undefined ∷ st) es s o
  act op.Null pc st es s o = Running (pc + 1) (V.Null ∷ st) es s o
  act (op.Bool b) pc st es s o = Running (pc + 1) (V.Bool b ∷ st) es s o
  act (op.Int n) pc st es s o = Running (pc + 1) (V.Int n ∷ st) es s o
  act (op.Builtin n) pc st es s o = Running (pc + 1) (V.Builtin n ∷ st) es s o
  act (op.Text t) pc st es s o = where_there (slice_get code.texts t) (λ units. valued world (literal_value world units) (pc + 1) st es s o)
  -- bindings
  act (op.GetLocal i) pc st es s o = valued world (read world (Slot i)) (pc + 1) st es s o
  act (op.GetBox i) pc st es s o = where_there (slice_get o.boxes i) (λ r. valued world (read world (Boxed r)) (pc + 1) st es s o)
  act (op.SetLocal i) pc (v ∷ st) es s o = valued world (assign world false (Slot i) v >>= (λ _. pure v)) (pc + 1) st es s o
  act (op.SetBox i) pc (v ∷ st) es s o =
      where_there (slice_get o.boxes i) (λ r. valued world (assign world false (Boxed r) v >>= (λ _. pure v)) (pc + 1) st es s o)
  act (op.InitLocal i) pc (v ∷ st) es s o = acted world (first world (Slot i) v) (pc + 1) st es s o
  act (op.InitBox i) pc (v ∷ st) es s o = where_there (slice_get o.boxes i) (λ r. acted world (first world (Boxed r) v) (pc + 1) st es s o)
  act op.Constant pc st es s o = thrown world (throws world T.Constant) es s o
  act (op.Argument i) pc st es s o = Running (pc + 1) (argument o.args i ∷ st) es s o
  act (op.Input i) pc st es s o = Running (pc + 1) (input_at here.inputs i s ∷ st) es s o
  -- operators
  act (op.Unary u) pc (x ∷ st) es s o = valued world (unary world u x) (pc + 1) st es s o
  act (op.Binary b) pc (y ∷ x ∷ st) es s o = valued world (binary world b x y) (pc + 1) st es s o
  act (op.Compare c) pc (y ∷ x ∷ st) es s o = valued world (compare world c x y) (pc + 1) st es s o
  act (op.Logic l n) pc (v ∷ st) es s o = logic world (needs_second s.store l v) n pc v st es s o
  act (op.OneMore u) pc (x ∷ st) es s o = valued world (one_more world u x) (pc + 1) st es s o
  -- operands
  act op.Drop pc (v ∷ st) es s o = Running (pc + 1) st es s o
  act op.Dup pc (v ∷ st) es s o = Running (pc + 1) (v ∷ v ∷ st) es s o
  act op.DupTwo pc (v ∷ w ∷ st) es s o = Running (pc + 1) (v ∷ w ∷ v ∷ w ∷ st) es s o
  act op.Tuck pc (v ∷ w ∷ st) es s o = Running (pc + 1) (v ∷ w ∷ v ∷ st) es s o
  act op.TuckTwo pc (v ∷ w ∷ x ∷ st) es s o = Running (pc + 1) (v ∷ w ∷ x ∷ v ∷ st) es s o
  act op.Nip pc (v ∷ w ∷ st) es s o = Running (pc + 1) (v ∷ st) es s o
  act op.NipTwo pc (v ∷ w ∷ x ∷ st) es s o = Running (pc + 1) (v ∷ st) es s o
  -- properties
  act (op.Member t) pc (x ∷ st) es s o =
      where_there (slice_get code.texts t) (λ units. valued world (get_property world x (Word units)) (pc + 1) st es s o)
  act op.Index pc (k ∷ x ∷ st) es s o = valued world (get_property world x (Computed k)) (pc + 1) st es s o
  act (op.SetMember t) pc (v ∷ x ∷ st) es s o =
      where_there (slice_get code.texts t) (λ units. valued world (set_property world x (Word units) v >>= (λ _. pure v)) (pc + 1) st es s o)
  act op.SetIndex pc (v ∷ k ∷ x ∷ st) es s o = valued world (set_property world x (Computed k) v >>= (λ _. pure v)) (pc + 1) st es s o
  -- calls
  act (op.Method m) pc (x ∷ st) es s o =
      where_there (text_of code (slice_get code.methods m)) (λ word. called_by world x word (pc + 1) st es s o)
  act (op.New n) pc st es s o = constructed_by world (gathered n st []) (pc + 1) es s o
  -- arrays, objects, functions, changes
  act (op.Array n) pc st es s o = array_of_operands world (gathered n st []) (pc + 1) es s o
  act op.Object pc st es s o = valued world (new_object world) (pc + 1) st es s o
  act (op.SetProp t) pc (v ∷ x ∷ st) es s o =
      where_there (slice_get code.texts t) (λ units. acted world (set_property world x (Word units) v) (pc + 1) (x ∷ st) es s o)
  act op.Key pc (k ∷ st) es s o = acted world (units_of_key world (Computed k)) (pc + 1) (k ∷ st) es s o
  act op.SetKey pc (v ∷ k ∷ x ∷ st) es s o = acted world (set_property world x (Computed k) v) (pc + 1) (x ∷ st) es s o
  act (op.Closure f) pc st es s o =
      where_there (function_at chunk f) (λ c. valued world (closure world here f (code_of c) o) (pc + 1) st es s o)
  act (op.Change c) pc (holder ∷ v ∷ st) es s o = acted world (change world holder c v) (pc + 1) st es s o
  -- scopes
  act (op.Arguments n more) pc st es s o =
      Running (pc + 1) st es (with_locals (first_locals n o.args ++ repeat more (None ∷ [])) s) o
  act (op.Enter size more) pc st es s o = Running (pc + 1) st es (fresh_locals size more s) o
  act (op.Boxes kept n) pc st es s o =
      given world (new_boxes world n s) es o (λ boxes t. Running (pc + 1) st es t (with_boxes (take kept o.boxes ++ boxes) o))
  act (op.Copy start n) pc st es s o =
      given world (copied world (take n (drop start o.boxes)) s) es o
      (λ boxes t. Running (pc + 1) st es t (with_boxes (take start o.boxes ++ boxes) o))
  act (op.Keep size kept) pc st es s o = Running (pc + 1) st es s o
  -- ways
  act (op.SkipIfFalse n) pc (v ∷ st) es s o = tested world (pure v) (pc + 1) (pc + 1 + n) st es s o
  act (op.Skip n) pc st es s o = Running (pc + 1 + n) st es s o
  act op.Step pc st es s o = acted world (takes_step world) (pc + 1) st es s o
  act (op.Loop out again) pc st es s o = Running (pc + 1) st (entry.Turn (pc + 1 + out) (pc + 1 + again) ∷ es) s o
  act (op.Body n size kept) pc st es s o = Running (pc + 1 + n) st es s o
  act (op.TurnIf n) pc (v ∷ st) es s o = turned world (pure v) n pc st es s o
  act (op.Turn n) pc st es s o = acted world (takes_step world) (pc - n) st es s o
  act op.Break pc st es s o = leaves world leaving.Break es s o
  act op.Continue pc st es s o = leaves world leaving.Continue es s o
  act op.Return pc (v ∷ st) es s o = leaves world (leaving.Return v) es s o
  act op.Throw pc (v ∷ st) es s o = leaves world (leaving.Throw v) es s o
  act (op.Try n) pc st es s o = Running (pc + 1) st (entry.Handler (pc + 1 + n) ∷ es) s o
  act (op.EndTry n) pc st (e ∷ es) s o = Running (pc + 1 + n) st es s o
  act (op.Last n) pc st es s o = Running (pc + 1) st (entry.Last (pc + 1 + n) ∷ es) s o
  act op.Finish pc st (entry.Last place ∷ es) s o = Running place st (entry.After None ∷ es) s o
  act op.EndLast pc st (entry.After how ∷ es) s o = after_last world how (pc + 1) st es s o
  act (op.Over out again) pc (v ∷ st) es s o = over_value world v (pc + 1 + out) (pc + 1 + again) (pc + 1) st es s o
  act op.Begin pc st es s o = begun world here (pc + 1) es s o
  act op.Yield pc (v ∷ st) es s o = Paused v (pc + 1) es s o
  -- several in one
  act (op.BinaryInt b n) pc (x ∷ st) es s o = valued world (binary world b x (V.Int n)) (pc + 1) st es s o
  act (op.BinaryLocal b i) pc (x ∷ st) es s o = valued world (read world (Slot i) >>= (λ y. binary world b x y)) (pc + 1) st es s o
  act (op.CompareInt c n) pc (x ∷ st) es s o = valued world (compare world c x (V.Int n)) (pc + 1) st es s o
  act (op.CompareLocal c i) pc (x ∷ st) es s o = valued world (read world (Slot i) >>= (λ y. compare world c x y)) (pc + 1) st es s o
  act (op.SkipUnless c n) pc (y ∷ x ∷ st) es s o = tested world (compare world c x y) (pc + 1) (pc + 1 + n) st es s o
  act (op.SkipUnlessInt c k n) pc (x ∷ st) es s o = tested world (compare world c x (V.Int k)) (pc + 1) (pc + 1 + n) st es s o
  act (op.TurnWhile c n) pc (y ∷ x ∷ st) es s o = turned world (compare world c x y) n pc st es s o
  act (op.TurnWhileInt c i k n) pc st es s o =
      turned world (read world (Slot i) >>= (λ x. compare world c x (V.Int k))) n pc st es s o
  act (op.TurnWhileLocal c i j n) pc st es s o =
      turned world (read world (Slot i) >>= (λ x. read world (Slot j) >>= (λ y. compare world c x y))) n pc st es s o
  act (op.UpdateLocal u i) pc st es s o =
      acted world (read world (Slot i) >>= (λ x. one_more world u x >>= (λ v. assign world false (Slot i) v))) (pc + 1) st es s o
  act (op.StoreLocal i) pc (v ∷ st) es s o = acted world (assign world false (Slot i) v) (pc + 1) st es s o
  act op.Length pc (x ∷ st) es s o = valued world (get_property world x (Word (codes "length"))) (pc + 1) st es s o
  act _ pc st es s o = Stuck
