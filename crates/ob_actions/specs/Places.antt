-- Where bindings have their values, and how these are made, read, given a first value and assigned (ECMA-262, "Declarative Environment
-- Records"; boxes, their costs and the frozen mark are this project's).
--
-- A binding that a function nested in its own refers to has a box, an item of the store; any other is a local of the call that runs.
use Rattle.std.specs.Prelude.{ℕ, suc, Bool, true, false, List, [], ◌∷◌, ◌++◌, take, Option, Some, None, slice_get, slice_set, unwrap_or, if◌then◌else◌}
use Rattle.std.specs.List.{repeat}
use Rattle.ob_items.specs.Bodies.{box_of, inputs_of}
use Rattle.ob_items.specs.declared.item.Body.TheVariants as B
use Rattle.ob_items.specs.declared.thrown.Thrown.TheVariants as T
use Rattle.ob_items.specs.declared.value.Ref.{Ref}
use Rattle.ob_items.specs.declared.value.Value.{Value}
use Rattle.ob_items.specs.declared.value.Value.TheVariants as V
use Rattle.ob_values.specs.Store.{read_item, is_frozen, written}
use Rattle.ob_actions.specs.Act.{Go, Act, ◌>>=◌, pure, updates}
use Rattle.ob_actions.specs.Core.{Core, with_store, with_locals}
use Rattle.ob_actions.specs.Meters.{charges, allocate, throws}
use Rattle.ob_actions.specs.World.{World}

-- the place of a binding's value: among the locals, or a box
pub data Place : Type 0 where
  Slot : ℕ → Place
  Boxed : Ref → Place

-- the value at a place, none before its declaration has run
abbrev pub held : Core → Place → Option Value
held s (Slot i) = unwrap_or (slice_get s.locals i) None
held s (Boxed r) = unwrap_or (read_item box_of s.store r) None

abbrev pub is_frozen_place : Core → Place → Bool
is_frozen_place s (Slot i) = false
is_frozen_place s (Boxed r) = is_frozen s.store r

-- the state with a value at a place
abbrev pub put : Place → Value → Core → Core
put (Slot i) v s = with_locals (slice_set s.locals i (Some v)) s
put (Boxed r) v s = with_store (written box_of (λ _. B.Box (Some v)) s.store r false) s

-- the value of an input, which has one for the whole run, by its place in an array of inputs
abbrev pub input_at : Ref → ℕ → Core → Value
input_at inputs i s = unwrap_or (slice_get (unwrap_or (read_item inputs_of s.store inputs) []) i) V.Undefined

-- ---- what a scope's flags say: true for a binding that is captured

abbrev pub count_true : List Bool → ℕ
count_true [] = 0
count_true (true ∷ flags) = suc (count_true flags)
count_true (false ∷ flags) = count_true flags

abbrev pub count_false : List Bool → ℕ
count_false [] = 0
count_false (true ∷ flags) = count_false flags
count_false (false ∷ flags) = suc (count_false flags)

-- the locals are cut to those around a scope, and there is one more for each of its bindings that has no box
abbrev pub fresh_locals : ℕ → ℕ → Core → Core
fresh_locals size more s = with_locals (take size s.locals ++ repeat more (None ∷ [])) s

module _ (world : World) where
  -- ---- entering a scope

  -- the places of new bindings, in order, none with a value yet, behind so many locals
  abbrev pub make_places : ℕ → List Bool → Act Core (List Place)
  make_places size [] = pure []
  make_places size (true ∷ flags) =
      allocate world (B.Box None) 1 >>= (λ r. make_places size flags >>= (λ places. pure (Boxed r ∷ places)))
  make_places size (false ∷ flags) = make_places (suc size) flags >>= (λ places. pure (Slot size ∷ places))

  -- a scope's entry, with so many locals around it: the captured bindings are charged together
  abbrev pub enter_scope : ℕ → List Bool → Act Core (List Place)
  enter_scope size flags =
      charges world (count_true flags) >>= (λ _. updates (fresh_locals size (count_false flags)) >>= (λ _. make_places size flags))

  -- the new box of a binding that is copied
  abbrev pub copy_box : Ref → Act Core Ref
  copy_box r s = allocate world (B.Box (held s (Boxed r))) 1 s

  -- ---- reading and writing

  -- a binding that has no value yet is used before its declaration
  abbrev pub read_held : Option Value → Act Core Value
  read_held None = throws world T.UsedBefore
  read_held (Some v) = pure v

  abbrev pub read : Place → Act Core Value
  read p s = read_held (held s p) s

  -- the first value, by the declaration
  abbrev pub first : Place → Value → Act Core (Unit {0})
  first p v s = if is_frozen_place s p then throws world T.Frozen s else Go tt (put p v s)

  -- an assignment: the tests are, in this order, that the declaration has run, that the binding isn't constant, that its box isn't frozen
  abbrev pub assign : Bool → Place → Value → Act Core (Unit {0})
  assign constant p v = read p >>= (λ _ s. if constant then throws world T.Constant s else first p v s)
