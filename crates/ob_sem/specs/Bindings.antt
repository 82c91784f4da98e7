-- Scopes as they are entered and copied, and names as they are read and written (ECMA-262, "BlockDeclarationInstantiation",
-- "CreatePerIterationEnvironment" and "ResolveBinding", in this project's profile).
use Rattle.std.specs.Prelude.{ℕ, zero, suc, Bool, List, [], ◌∷◌, take, drop, Option, Some, None}
use Rattle.std.specs.Option.{option_map_or}
use Rattle.ob_items.specs.declared.thrown.Thrown.TheVariants as T
use Rattle.ob_items.specs.declared.value.Value.{Value}
use Rattle.ob_items.specs.declared.value.Value.TheVariants as V
use Rattle.ob_tree.specs.Names.{Referred, place_among}
use Rattle.ob_tree.specs.Scopes.{Bound}
use Rattle.ob_tree_types.specs.declared.cell.SpecForm.{SpecForm}
use Rattle.ob_tree_types.specs.declared.cell.SpecForm.TheVariants as forms
use Rattle.ob_values.specs.Effects.{argument}
use Rattle.ob_actions.specs.Act.{Act, ◌>>=◌, pure, asks}
use Rattle.ob_actions.specs.Core.{Core}
use Rattle.ob_actions.specs.Meters.{charges, throws}
use Rattle.ob_actions.specs.Places.{Place, Slot, Boxed, input_at, enter_scope, copy_box, read, first, assign}
use Rattle.ob_tree.specs.Captures.{captured_in}
use Rattle.ob_tree.specs.Functions.{Part}
use Rattle.ob_sem.specs.Scope.{Binding, Scope, binding_of, inner, with_names, boxes_among}
use Rattle.ob_sem.specs.Setting.{Setting, text_at}
use Rattle.ob_sem.specs.Whole.{Whole, lift}

-- ---- inputs: the free names of the text, each of which has one value for the whole run

abbrev pub input_of : Scope → Core → ℕ → Option (List Value) → Value
input_of sc s i None = input_at sc.inputs i s
input_of sc s i (Some values) = argument values i

abbrev pub input_value : Setting → Scope → Referred → Core → Value
input_value set sc r s =
    option_map_or (λ text. input_of sc s (place_among text.free r) text.given) (text_at set sc.code) V.Undefined

module _ (set : Setting) where
  -- ---- scopes

  -- a scope of these bindings over this part of the text
  abbrev pub enter_with : List Bool → List Bound → Scope → Act Whole Scope
  enter_with flags bs sc = lift (enter_scope set.world sc.size flags) >>= (λ places. pure (inner bs flags sc places))

  abbrev pub enter : List Bound → Part → Scope → Act Whole Scope
  enter bs extent sc = enter_with (captured_in bs extent) bs sc

  -- the same binding, in a new box where it has one
  abbrev pub copied_to : Binding → Place → Act Whole Binding
  copied_to b (Slot i) = pure b
  copied_to b (Boxed r) = lift (copy_box set.world r) >>= (λ c. pure (record { name = b.name; constant = b.constant; place = Boxed c }))

  -- the first n bindings, the innermost last
  abbrev pub copy_each : ℕ → List Binding → Act Whole (List Binding)
  copy_each zero names = pure names
  copy_each (suc n) [] = pure []
  copy_each (suc n) (b ∷ names) = copy_each n names >>= (λ rest. copied_to b b.place >>= (λ c. pure (c ∷ rest)))

  -- the scope with its n innermost bindings copied: the captured ones are charged together
  abbrev pub copy : ℕ → Scope → Act Whole Scope
  copy n sc =
      lift (charges set.world (boxes_among (take n sc.names))) >>= (λ _. copy_each n sc.names >>= (λ names. pure (with_names names 0 sc)))

  -- ---- names: a binding that is in scope, else an input

  abbrev pub read_binding_or : SpecForm → List ℕ → Scope → Option Binding → Act Whole Value
  read_binding_or form x sc (Some b) = lift (read set.world b.place)
  read_binding_or form x sc None = lift (asks (input_value set sc (record { form = form; name = x })))

  abbrev pub read_name : List ℕ → Scope → Act Whole Value
  read_name x sc = read_binding_or forms.Plain x sc (binding_of sc.names x)

  -- a name after `viewof` or `mutable` is always an input
  abbrev pub read_input : SpecForm → List ℕ → Scope → Act Whole Value
  read_input form x sc = read_binding_or form x sc None

  abbrev pub assign_binding : Option Binding → Value → Act Whole (Unit {0})
  assign_binding (Some b) v = lift (assign set.world b.constant b.place v)
  assign_binding None v = lift (throws set.world T.Constant)

  -- no text assigns to an input
  abbrev pub assign_name : List ℕ → Value → Scope → Act Whole (Unit {0})
  assign_name x v sc = assign_binding (binding_of sc.names x) v

  abbrev pub first_binding : Option Binding → Value → Act Whole (Unit {0})
  first_binding (Some b) v = lift (first set.world b.place v)
  first_binding None v = pure tt

  -- the first value of a name that the scope has bound
  abbrev pub first_name : List ℕ → Value → Scope → Act Whole (Unit {0})
  first_name x v sc = first_binding (binding_of sc.names x) v

  -- the parameters get the arguments: a missing one is undefined, a surplus one is ignored
  abbrev pub set_params : List (List ℕ) → List Value → Scope → Act Whole (Unit {0})
  set_params [] args sc = pure tt
  set_params (x ∷ params) args sc = first_name x (argument args 0) sc >>= (λ _. set_params params (drop 1 args) sc)
