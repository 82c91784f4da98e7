-- The premise on references: what is reached is there, and is of the right kind.
use Rattle.std.specs.Prelude.{◌≢◌, Bool, true, false, List, [], ◌∷◌, ◌++◌, Option, Some, None, IsTrue, map, filter_map, if◌then◌else◌}
use Rattle.std.specs.List.{Contains}
use Rattle.std.specs.Option.{option_map_or}
use Rattle.ob_items.specs.Properties.{values_of}
use Rattle.ob_items.specs.declared.value.Value.{Value}
use Rattle.ob_items.specs.declared.value.Value.TheVariants as V
use Rattle.ob_items.specs.declared.value.Ref.{Ref}
use Rattle.ob_items.specs.declared.value.RegionKey.{RegionKey}
use Rattle.ob_items.specs.declared.frame.Frame.{Frame}
use Rattle.ob_items.specs.declared.frame.Taken.{Taken}
use Rattle.ob_items.specs.declared.frame.Taken.TheVariants as T
use Rattle.ob_items.specs.declared.item.Closure.{Closure}
use Rattle.ob_items.specs.Item.{Item}
use Rattle.ob_items.specs.declared.item.Body.{Body}
use Rattle.ob_items.specs.declared.item.Body.TheVariants as B
use Rattle.ob_values.specs.Freeze.{option_list}
use Rattle.ob_values.specs.Reach.{Reaches}
use Rattle.ob_values.specs.Store.{Store, item_of}

-- what a reference stands for where it is held
pub data Sort : Type 0 where
  AsValue : Sort
  AsBox : Sort
  AsText : Sort
  AsInputs : Sort
  AsInvalidation : Sort

-- a reference, with what it stands for
abbrev pub Pointer : Type 0
Pointer = Sort × Ref

-- the items that a reference may point to: a value is no box and no array of inputs
abbrev pub has_sort : Sort → Body → Bool
has_sort AsValue (B.Box value) = false
has_sort AsValue (B.Inputs values) = false
has_sort AsValue _ = true
has_sort AsBox (B.Box value) = true
has_sort AsBox _ = false
has_sort AsText (B.Text units) = true
has_sort AsText _ = false
has_sort AsInputs (B.Inputs values) = true
has_sort AsInputs _ = false
has_sort AsInvalidation (B.Invalidation hooks) = true
has_sort AsInvalidation _ = false

abbrev pub pointers_as : Sort → List Ref → List Pointer
pointers_as sort refs = map (λ r. (sort, r)) refs

abbrev pub pointer_of : Value → Option Pointer
pointer_of (V.Ref r) = Some (AsValue, r)
pointer_of _ = None

-- the pointers among values
abbrev pub pointers_of : List Value → List Pointer
pointers_of values = filter_map pointer_of values

abbrev pub pointers_of_frame : Frame → List Pointer
pointers_of_frame frame =
    pointers_as AsBox frame.boxes ++ (AsInputs, frame.inputs) ∷ pointers_of (filter_map (λ local. local) frame.locals) ++ pointers_of frame.operands

abbrev pub pointers_of_closure : Closure → List Pointer
pointers_of_closure closure =
    pointers_as AsBox closure.boxes ++ (AsInputs, closure.inputs) ∷ pointers_as AsInvalidation (option_list closure.invalidation)

abbrev pub pointers_of_kept : Taken → List Pointer
pointers_of_kept (T.Held frame) = pointers_of_frame frame
pointers_of_kept T.Runs = []
pointers_of_kept T.Ended = []

-- what an item leads to: what freezing it freezes, an error's message, a function's array of inputs, and the frame of a
-- generator object that isn't frozen; through an array of inputs it doesn't lead on
abbrev pub pointers_inside : Bool → Body → List Pointer
pointers_inside frozen (B.Text units) = []
pointers_inside frozen (B.Array values) = pointers_of values
pointers_inside frozen (B.Object properties) = pointers_of (values_of properties)
pointers_inside frozen (B.Box value) = pointers_of (option_list value)
pointers_inside frozen (B.Closure closure) = pointers_of_closure closure
pointers_inside frozen (B.Generator kept) = if frozen then [] else pointers_of_kept kept
pointers_inside frozen (B.Error kind message) = (AsText, message) ∷ []
pointers_inside frozen (B.Invalidation hooks) = []
pointers_inside frozen (B.Inputs values) = []

abbrev pub pointers_from : Option Item → List Pointer
pointers_from o = option_map_or (λ item. pointers_inside item.frozen item.body) o []

abbrev pub leads_to : Store → Pointer → List Pointer
leads_to s p = pointers_from (item_of s p.1)

-- a pointer points to an item of its sort
abbrev pub IsRight : Store → Pointer → Type 0
IsRight s p = IsTrue (option_map_or (λ item. has_sort p.0 item.body) (item_of s p.1) false)

-- all that the roots reach is there, and of its sort
abbrev pub IsSound : Store → List Pointer → Type 0
IsSound s roots = (p : Pointer) → Reaches (leads_to s) roots p → IsRight s p

-- whatever the roots are: if they reach these pointers, what was sound from them stays so
abbrev pub KeepsSound : Store → Store → List Pointer → Type 0
KeepsSound old new used =
    (roots : List Pointer) → ((p : Pointer) → Contains used p → Reaches (leads_to old) roots p) → IsSound old roots → IsSound new roots

-- the same, and the new pointer is sound beside them
abbrev pub AddsSound : Store → Store → List Pointer → Pointer → Type 0
AddsSound old new used added =
    (roots : List Pointer) → ((p : Pointer) → Contains used p → Reaches (leads_to old) roots p) → IsSound old roots → IsSound new (added ∷ roots)

-- the new item is sound beside the old roots as each of its sorts, if they reach what it leads to
abbrev pub AddsItem : Store → Store → Body → Ref → Type 0
AddsItem old new body r =
    (sort : Sort) → IsTrue (has_sort sort body) → AddsSound old new (pointers_inside false body) (sort, r)

-- roots that reach nothing of a region stay sound
abbrev pub KeepsOutside : Store → Store → RegionKey → Type 0
KeepsOutside old new key =
    (roots : List Pointer) → ((p : Pointer) → Reaches (leads_to old) roots p → p.1.region.0 ≢ key.0) → IsSound old roots → IsSound new roots

-- values of the new store are sound beside all roots that were
abbrev pub AddsValues : Store → Store → List Value → Type 0
AddsValues old new values = (roots : List Pointer) → IsSound old roots → IsSound new (pointers_of values ++ roots)
