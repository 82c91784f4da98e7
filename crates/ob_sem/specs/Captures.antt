-- Which bindings a function keeps where it is made, and has where it is called (this project; after ECMA-262, "Environment Records").
use Rattle.std.specs.Prelude.{Bool, List, [], ◌∷◌, filter_map, Option, Some, None, is_none, bytes_eq, if◌then◌else◌, codes}
use Rattle.std.specs.List.{list_any, filter}
use Rattle.std.specs.Option.{option_and_then}
use Rattle.ob_items.specs.declared.value.Ref.{Ref}
use Rattle.ob_tree.specs.Captures.{outward}
use Rattle.ob_tree.specs.Scopes.{Bound}
use Rattle.ob_tree_types.specs.declared.tree.Function.{Function}
use Rattle.ob_actions.specs.Places.{Place, Slot, Boxed}
use Rattle.ob_sem.specs.Scope.{Binding, Scope, binding_of}

abbrev pub box_of_place : Place → Option Ref
box_of_place (Slot i) = None
box_of_place (Boxed r) = Some r

-- the boxes that it keeps: one for each name that it refers to outside itself and that is bound around it, in the order of first appearance
abbrev pub boxes_for : List Binding → Function → List Ref
boxes_for names f = filter_map (λ x. option_and_then (λ (b : Binding). box_of_place b.place) (binding_of names x)) (outward f)

-- its captured bindings by the boxes that it kept; a box that is missing, as none ever is, stands nowhere
abbrev pub kept_bindings : Ref → List Bound → List Ref → List Binding
kept_bindings nowhere [] boxes = []
kept_bindings nowhere (b ∷ bs) [] =
    record { name = b.name; constant = b.constant; place = Boxed nowhere } ∷ kept_bindings nowhere bs []
kept_bindings nowhere (b ∷ bs) (r ∷ boxes) =
    record { name = b.name; constant = b.constant; place = Boxed r } ∷ kept_bindings nowhere bs boxes

-- it refers to the invalidation object of its run
abbrev pub names_invalidation : List Binding → Function → Bool
names_invalidation names f =
    list_any (bytes_eq (codes "invalidation")) (filter (λ x. is_none (binding_of names x)) (outward f))

abbrev pub kept_invalidation : Scope → Function → Option Ref
kept_invalidation sc f = if names_invalidation sc.names f then sc.invalidation else None
