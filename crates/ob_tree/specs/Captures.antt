-- Which bindings of a scope are captured, and to which bindings around it a function refers (this project; after ECMA-262, "Environment
-- Records").
use Rattle.std.specs.Prelude.{ℕ, Bool, true, false, List, [], ◌∷◌, map, filter_map, Option, Some, None, bytes_eq, if◌then◌else◌}
use Rattle.std.specs.List.{list_any}
use Rattle.ob_tree_types.specs.declared.cell.SpecForm.TheVariants as forms
use Rattle.ob_tree_types.specs.declared.tree.Function.{Function}
use Rattle.ob_tree.specs.Names.{Referred, same_form, same_name, each_once}
use Rattle.ob_tree.specs.Scopes.{Bound}
use Rattle.ob_tree.specs.Functions.{Located, Part, binds, whole}

-- a binding over this part of the text is captured: a function nested in its own refers to it
abbrev pub is_captured : Part → Bound → Bool
is_captured extent b = list_any (binds (b ∷ [])) (extent.names false)

abbrev pub captured_in : List Bound → Part → List Bool
captured_in bs extent = map (is_captured extent) bs

-- the free names of a function, each once, in the order of first appearance
abbrev pub free_of : Function → List Referred
free_of f = each_once same_name ((whole f).names true)

abbrev pub plain_name : Referred → Option (List ℕ)
plain_name r = if same_form r.form forms.Plain then Some r.name else None

-- the names that a function refers to outside itself
abbrev pub outward : Function → List (List ℕ)
outward f = filter_map plain_name (free_of f)

abbrev pub bound_of : List Bound → List ℕ → Option Bound
bound_of [] x = None
bound_of (b ∷ bs) x = if bytes_eq b.name x then Some b else bound_of bs x

-- those of its names that are bound around it, in the order of first appearance
abbrev pub captures_of : Located → List Bound
captures_of l = filter_map (bound_of l.around) (outward l.function)
