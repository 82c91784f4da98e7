-- The free, local and captured names of a cell or a function (this project).
use Rattle.std.specs.Prelude.{ℕ, ◌==◌, Bool, true, false, ◌&&◌, List, [], ◌∷◌, ◌++◌, map, fold, if◌then◌else◌, bytes_eq}
use Rattle.std.specs.List.{list_any, filter, position_or_len}
use Rattle.ob_tree_types.specs.declared.cell.CellTree.{CellTree}
use Rattle.ob_tree_types.specs.declared.cell.SpecForm.{SpecForm}
use Rattle.ob_tree_types.specs.declared.cell.SpecForm.TheVariants as forms
use Rattle.ob_tree.specs.Scopes.{Bound, Place, Mention, Meaning, Free, Local, Captured, Walk}
use Rattle.ob_tree.specs.Walks.{cell_walk}

-- the start of a text: no binding is numbered, no function stands around it, and nothing is in scope
abbrev pub start : Place
start = record { first = 0; depth = 0; scope = [] }

abbrev pub mentions_of : Walk → List Mention
mentions_of w = w.mentions start

-- ---- free names

-- a name with its form
pub record Referred : Type 0 where
  pub form : SpecForm
  pub name : List ℕ

abbrev pub same_form : SpecForm → SpecForm → Bool
same_form forms.Plain forms.Plain = true
same_form forms.Viewof forms.Viewof = true
same_form forms.Mutable forms.Mutable = true
same_form _ _ = false

abbrev pub same_name : Referred → Referred → Bool
same_name a b = same_form a.form b.form && bytes_eq a.name b.name

-- a list with one more at its end, unless that is in it
abbrev pub with_one : {A : Type 0} → (A → A → Bool) → List A → A → List A
with_one same xs x = if list_any (same x) xs then xs else xs ++ x ∷ []

-- each once, in the order of first appearance
abbrev pub each_once : {A : Type 0} → (A → A → Bool) → List A → List A
each_once same = fold (with_one same) []

abbrev pub is_unbound : Meaning → Bool
is_unbound Free = true
is_unbound (Local n) = false
is_unbound (Captured n) = false

abbrev pub is_free : Mention → Bool
is_free m = is_unbound m.means

abbrev pub referred : Mention → Referred
referred m = record { form = m.form; name = m.name }

abbrev pub free_in : List Mention → List Referred
free_in ms = each_once same_name (map referred (filter is_free ms))

-- the free names of a cell, in the order of first appearance
abbrev pub free_names : CellTree → List Referred
free_names tree = free_in (mentions_of (cell_walk tree))

-- the place of a name among the free names, from 0
abbrev pub place_among : List Referred → Referred → ℕ
place_among free r = position_or_len (same_name r) free

-- ---- local names

abbrev pub name_of : Bound → List ℕ
name_of b = b.name

-- all names that are bound in a cell, each once, in the order of their bindings
abbrev pub local_names : CellTree → List (List ℕ)
local_names tree = each_once bytes_eq (map name_of (cell_walk tree).bound)

-- ---- captured names

abbrev pub is_capture : ℕ → Meaning → Bool
is_capture number Free = false
is_capture number (Local n) = false
is_capture number (Captured n) = n == number

-- a mention means the binding of that number, from a function nested in its own
abbrev pub captures : ℕ → Mention → Bool
captures number m = is_capture number m.means

-- a function nested in the one that declares the binding of that number refers to it
abbrev pub is_captured : List Mention → ℕ → Bool
is_captured ms number = list_any (captures number) ms
