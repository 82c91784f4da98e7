-- The variables of a cell (this project, after the Observable Runtime and the Observable Parser).
use Rattle.std.specs.Prelude.{ℕ, List, [], ◌∷◌, Option, Some, None, map, option_map}
use Rattle.ob_base.specs.declared.label.Part.{Part}
use Rattle.ob_base.specs.declared.label.Part.TheVariants as part
use Rattle.ob_tree_types.specs.declared.cell.CellTree.{CellTree}
use Rattle.ob_tree_types.specs.declared.cell.CellTree.TheVariants as cell
use Rattle.ob_tree.specs.Names.{free_names}
use Rattle.ob_names.specs.Forms.{name_ref}
use Rattle.ob_names.specs.declared.form.NameForm.{NameForm}
use Rattle.ob_names.specs.declared.form.NameForm.TheVariants as form
use Rattle.ob_names.specs.declared.form.NameRef.{NameRef}
use Rattle.ob_cells.specs.declared.def.Body.{Body}
use Rattle.ob_cells.specs.declared.def.Body.TheVariants as body
use Rattle.ob_cells.specs.declared.def.VarDef.{VarDef}

-- `x`, `viewof x`, `mutable x` and `initial x` are names of their own
abbrev pub named : NameForm → List ℕ → NameRef
named f x = record { form = f; name = x }

-- ---- one variable

abbrev pub variable : Part → Option NameRef → List NameRef → Body → VarDef
variable part name inputs body = record { part = part; name = name; inputs = inputs; body = body }

-- one that the cell's text gives
abbrev pub written : Part → NameForm → List ℕ → List NameRef → VarDef
written p f x free = variable p (Some (named f x)) free body.Tree

-- one that reads another of its own cell
abbrev pub derived : Part → NameForm → NameForm → List ℕ → Body → VarDef
derived p f reads x b = variable p (Some (named f x)) (named reads x ∷ []) b

-- ---- the variables of a form

abbrev pub main_variable : Option NameRef → List NameRef → Body → List VarDef
main_variable name inputs b = variable part.Main name inputs b ∷ []

abbrev pub function_name : Option (List ℕ) → Option NameRef
function_name = option_map (named form.Plain)

-- `viewof x` by the text, and `x`, which shows what was given for it or its property `value`
abbrev pub view_variables : List ℕ → List NameRef → List VarDef
view_variables x free =
    written part.View form.Viewof x free
    ∷ derived part.Shown form.Plain form.Viewof x body.ShowView ∷ []

-- `x`, which shows the current value, `initial x` by the text, and `mutable x`, the holder of the current value
abbrev pub mutable_variables : List ℕ → List NameRef → List VarDef
mutable_variables x free =
    derived part.Shown form.Plain form.Mutable x body.ShowMutable
    ∷ written part.Initial form.Initial x free
    ∷ derived part.Holder form.Mutable form.Initial x body.Hold ∷ []

-- what a text defines that reads as a cell with these free names
abbrev pub defined_by : List NameRef → CellTree → List VarDef
defined_by free (cell.Import clause) = []
defined_by free cell.Empty = main_variable None free body.Tree
defined_by free (cell.Bare f) = main_variable None free body.Tree
defined_by free (cell.Named x f) = main_variable (Some (named form.Plain x)) free body.Tree
defined_by free (cell.Function f) = main_variable (function_name f.name) free body.Tree
defined_by free (cell.View x f) = view_variables x free
defined_by free (cell.Mutable x f) = mutable_variables x free

-- the variables of a cell in the order of their parts; of a text that doesn't read, one that fails
unfoldable pub variables_of : Option CellTree → List VarDef
variables_of None = main_variable None [] body.Unreadable
variables_of (Some tree) = defined_by (map name_ref (free_names tree)) tree
