-- The variables of a notebook, and their standing (this project).
use Rattle.std.specs.Prelude.{ℕ, Bool, false, not, nat_lt, List, [], ◌∷◌, ◌++◌, length, Option, None, map, filter, codes, is_some, if◌then◌else◌}
use Rattle.std.specs.Option.{option_map_or}
use Rattle.std.specs.List.{flat_map}
use Rattle.ob_base.specs.declared.label.Part.{Part}
use Rattle.ob_base.specs.declared.label.Part.TheVariants as part
use Rattle.ob_tree_types.specs.declared.cell.CellTree.{CellTree}
use Rattle.ob_names.specs.declared.form.NameForm.{NameForm}
use Rattle.ob_names.specs.declared.form.NameForm.TheVariants as form
use Rattle.ob_names.specs.declared.form.NameRef.{NameRef}
use Rattle.ob_cells.specs.declared.def.Body.{Body}
use Rattle.ob_cells.specs.declared.def.Body.TheVariants as body
use Rattle.ob_cells.specs.declared.def.VarDef.{VarDef}
use Rattle.ob_base.specs.Labels.{Path, Label}
use Rattle.ob_worlds.specs.Labels.{Resolved}
use Rattle.ob_worlds.specs.Reader.{Reader}
use Rattle.ob_worlds.specs.Modules.{Modules, Defined, cells_of, id_at}
use Rattle.ob_worlds.specs.Instances.{instances, notebook_of}
use Rattle.ob_worlds.specs.Resolve.{is_injected, definitions, resolve}

-- A variable; what its cell says of it: its name, what gives its outcome, its tree if it has a readable text, and the names that it
-- reads; and its standing: whether it is a duplicate, and what each of these names stands for. A duplicate has no inputs.
pub record Variable : Type 0 where
  pub label : Label
  pub name : Option NameRef
  pub body : Body
  pub tree : Option CellTree
  pub names : List NameRef
  pub duplicate : Bool
  pub inputs : List Resolved

-- ---- how reports write a variable

abbrev pub part_text : Part → List ℕ
part_text part.Main = []
part_text part.View = codes ".view"
part_text part.Shown = codes ".shown"
part_text part.Initial = codes ".initial"
part_text part.Holder = codes ".holder"

abbrev pub path_text : Modules → List ℕ → List ℕ → List ℕ
path_text M root [] = root
path_text M root (s ∷ up) = path_text M root up ++ codes ">" ++ id_at M s

abbrev pub label_text : Modules → Label → List ℕ
label_text M l = path_text M l.path.root l.path.serials ++ codes "#" ++ id_at M l.cell ++ part_text l.part

-- ---- variables

abbrev pub is_duplicate : Modules → Path → Option NameRef → Bool
is_duplicate M path name = option_map_or (λ x. nat_lt 1 (length (definitions M (record { path = path; name = x })))) name false

abbrev pub resolved : Reader → Modules → Path → List NameRef → List Resolved
resolved E M path names = map (λ x. resolve E M (record { path = path; name = x })) names

-- the tree of a cell, for the body that is the cell's
abbrev pub tree_for : Option CellTree → Body → Option CellTree
tree_for tree body.Tree = tree
tree_for tree body.ShowView = None
tree_for tree body.ShowMutable = None
tree_for tree body.Hold = None
tree_for tree body.Unreadable = None

abbrev pub variable_of : Reader → Modules → Path → Defined → VarDef → Variable
variable_of E M path c v =
    let duplicate = is_duplicate M path v.name in
    record {
      label = record { path = path; cell = c.serial; part = v.part };
      name = v.name;
      body = v.body;
      tree = tree_for c.tree v.body;
      names = v.inputs;
      duplicate = duplicate;
      inputs = if duplicate then [] else resolved E M path v.inputs;
    }

-- what the cells of an instance define, and no import injects
abbrev pub defs_in : Modules → Path → Defined → List VarDef
defs_in M path c = filter (λ (v : VarDef). not (is_injected M path v.name)) c.variables

abbrev pub variables_at : Reader → Modules → Path → List Variable
variables_at E M path = flat_map (λ (c : Defined). map (variable_of E M path c) (defs_in M path c)) (cells_of M (notebook_of M path))

-- in canonical order
unfoldable pub variables : Reader → Modules → List Variable
variables E M = flat_map (variables_at E M) (instances M)

abbrev pub has_text : Variable → Bool
has_text v = is_some v.tree

abbrev pub form_text : NameForm → List ℕ
form_text form.Plain = []
form_text form.Viewof = codes "viewof "
form_text form.Mutable = codes "mutable "
form_text form.Initial = codes "initial "

-- a name as messages write it
abbrev pub name_text : NameRef → List ℕ
name_text x = form_text x.form ++ x.name
