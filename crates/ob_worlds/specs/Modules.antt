-- Notebooks as their texts read: what each cell defines (this project, after the Observable Runtime).
use Rattle.std.specs.Prelude.{ℕ, ◌==◌, Bool, true, not, ◌&&◌, List, [], ◌∷◌, Option, map, bytes_eq}
use Rattle.std.specs.Option.{option_map_or}
use Rattle.std.specs.List.{flat_map, find, list_any}
use Rattle.ob_tree_types.specs.declared.cell.CellTree.{CellTree}
use Rattle.ob_cells.specs.declared.def.VarDef.{VarDef}
use Rattle.ob_cells.specs.declared.def.Pair.{Pair}
use Rattle.ob_cells.specs.declared.def.ImportClause.{ImportClause}
use Rattle.ob_cells.specs.Readings.{Reading}
use Rattle.ob_worlds.specs.Reader.{Reader}
use Rattle.ob_worlds.specs.World.{Cell, Notebook, World}

-- a cell, and what its text defines
pub record Defined : Type 0 where
  pub serial : ℕ
  pub id : List ℕ
  pub tree : Option CellTree
  pub variables : List VarDef
  pub clause : Option ImportClause

pub record Module : Type 0 where
  pub id : List ℕ
  pub cells : List Defined

-- the notebooks in the order of the world
pub record Modules : Type 0 where
  pub main : List ℕ
  pub all : List Module

abbrev pub defined : Cell → Reading → Defined
defined c r = record { serial = c.serial; id = c.id; tree = r.tree; variables = r.variables; clause = r.clause }

abbrev pub module_of : Reader → Notebook → Module
module_of E n = record { id = n.id; cells = map (λ (c : Cell). defined c (E.read c.text)) n.cells }

unfoldable pub modules_of : Reader → World → Modules
modules_of E W = record { main = W.main; all = map (module_of E) W.notebooks }

abbrev pub ids : Modules → List (List ℕ)
ids M = map (λ (m : Module). m.id) M.all

abbrev pub cells_of : Modules → List ℕ → List Defined
cells_of M id = option_map_or (λ (m : Module). m.cells) (find (λ (m : Module). bytes_eq m.id id) M.all) []

abbrev pub all_cells : Modules → List Defined
all_cells M = flat_map (λ (m : Module). m.cells) M.all

-- each cell has a serial of its own
abbrev pub are_apart : List ℕ → Bool
are_apart [] = true
are_apart (s ∷ ss) = not (list_any (λ t. s == t) ss) && are_apart ss

abbrev pub have_own_serials : Modules → Bool
have_own_serials M = are_apart (map (λ (c : Defined). c.serial) (all_cells M))

-- ---- imports with injected names

-- the serial of the cell, the notebook that it imports from, and the pairs of its `with` clause
pub record With : Type 0 where
  pub serial : ℕ
  pub from : List ℕ
  pub pairs : List Pair

abbrev pub with_of : Defined → ImportClause → List With
with_of c clause = option_map_or (λ pairs. record { serial = c.serial; from = clause.from; pairs = pairs } ∷ []) clause.with []

abbrev pub withs_in : List Defined → List With
withs_in cells = flat_map (λ (c : Defined). option_map_or (with_of c) c.clause []) cells

abbrev pub withs : Modules → List ℕ → List With
withs M id = withs_in (cells_of M id)

-- the `with` cell of a serial
abbrev pub with_at : Modules → ℕ → Option With
with_at M s = find (λ (w : With). w.serial == s) (withs_in (all_cells M))

abbrev pub id_at : Modules → ℕ → List ℕ
id_at M s = option_map_or (λ (c : Defined). c.id) (find (λ (c : Defined). c.serial == s) (all_cells M)) []
