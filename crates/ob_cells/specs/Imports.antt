-- What an import cell says (this project, after the Observable Runtime).
use Rattle.std.specs.Prelude.{ℕ, ◌&&◌, Bool, List, [], ◌∷◌, Option, Some, None, map, option_map, unwrap_or}
use Rattle.std.specs.List.{flat_map}
use Rattle.ob_tree_types.specs.declared.cell.CellTree.{CellTree}
use Rattle.ob_tree_types.specs.declared.cell.CellTree.TheVariants as cell
use Rattle.ob_tree_types.specs.declared.cell.ImportTree.{ImportTree}
use Rattle.ob_tree_types.specs.declared.cell.ImportSpec.{ImportSpec}
use Rattle.ob_tree_types.specs.declared.cell.SpecForm.{SpecForm}
use Rattle.ob_tree_types.specs.declared.cell.SpecForm.TheVariants as spec
use Rattle.ob_tree.specs.Names.{each_once}
use Rattle.ob_names.specs.declared.form.NameForm.{NameForm}
use Rattle.ob_names.specs.declared.form.NameForm.TheVariants as form
use Rattle.ob_names.specs.Sets.{same_ref}
use Rattle.ob_cells.specs.declared.def.Pair.{Pair}
use Rattle.ob_cells.specs.declared.def.ImportClause.{ImportClause}
use Rattle.ob_cells.specs.Variables.{named}

abbrev pub same_pair : Pair → Pair → Bool
same_pair p q = same_ref p.source q.source && same_ref p.alias q.alias

-- `viewof a as b` has the names of a view, `mutable a as b` those of a mutable
abbrev pub forms_of : SpecForm → List NameForm
forms_of spec.Plain = form.Plain ∷ []
forms_of spec.Viewof = form.Viewof ∷ form.Plain ∷ []
forms_of spec.Mutable = form.Mutable ∷ form.Initial ∷ form.Plain ∷ []

abbrev pub pair : NameForm → List ℕ → List ℕ → Pair
pair f source alias = record { source = named f source; alias = named f alias }

-- `a` is `a as a`
abbrev pub alias_of : ImportSpec → List ℕ
alias_of s = unwrap_or s.alias s.source

abbrev pub pairs_of : ImportSpec → List Pair
pairs_of s = map (λ f. pair f s.source (alias_of s)) (forms_of s.form)

-- equal pairs count once
abbrev pub all_pairs : List ImportSpec → List Pair
all_pairs specs = each_once same_pair (flat_map pairs_of specs)

abbrev pub clause_of : ImportTree → ImportClause
clause_of i = record { pairs = all_pairs i.specs; with = option_map all_pairs i.with; from = i.from }

-- the clause of an import cell; none for another cell
unfoldable pub import_of : CellTree → Option ImportClause
import_of (cell.Import i) = Some (clause_of i)
import_of cell.Empty = None
import_of (cell.Function f) = None
import_of (cell.Bare f) = None
import_of (cell.Named x f) = None
import_of (cell.View x f) = None
import_of (cell.Mutable x f) = None
