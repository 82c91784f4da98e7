-- The function whose body a cell's run calls (this project).
use Rattle.std.specs.Prelude.{false, [], None}
use Rattle.ob_tree_types.specs.declared.cell.CellTree.{CellTree}
use Rattle.ob_tree_types.specs.declared.cell.CellTree.TheVariants as cell
use Rattle.ob_tree_types.specs.declared.tree.Expr.TheVariants as expr
use Rattle.ob_tree_types.specs.declared.tree.FnBody.TheVariants as body
use Rattle.ob_tree_types.specs.declared.tree.Function.{Function}

abbrev pub of_value : Function → Function
of_value f = record { name = None; params = []; generator = false; body = body.Value (expr.Function f) }

-- a body that is an empty block
abbrev pub no_items : Function
no_items = record { name = None; params = []; generator = false; body = body.Items [] }

-- an empty cell is evaluated as a cell whose body is an empty block, and a function cell as the function expression of that name; an import
-- has no run
abbrev pub cell_function : CellTree → Function
cell_function cell.Empty = no_items
cell_function (cell.Import i) = no_items
cell_function (cell.Function f) = of_value f
cell_function (cell.Bare f) = f
cell_function (cell.Named x f) = f
cell_function (cell.View x f) = f
cell_function (cell.Mutable x f) = f
