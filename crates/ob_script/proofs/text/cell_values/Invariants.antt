use Rattle.std.proofs.Common.{◌≡◌, ◌≤◌, false, take, map}
use Rattle.serde_json.specs.Data.{items_depth}
use Rattle.serde_json.specs.View.{view, items_view}
use Rattle.serde_json.specs.Written.{items_have_float}
use Rattle.ob_script.specs.Texts.{cell_data}
use Rattle.ob_script.proofs.text.cell_values.Given as goal

abbrev pub invariant-loop-cell : goal.invariant-loop-cell
invariant-loop-cell l =
    (map view l.values.items ≡ map cell_data (take l.cell-index l.cells))
    × (items_have_float (items_view l.values.items) ≡ false)
    × (items_depth (items_view l.values.items) ≤ 1)
