use Rattle.std.proofs.Common.{◌≡◌, ◌∷◌, ◌++◌, [], refl, arith, false}
use Rattle.serde_json.specs.View.{view}
use Rattle.serde_json.specs.Written.{has_float}
use Rattle.ob_script.specs.Texts.{cell_data}
use Rattle.ob_script.proofs.Written.{whole_push, deep_push, map_push}
use Rattle.ob_script.proofs.text.cell_values.Goals as goal

pub loop-cell-preserved : goal.loop-cell-preserved
loop-cell-preserved c =
    let e : c.push.new.self.items ≡ c.loop-cell.values.items ++ c.in_ok-cell_value.field-0 ∷ [] = c.in_ok-push.ensures.items in
    let f : has_float (view c.in_ok-cell_value.field-0) ≡ false = rw (c.in_ok-cell_value.ensures) refl in (
      rw e (map_push view cell_data c.loop-cell.values.items c.in_ok-cell_value.field-0 c.args.cells.now c.loop-cell.cell-index c.cell-item.result (omega arith) c.cell-item.is c.loop-cell.invariant.0 c.in_ok-cell_value.ensures),
      rw e (whole_push c.loop-cell.values.items c.in_ok-cell_value.field-0 c.loop-cell.invariant.1 f),
      rw e (deep_push c.loop-cell.values.items c.in_ok-cell_value.field-0 1 c.loop-cell.invariant.2 (rw (c.in_ok-cell_value.ensures) (omega arith))),
    )
