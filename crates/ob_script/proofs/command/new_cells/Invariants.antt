use Rattle.std.proofs.Common.{◌≡◌, true, drop}
use Rattle.ob_script.specs.Forms.{have_ids}
use Rattle.serde_json.specs.View.{items_view}
use Rattle.ob_script.specs.Commands.{new_cell}
use Rattle.ob_script.specs.Fields.{entries}
use Rattle.ob_script.proofs.Entries.{put_before}
use Rattle.ob_script.proofs.command.new_cells.Given as goal

abbrev pub invariant-loop-value : goal.invariant-loop-value
invariant-loop-value l = record {
  reads : put_before l.cells (entries new_cell (items_view (drop l.value-index l.values))) ≡ entries new_cell (items_view l.values);
  forms : have_ids l.cells ≡ true;
}
