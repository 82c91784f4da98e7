use Rattle.std.proofs.Common.{◌≡◌, true, drop}
use Rattle.ob_script.specs.Forms.{has_forms}
use Rattle.std.specs.List.{list_all}
use Rattle.serde_json.specs.View.{items_view}
use Rattle.ob_script.specs.Commands.{new_notebook}
use Rattle.ob_script.specs.Fields.{entries}
use Rattle.ob_script.proofs.Entries.{put_before}
use Rattle.ob_script.proofs.bundle.new_notebooks.Given as goal

abbrev pub invariant-loop-value : goal.invariant-loop-value
invariant-loop-value l = record {
  reads : put_before l.notebooks (entries new_notebook (items_view (drop l.value-index l.values))) ≡ entries new_notebook (items_view l.values);
  forms : list_all has_forms l.notebooks ≡ true;
}
