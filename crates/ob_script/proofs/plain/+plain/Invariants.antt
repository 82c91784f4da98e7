use Rattle.std.proofs.Common.{◌≡◌, ◌++◌, true, drop, map}
use Rattle.std.specs.List.{list_all}
use Rattle.serde_json.specs.View.{items_view, members_view}
use Rattle.ob_base.specs.PlainData.{are_all}
use Rattle.ob_script.specs.Forms.{is_readable}
use Rattle.ob_script.specs.Inputs.{plains_of, props_of}
use Rattle.ob_script.proofs.Entries.{put_before}
use Rattle.ob_script.proofs.Readable.{is_good, name_of, names}
use Rattle.ob_script.proofs.plain.+plain.Given as goal

abbrev pub invariant-plains_of-loop-value : goal.invariant-plains_of-loop-value
invariant-plains_of-loop-value l = record {
  reads : put_before l.items (plains_of (items_view (drop l.value-index l.value-items))) ≡ plains_of (items_view l.value-items);
  readable : are_all (map is_readable l.items) ≡ true;
}

abbrev pub invariant-props_of-loop-key : goal.invariant-props_of-loop-key
invariant-props_of-loop-key l = record {
  reads : put_before l.props (props_of (members_view l.key-iterator)) ≡ props_of (members_view l.members.entries);
  named : map name_of l.props ++ names l.key-iterator ≡ names l.members.entries;
  good : list_all is_good l.props ≡ true;
}
