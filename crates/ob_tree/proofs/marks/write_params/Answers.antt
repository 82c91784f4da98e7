use Rattle.std.proofs.Common.{refl}
use Rattle.ob_tree.proofs.Spacing.{three}
use Rattle.ob_tree.proofs.marks.write_params.Goals as goal

pub returns : goal.returns
returns c = three _ _ _ _ _ _ _ _ c.in_ok-put_mark.ensures c.in_ok-write_names.ensures c.in_ok-put_mark-2.ensures refl
