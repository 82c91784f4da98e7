use Rattle.std.proofs.Common.{refl}
use Rattle.ob_tree.proofs.Spacing.{two}
use Rattle.ob_tree.proofs.cell_text.write_defined.Goals as goal

pub returns : goal.returns
returns c = two _ _ _ _ _ _ c.in_ok-put_mark.ensures c.in_ok-write_body.ensures refl
