use Rattle.std.proofs.Common.{refl}
use Rattle.ob_tree.proofs.Spacing.{three}
use Rattle.ob_tree.proofs.cell_text.write_spec.Goals as goal

pub returns : goal.returns
returns c = three _ _ _ _ _ _ _ _ c.in_ok-put_form.ensures c.in_ok-put_name.ensures c.in_ok-put_alias.ensures refl
