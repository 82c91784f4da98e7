use Rattle.std.proofs.Common.{rules}
use Rattle.ob_tree.proofs.Spacing.{four}
use Rattle.ob_tree.proofs.cell_text.write_import.Goals as goal

pub returns : goal.returns
returns c = four _ _ _ _ _ _ _ _ _ _ c.in_ok-write_specs.ensures c.in_ok-write_with.ensures c.in_ok-put_word.ensures c.in_ok-put_text.ensures (search rules)
