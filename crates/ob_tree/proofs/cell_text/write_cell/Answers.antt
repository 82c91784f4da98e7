use Rattle.std.proofs.Common.{rules, refl}
use Rattle.std.specs.Prelude.{codes}
use Rattle.ob_tree.specs.Tokens.{Word}
use Rattle.ob_tree.proofs.Spacing.{two, first}
use Rattle.ob_tree.proofs.cell_text.write_cell.Goals as goal

pub returns-in_ok-write_defined-in-View : goal.returns-in_ok-write_defined-in-View
returns-in_ok-write_defined-in-View c =
    first _ _ _ _ (Word (codes "viewof")) _ _ c.in_ok-put_first-in-View.ensures
    (two _ _ _ _ _ _ c.in_ok-put_name-in-View.ensures c.in_ok-write_defined-in-View.ensures refl) refl (search rules)

pub returns-in_ok-write_defined-in-Mutable : goal.returns-in_ok-write_defined-in-Mutable
returns-in_ok-write_defined-in-Mutable c =
    first _ _ _ _ (Word (codes "mutable")) _ _ c.in_ok-put_first-in-Mutable.ensures
    (two _ _ _ _ _ _ c.in_ok-put_name-in-Mutable.ensures c.in_ok-write_defined-in-Mutable.ensures refl) refl (search rules)
