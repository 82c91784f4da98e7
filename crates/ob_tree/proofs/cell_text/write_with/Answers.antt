use Rattle.std.proofs.Common.{rules}
use Rattle.ob_tree.proofs.Spacing.{nothing, two}
use Rattle.ob_tree.proofs.cell_text.write_with.Goals as goal

pub returns-in-None : goal.returns-in-None
returns-in-None c = nothing _ _ (search rules)

pub returns-in_ok-write_specs-in-Some : goal.returns-in_ok-write_specs-in-Some
returns-in_ok-write_specs-in-Some c = two _ _ _ _ _ _ c.in_ok-put_word-in-Some.ensures c.in_ok-write_specs-in-Some.ensures (search rules)
