use Rattle.std.proofs.Common.{rules, refl}
use Rattle.std.specs.Prelude.{codes}
use Rattle.ob_tree_types.specs.declared.tree.Stmt.{the_lemmas}
use Rattle.ob_tree.specs.Tokens.{Mark}
use Rattle.ob_tree.proofs.Spacing.{two, first}
use Rattle.ob_tree.proofs.cell_text.write_bare.Goals as goal

pub returns-in_ok-put_mark-in-Items : goal.returns-in_ok-put_mark-in-Items
returns-in_ok-put_mark-in-Items c =
    first _ _ _ _ (Mark (codes "{")) _ _ c.in_ok-put_first-in-Items.ensures
    (two _ _ _ _ _ _ c.in_ok-write_stmts-in-Items.ensures c.in_ok-put_mark-in-Items.ensures refl) refl (search (rules, the_lemmas))

pub returns-in_ok-put_mark-in-Value : goal.returns-in_ok-put_mark-in-Value
returns-in_ok-put_mark-in-Value c =
    first _ _ _ _ (Mark (codes "(")) _ _ c.in_ok-put_first-in-Value.ensures
    (two _ _ _ _ _ _ c.in_ok-write_expr-in-Value.ensures c.in_ok-put_mark-in-Value.ensures refl) refl (search (rules, the_lemmas))
