use Rattle.std.proofs.Common.{◌∙◌, ap, sym, is_some}
use Rattle.ob_items.specs.Bodies.{kept_of, after_take}
use Rattle.ob_items.specs.Columns.{items_of}
use Rattle.ob_items.specs.declared.item.Body.TheVariants as B
use Rattle.ob_items.proofs.ColumnLemmas.{read_columns, changed_columns}
use Rattle.ob_items.proofs.columns.ItemColumns.take_kept.Goals as goal

pub take_kept-requires : goal.take_kept-requires
take_kept-requires c = ap is_some (read_columns kept_of c.self.inside.marks.items c.self.inside.bodies.items c.args.self.now c.args.at c.self.invariant c.self.view_is) ∙ c.requires

pub returns-clause-taken : goal.returns-clause-taken
returns-clause-taken c = sym (read_columns kept_of c.self.inside.marks.items c.self.inside.bodies.items c.args.self.now c.args.at c.self.invariant c.self.view_is) ∙ c.take_kept.ensures.taken

pub returns-clause-left : goal.returns-clause-left
returns-clause-left c = ap (items_of c.self.inside.marks.items) c.take_kept.ensures.left ∙ changed_columns kept_of c.self.inside.marks.items c.self.inside.bodies.items c.args.self.now c.args.at c.self.invariant c.self.view_is (λ kept. B.Generator (after_take kept))
