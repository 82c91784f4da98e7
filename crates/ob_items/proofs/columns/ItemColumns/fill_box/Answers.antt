use Rattle.std.proofs.Common.{◌∙◌, ap, is_some, Some}
use Rattle.ob_items.specs.Bodies.{box_of}
use Rattle.ob_items.specs.declared.item.Body.TheVariants as B
use Rattle.ob_items.proofs.ColumnLemmas.{read_columns, ok_columns}
use Rattle.ob_items.proofs.columns.ItemColumns.fill_box.Goals as goal

pub fill_box-requires : goal.fill_box-requires
fill_box-requires c = ap is_some (read_columns box_of c.self.inside.marks.items c.self.inside.bodies.items c.args.self.now c.args.at c.self.invariant c.self.view_is) ∙ c.requires

pub returns-clause-ok : goal.returns-clause-ok
returns-clause-ok c = ok_columns box_of c.self.inside.marks.items c.self.inside.bodies.items c.args.self.now c.args.at c.self.invariant c.self.view_is c.fill_box.result (λ _. B.Box (Some c.args.value)) c.fill_box.new.bodies.items c.fill_box.ensures.ok
