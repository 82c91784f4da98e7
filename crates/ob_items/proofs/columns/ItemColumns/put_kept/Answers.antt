use Rattle.std.proofs.Common.{◌∙◌, ap, is_some}
use Rattle.ob_items.specs.Bodies.{kept_of, kept_from}
use Rattle.ob_items.specs.Columns.{items_of}
use Rattle.ob_items.specs.declared.item.Body.TheVariants as B
use Rattle.ob_items.proofs.ColumnLemmas.{read_columns, changed_columns}
use Rattle.ob_items.proofs.columns.ItemColumns.put_kept.Goals as goal

pub put_kept-requires : goal.put_kept-requires
put_kept-requires c = ap is_some (read_columns kept_of c.self.inside.marks.items c.self.inside.bodies.items c.args.self.now c.args.at c.self.invariant c.self.view_is) ∙ c.requires

pub returns : goal.returns
returns c = ap (items_of c.self.inside.marks.items) c.put_kept.ensures.put ∙ changed_columns kept_of c.self.inside.marks.items c.self.inside.bodies.items c.args.self.now c.args.at c.self.invariant c.self.view_is (λ _. B.Generator (kept_from c.args.frame))
