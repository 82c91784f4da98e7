use Rattle.std.proofs.Common.{◌∙◌, ap, is_some, reverse}
use Rattle.ob_items.specs.Bodies.{array_of}
use Rattle.ob_items.specs.declared.item.Body.TheVariants as B
use Rattle.ob_items.proofs.ColumnLemmas.{read_columns, ok_columns}
use Rattle.ob_items.proofs.columns.ItemColumns.reverse_elements.Goals as goal

pub reverse_elements-requires : goal.reverse_elements-requires
reverse_elements-requires c = ap is_some (read_columns array_of c.self.inside.marks.items c.self.inside.bodies.items c.args.self.now c.args.at c.self.invariant c.self.view_is) ∙ c.requires

pub returns-clause-ok : goal.returns-clause-ok
returns-clause-ok c = ok_columns array_of c.self.inside.marks.items c.self.inside.bodies.items c.args.self.now c.args.at c.self.invariant c.self.view_is c.reverse_elements.result (λ vs. B.Array (reverse vs)) c.reverse_elements.new.bodies.items c.reverse_elements.ensures.ok
