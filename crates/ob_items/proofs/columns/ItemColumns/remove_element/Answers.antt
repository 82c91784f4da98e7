use Rattle.std.proofs.Common.{◌≡◌, ◌∙◌, ap, is_some, subst, IfOk, None, slice_get, remove}
use Rattle.ob_items.specs.Bodies.{array_of}
use Rattle.std.specs.Option.{option_map_or}
use Rattle.ob_items.specs.declared.item.Body.TheVariants as B
use Rattle.ob_items.proofs.ColumnLemmas.{read_columns, ok_columns}
use Rattle.ob_items.proofs.columns.ItemColumns.remove_element.Goals as goal

pub remove_element-requires : goal.remove_element-requires
remove_element-requires c = ap is_some (read_columns array_of c.self.inside.marks.items c.self.inside.bodies.items c.args.self.now c.args.at c.self.invariant c.self.view_is) ∙ c.requires

pub returns-clause-value : goal.returns-clause-value
returns-clause-value c = subst (λ o. IfOk c.remove_element.result (λ value. value ≡ option_map_or (λ vs. slice_get vs c.args.index) o None)) (read_columns array_of c.self.inside.marks.items c.self.inside.bodies.items c.args.self.now c.args.at c.self.invariant c.self.view_is) c.remove_element.ensures.value

pub returns-clause-ok : goal.returns-clause-ok
returns-clause-ok c = ok_columns array_of c.self.inside.marks.items c.self.inside.bodies.items c.args.self.now c.args.at c.self.invariant c.self.view_is c.remove_element.result (λ vs. B.Array (remove vs c.args.index)) c.remove_element.new.bodies.items c.remove_element.ensures.ok
