use Rattle.std.proofs.Common.{◌≡◌, ◌-◌, ◌∙◌, ap, is_some, subst, IfOk, None, length, slice_get, remove}
use Rattle.ob_items.specs.Bodies.{array_of}
use Rattle.std.specs.Option.{option_map_or}
use Rattle.ob_items.specs.declared.item.Body.TheVariants as B
use Rattle.ob_items.proofs.ColumnLemmas.{read_columns, ok_columns}
use Rattle.ob_items.proofs.columns.ItemColumns.remove_last.Goals as goal

pub remove_last-requires : goal.remove_last-requires
remove_last-requires c = ap is_some (read_columns array_of c.self.inside.marks.items c.self.inside.bodies.items c.args.self.now c.args.at c.self.invariant c.self.view_is) ∙ c.requires

pub returns-clause-value : goal.returns-clause-value
returns-clause-value c = subst (λ o. IfOk c.remove_last.result (λ value. value ≡ option_map_or (λ vs. slice_get vs (length vs - 1)) o None)) (read_columns array_of c.self.inside.marks.items c.self.inside.bodies.items c.args.self.now c.args.at c.self.invariant c.self.view_is) c.remove_last.ensures.value

pub returns-clause-ok : goal.returns-clause-ok
returns-clause-ok c = ok_columns array_of c.self.inside.marks.items c.self.inside.bodies.items c.args.self.now c.args.at c.self.invariant c.self.view_is c.remove_last.result (λ vs. B.Array (remove vs (length vs - 1))) c.remove_last.new.bodies.items c.remove_last.ensures.ok
