use Rattle.std.proofs.Common.{◌+◌, ◌∙◌, ap, is_some}
use Rattle.ob_items.specs.Bodies.{hooks_of}
use Rattle.std.specs.Option.{option_map_or}
use Rattle.ob_items.specs.Items.{hook_fault}
use Rattle.ob_items.specs.declared.item.Body.TheVariants as B
use Rattle.ob_items.proofs.ColumnLemmas.{read_columns, ok_columns}
use Rattle.ob_items.proofs.columns.ItemColumns.add_hook.Goals as goal

pub add_hook-requires : goal.add_hook-requires
add_hook-requires c = ap is_some (read_columns hooks_of c.self.inside.marks.items c.self.inside.bodies.items c.args.self.now c.args.at c.self.invariant c.self.view_is) ∙ c.requires

pub returns-clause-fault : goal.returns-clause-fault
returns-clause-fault c =
    let read = read_columns hooks_of c.self.inside.marks.items c.self.inside.bodies.items c.args.self.now c.args.at c.self.invariant c.self.view_is in
    c.add_hook.ensures.fault ∙ (λ i. hook_fault (c.is_frozen-frozen.ensures i) (option_map_or (λ n. n) (read i) 0))

pub returns-clause-ok : goal.returns-clause-ok
returns-clause-ok c = ok_columns hooks_of c.self.inside.marks.items c.self.inside.bodies.items c.args.self.now c.args.at c.self.invariant c.self.view_is c.add_hook.result (λ n. B.Invalidation (n + 1)) c.add_hook.new.bodies.items c.add_hook.ensures.ok
