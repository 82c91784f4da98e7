use Rattle.std.proofs.Common.{◌≡◌, ◌==◌, ◌∙◌, ap, is_some, subst, IfOk, inl, inr, length}
use Rattle.ob_items.specs.Bodies.{array_of}
use Rattle.std.specs.Option.{option_map_or}
use Rattle.ob_items.specs.Items.{element_fault, with_element}
use Rattle.ob_items.proofs.ColumnLemmas.{read_columns, ok_columns}
use Rattle.ob_items.proofs.columns.ItemColumns.set_element.Goals as goal

pub set_element-requires : goal.set_element-requires
set_element-requires c = ap is_some (read_columns array_of c.self.inside.marks.items c.self.inside.bodies.items c.args.self.now c.args.at c.self.invariant c.self.view_is) ∙ c.requires

pub returns-clause-fault : goal.returns-clause-fault
returns-clause-fault c =
    let read = read_columns array_of c.self.inside.marks.items c.self.inside.bodies.items c.args.self.now c.args.at c.self.invariant c.self.view_is in
    elim c.set_element.ensures.fault [
      | inl e ↦ inl e
      | inr e ↦ inr (e ∙ (λ i. element_fault (c.is_frozen-frozen.ensures i) (option_map_or length (read i) 0) c.args.index c.args.elements))
    ]

pub returns-clause-memory : goal.returns-clause-memory
returns-clause-memory c h = c.set_element.ensures.memory h ∙ ap (λ o. option_map_or length o 0) (read_columns array_of c.self.inside.marks.items c.self.inside.bodies.items c.args.self.now c.args.at c.self.invariant c.self.view_is)

pub returns-clause-grows : goal.returns-clause-grows
returns-clause-grows c = subst (λ o. IfOk c.set_element.result (λ grows. grows ≡ (c.args.index == option_map_or length o 0))) (read_columns array_of c.self.inside.marks.items c.self.inside.bodies.items c.args.self.now c.args.at c.self.invariant c.self.view_is) c.set_element.ensures.grows

pub returns-clause-ok : goal.returns-clause-ok
returns-clause-ok c = ok_columns array_of c.self.inside.marks.items c.self.inside.bodies.items c.args.self.now c.args.at c.self.invariant c.self.view_is c.set_element.result (with_element c.args.index c.args.value) c.set_element.new.bodies.items c.set_element.ensures.ok
