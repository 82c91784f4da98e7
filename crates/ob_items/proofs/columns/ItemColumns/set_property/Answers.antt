use Rattle.std.proofs.Common.{◌≡◌, ◌∙◌, ap, is_some, subst, IfOk, inl, inr, is_none, false}
use Rattle.ob_items.specs.Bodies.{properties_of}
use Rattle.std.specs.Option.{option_map_or}
use Rattle.ob_items.specs.Items.{property_fault}
use Rattle.ob_items.specs.Properties.{property, with_property}
use Rattle.ob_items.specs.declared.item.Body.TheVariants as B
use Rattle.ob_items.proofs.ColumnLemmas.{read_columns, ok_columns}
use Rattle.ob_items.proofs.columns.ItemColumns.set_property.Goals as goal

pub set_property-requires : goal.set_property-requires
set_property-requires c = ap is_some (read_columns properties_of c.self.inside.marks.items c.self.inside.bodies.items c.args.self.now c.args.at c.self.invariant c.self.view_is) ∙ c.requires

pub returns-clause-fault : goal.returns-clause-fault
returns-clause-fault c =
    let read = read_columns properties_of c.self.inside.marks.items c.self.inside.bodies.items c.args.self.now c.args.at c.self.invariant c.self.view_is in
    elim c.set_property.ensures.fault [
      | inl e ↦ inl e
      | inr e ↦ inr (e ∙ (λ i. property_fault (c.is_frozen-frozen.ensures i) (option_map_or (λ ps. is_none (property ps c.args.key.now)) (read i) false) c.args.elements))
    ]

pub returns-clause-grows : goal.returns-clause-grows
returns-clause-grows c =
    subst (λ o. IfOk c.set_property.result (λ grows. grows ≡ option_map_or (λ ps. is_none (property ps c.args.key.now)) o false)) (read_columns properties_of c.self.inside.marks.items c.self.inside.bodies.items c.args.self.now c.args.at c.self.invariant c.self.view_is) c.set_property.ensures.grows

pub returns-clause-ok : goal.returns-clause-ok
returns-clause-ok c = ok_columns properties_of c.self.inside.marks.items c.self.inside.bodies.items c.args.self.now c.args.at c.self.invariant c.self.view_is c.set_property.result (λ ps. B.Object (with_property ps c.args.key.now c.args.value)) c.set_property.new.bodies.items c.set_property.ensures.ok
