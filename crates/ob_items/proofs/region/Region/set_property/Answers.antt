use Rattle.std.proofs.Common.{arith, refl}
use Rattle.ob_items.specs.Bodies.{properties_of}
use Rattle.ob_items.specs.Properties.{with_property}
use Rattle.ob_items.specs.declared.item.Body.TheVariants as B
use Rattle.ob_items.proofs.LiteralLemmas.{AreLiterals-written}
use Rattle.ob_items.proofs.region.Region.set_property.Goals as goal

pub invariant_of-self-then-grows : goal.invariant_of-self-then-grows
invariant_of-self-then-grows c = record {
  literals = AreLiterals-written properties_of (λ ps. B.Object (with_property ps c.args.key.now c.args.value))
      (λ units. refl) c.set_property.result c.self.inside.items c.set_property.new.self c.args.at
      c.self.inside.literals c.set_property.ensures.ok c.set_property.ensures.err c.self.invariant.literals;
  elements = omega (arith, c.in_ok-grows.ensures.room c.if-grows.true);
}

pub invariant_of-self-else-grows : goal.invariant_of-self-else-grows
invariant_of-self-else-grows c = record {
  literals = AreLiterals-written properties_of (λ ps. B.Object (with_property ps c.args.key.now c.args.value))
      (λ units. refl) c.set_property.result c.self.inside.items c.set_property.new.self c.args.at
      c.self.inside.literals c.set_property.ensures.ok c.set_property.ensures.err c.self.invariant.literals;
  elements = c.self.invariant.elements;
}
