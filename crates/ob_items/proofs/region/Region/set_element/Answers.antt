use Rattle.std.proofs.Common.{arith, refl}
use Rattle.ob_items.specs.Bodies.{array_of}
use Rattle.ob_items.specs.Items.{with_element}
use Rattle.ob_items.proofs.LiteralLemmas.{AreLiterals-written}
use Rattle.ob_items.proofs.region.Region.set_element.Goals as goal

pub invariant_of-self-then-branch : goal.invariant_of-self-then-branch
invariant_of-self-then-branch c = record {
  literals = AreLiterals-written array_of (with_element c.args.index c.args.value) (λ units. refl) c.set_element.result c.self.inside.items c.set_element.new.self c.args.at c.self.inside.literals c.set_element.ensures.ok c.set_element.ensures.err c.self.invariant.literals;
  elements = omega (arith, c.in_ok-set_element.ensures.room c.if-branch.true);
}

pub invariant_of-self-else-branch : goal.invariant_of-self-else-branch
invariant_of-self-else-branch c = record {
  literals = AreLiterals-written array_of (with_element c.args.index c.args.value) (λ units. refl) c.set_element.result c.self.inside.items c.set_element.new.self c.args.at c.self.inside.literals c.set_element.ensures.ok c.set_element.ensures.err c.self.invariant.literals;
  elements = c.self.invariant.elements;
}
