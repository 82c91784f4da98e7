use Rattle.std.proofs.Common.{refl, reverse}
use Rattle.ob_items.specs.Bodies.{array_of}
use Rattle.ob_items.specs.declared.item.Body.TheVariants as B
use Rattle.ob_items.proofs.LiteralLemmas.{AreLiterals-written}
use Rattle.ob_items.proofs.region.Region.reverse_elements.Goals as goal

pub invariant_of-self : goal.invariant_of-self
invariant_of-self c = record {
  literals = AreLiterals-written array_of (λ vs. B.Array (reverse vs)) (λ units. refl) c.reverse_elements.result c.self.inside.items c.reverse_elements.new.self c.args.at c.self.inside.literals c.reverse_elements.ensures.ok c.reverse_elements.ensures.err c.self.invariant.literals;
  elements = c.self.invariant.elements;
}
