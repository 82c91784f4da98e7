use Rattle.std.proofs.Common.{◌-◌, refl, length, remove}
use Rattle.ob_items.specs.Bodies.{array_of}
use Rattle.ob_items.specs.declared.item.Body.TheVariants as B
use Rattle.ob_items.proofs.LiteralLemmas.{AreLiterals-written}
use Rattle.ob_items.proofs.region.Region.remove_last.Goals as goal

pub invariant_of-self : goal.invariant_of-self
invariant_of-self c = record {
  literals = AreLiterals-written array_of (λ vs. B.Array (remove vs (length vs - 1))) (λ units. refl) c.remove_last.result c.self.inside.items c.remove_last.new.self c.args.at c.self.inside.literals c.remove_last.ensures.ok c.remove_last.ensures.err c.self.invariant.literals;
  elements = c.self.invariant.elements;
}
