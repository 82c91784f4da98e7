use Rattle.std.proofs.Common.{refl, Some}
use Rattle.ob_items.specs.Bodies.{box_of}
use Rattle.ob_items.specs.declared.item.Body.TheVariants as B
use Rattle.ob_items.proofs.LiteralLemmas.{AreLiterals-written}
use Rattle.ob_items.proofs.region.Region.fill_box.Goals as goal

pub invariant_of-self : goal.invariant_of-self
invariant_of-self c = record {
  literals = AreLiterals-written box_of (λ _. B.Box (Some c.args.value)) (λ units. refl) c.fill_box.result c.self.inside.items c.fill_box.new.self c.args.at c.self.inside.literals c.fill_box.ensures.ok c.fill_box.ensures.err c.self.invariant.literals;
  elements = c.self.invariant.elements;
}
