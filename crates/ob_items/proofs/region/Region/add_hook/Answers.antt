use Rattle.std.proofs.Common.{◌+◌, refl}
use Rattle.ob_items.specs.Bodies.{hooks_of}
use Rattle.ob_items.specs.declared.item.Body.TheVariants as B
use Rattle.ob_items.proofs.LiteralLemmas.{AreLiterals-written}
use Rattle.ob_items.proofs.region.Region.add_hook.Goals as goal

pub invariant_of-self : goal.invariant_of-self
invariant_of-self c = record {
  literals = AreLiterals-written hooks_of (λ n. B.Invalidation (n + 1)) (λ units. refl) c.add_hook.result c.self.inside.items c.add_hook.new.self c.args.at c.self.inside.literals c.add_hook.ensures.ok c.add_hook.ensures.err c.self.invariant.literals;
  elements = c.self.invariant.elements;
}
