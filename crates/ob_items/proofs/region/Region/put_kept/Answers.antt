use Rattle.std.proofs.Common.{refl, sym, subst}
use Rattle.ob_items.specs.Bodies.{kept_of, kept_from}
use Rattle.ob_items.specs.Region.{AreLiterals}
use Rattle.ob_items.specs.declared.item.Body.TheVariants as B
use Rattle.ob_items.proofs.LiteralLemmas.{AreLiterals-changed}
use Rattle.ob_items.proofs.region.Region.put_kept.Goals as goal

pub invariant_of-self : goal.invariant_of-self
invariant_of-self c = record {
  literals = subst (λ xs. AreLiterals xs c.self.inside.literals) (sym c.put_kept.ensures) (AreLiterals-changed kept_of (λ _. B.Generator (kept_from c.args.frame)) (λ units. refl) c.self.inside.items c.args.at c.self.inside.literals c.self.invariant.literals);
  elements = c.self.invariant.elements;
}
