use Rattle.std.proofs.Common.{sym, subst}
use Rattle.ob_items.specs.Region.{AreLiterals}
use Rattle.ob_items.proofs.LiteralLemmas.{AreLiterals-marked}
use Rattle.ob_items.proofs.region.Region.mark.Goals as goal

pub invariant_of-self : goal.invariant_of-self
invariant_of-self c = record {
  literals = subst (λ xs. AreLiterals xs c.self.inside.literals) (sym c.mark.ensures) (AreLiterals-marked c.self.inside.items c.args.at c.self.inside.literals c.self.invariant.literals);
  elements = c.self.invariant.elements;
}
