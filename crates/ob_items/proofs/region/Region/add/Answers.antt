use Rattle.std.proofs.Common.{◌≡◌, arith, sym, ap, subst}
use Rattle.ob_items.specs.Items.{live}
use Rattle.ob_items.specs.Region.{AreLiterals, Cells}
use Rattle.ob_items.proofs.LiteralLemmas.{AreLiterals-push}
use Rattle.ob_items.proofs.region.Region.add.Goals as goal

pub invariant_of-self : goal.invariant_of-self
invariant_of-self c = record {
  literals = subst (λ xs. AreLiterals xs c.self.inside.literals) (sym c.in-Ok.ensures.ok) (AreLiterals-push c.self.inside.items (live c.args.body) c.self.inside.literals c.self.invariant.literals);
  elements = (let same : c.self.inside.elements ≡ c.args.self.now.elements = ap (λ (x : Cells). x.elements) c.self.view_is in omega (arith, same, c.requires));
}
