use Rattle.std.proofs.Common.{sym, subst, arith}
use Rattle.ob_items.specs.Region.{AreLiterals}
use Rattle.ob_items.proofs.LiteralLemmas.{AreLiterals-none}
use Rattle.ob_items.proofs.region.Region.new.Goals as goal

pub invariant_of-result : goal.invariant_of-result
invariant_of-result c = record {
  literals = subst (λ ls. AreLiterals c.new.result ls) (sym c.new-2.ensures) (AreLiterals-none c.new.result);
  elements = omega arith;
}
