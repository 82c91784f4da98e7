use Rattle.std.proofs.Common.{◌∙◌, ap, sym}
use Rattle.ob_items.specs.Bodies.{text_of}
use Rattle.ob_items.specs.Items.{at_item}
use Rattle.ob_items.specs.Region.{Cells}
use Rattle.ob_items.proofs.LiteralLemmas.{AreLiterals-after_add, text_after_add, text_of_literal}
use Rattle.ob_items.proofs.region.Region.literal.Goals as goal

pub returns-in-Some-clause-text : goal.returns-in-Some-clause-text
returns-in-Some-clause-text c =
    ap (λ (x : Cells). at_item text_of x.items c.in-Some.at) (sym c.self.view_is)
    ∙ text_of_literal c.self.inside.items c.self.inside.literals c.args.units.now c.in-Some.at c.self.invariant.literals (sym c.get.ensures ∙ c.in-Some.is)

pub invariant_of-self : goal.invariant_of-self
invariant_of-self c = record {
  literals = AreLiterals-after_add c.add_literal.result c.self.inside.items c.add_literal.new.self c.self.inside.literals c.add_literal.new.literals c.args.units.now
      c.add_literal.ensures.ok c.add_literal.ensures.noted c.add_literal.ensures.err c.add_literal.ensures.unnoted c.self.invariant.literals;
  elements = c.self.invariant.elements;
}

pub returns-clause-text : goal.returns-clause-text
returns-clause-text c = text_after_add c.add_literal.result c.self.inside.items c.add_literal.new.self c.args.units.now c.add_literal.ensures.place c.add_literal.ensures.ok
