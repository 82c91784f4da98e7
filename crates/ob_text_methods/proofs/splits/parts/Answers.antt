use Rattle.std.proofs.Common.{inl, inr}
use Rattle.ob_values.specs.TextMethods.{split_by}
use Rattle.ob_text_methods.proofs.PlaceLemmas.{texts_answer}
use Rattle.ob_text_methods.proofs.splits.parts.Goals as goal

pub returns-clause-value : goal.returns-clause-value
returns-clause-value c = elim c.parts_by.ensures.value [
  | inl m ↦ inl m
  | inr e ↦ inr (texts_answer c.args.regions.now c.args.region c.args.left (split_by c.args.piece.now c.args.units.now) c.parts_by.result e)
]
