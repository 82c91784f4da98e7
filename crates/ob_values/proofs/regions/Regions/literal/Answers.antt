use Rattle.ob_values.proofs.LiteralSound.{KeepsSound-literal, AddsItem-literal}
use Rattle.ob_values.proofs.FixedLemmas.{KeepsFixed-literal}
use Rattle.ob_values.proofs.regions.Regions.literal.Goals as goal

pub returns-clause-sound : goal.returns-clause-sound
returns-clause-sound c = AddsItem-literal c.add_literal.result _ _ _ _ c.add_literal.ensures.ok c.add_literal.ensures.err c.add_literal.ensures.text

pub returns-clause-kept : goal.returns-clause-kept
returns-clause-kept c = KeepsSound-literal c.add_literal.result _ _ _ _ c.add_literal.ensures.ok c.add_literal.ensures.err

pub returns-clause-fixed : goal.returns-clause-fixed
returns-clause-fixed c = KeepsFixed-literal c.add_literal.result _ _ _ _ c.add_literal.ensures.ok
