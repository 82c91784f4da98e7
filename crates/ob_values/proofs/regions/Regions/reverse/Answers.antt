use Rattle.ob_values.proofs.PointerLemmas.{KeepsSound-reverse}
use Rattle.ob_values.proofs.FixedLemmas.{KeepsFixed-reverse}
use Rattle.ob_values.proofs.regions.Regions.reverse.Goals as goal

pub returns-clause-kept : goal.returns-clause-kept
returns-clause-kept c = KeepsSound-reverse c.write_reversal.result _ _ _ c.requires c.write_reversal.ensures.ok c.write_reversal.ensures.err

pub returns-clause-fixed : goal.returns-clause-fixed
returns-clause-fixed c = KeepsFixed-reverse c.write_reversal.result _ _ _ c.requires c.write_reversal.ensures.fault c.write_reversal.ensures.ok c.write_reversal.ensures.err
