use Rattle.ob_values.proofs.PointerLemmas.{KeepsSound-last}
use Rattle.ob_values.proofs.FixedLemmas.{KeepsFixed-last}
use Rattle.ob_values.proofs.regions.Regions.remove_last.Goals as goal

pub returns-clause-kept : goal.returns-clause-kept
returns-clause-kept c = KeepsSound-last c.write_last_removal.result _ _ _ c.requires c.write_last_removal.ensures.ok c.write_last_removal.ensures.err

pub returns-clause-fixed : goal.returns-clause-fixed
returns-clause-fixed c = KeepsFixed-last c.write_last_removal.result _ _ _ c.requires c.write_last_removal.ensures.fault c.write_last_removal.ensures.ok c.write_last_removal.ensures.err
