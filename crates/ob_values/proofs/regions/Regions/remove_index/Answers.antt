use Rattle.ob_values.proofs.PointerLemmas.{KeepsSound-remove}
use Rattle.ob_values.proofs.FixedLemmas.{KeepsFixed-remove}
use Rattle.ob_values.proofs.regions.Regions.remove_index.Goals as goal

pub returns-clause-kept : goal.returns-clause-kept
returns-clause-kept c = KeepsSound-remove c.write_removal.result _ _ _ _ c.requires c.write_removal.ensures.ok c.write_removal.ensures.err

pub returns-clause-fixed : goal.returns-clause-fixed
returns-clause-fixed c = KeepsFixed-remove c.write_removal.result _ _ _ _ c.requires c.write_removal.ensures.fault c.write_removal.ensures.ok c.write_removal.ensures.err
