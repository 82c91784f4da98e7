use Rattle.ob_values.proofs.SoundLemmas.{KeepsSound-open}
use Rattle.ob_values.proofs.FixedLemmas.{KeepsFixed-open}
use Rattle.ob_values.proofs.regions.Regions.open.Goals as goal

pub returns-clause-kept : goal.returns-clause-kept
returns-clause-kept c = KeepsSound-open c.insert_region.result _ _ c.insert_region.ensures.fresh c.insert_region.ensures.opened c.insert_region.ensures.err

pub returns-clause-fixed : goal.returns-clause-fixed
returns-clause-fixed c = KeepsFixed-open c.insert_region.result _ _ c.insert_region.ensures.fresh c.insert_region.ensures.opened c.insert_region.ensures.err
