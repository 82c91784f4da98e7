use Rattle.ob_values.proofs.PointerLemmas.{KeepsSound-take}
use Rattle.ob_values.proofs.FixedLemmas.{KeepsFixed-take}
use Rattle.ob_values.proofs.regions.Regions.take_frame.Goals as goal

pub returns-clause-kept : goal.returns-clause-kept
returns-clause-kept c = KeepsSound-take _ _ _ c.requires c.write_taken.ensures.left

pub returns-clause-fixed : goal.returns-clause-fixed
returns-clause-fixed c = KeepsFixed-take _ _ _ c.requires c.write_taken.ensures.left
