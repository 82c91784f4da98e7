use Rattle.ob_values.proofs.PointerLemmas.{KeepsSound-put}
use Rattle.ob_values.proofs.FixedLemmas.{KeepsFixed-put}
use Rattle.ob_values.proofs.regions.Regions.put_frame.Goals as goal

pub returns-clause-kept : goal.returns-clause-kept
returns-clause-kept c = KeepsSound-put _ _ _ _ c.requires c.write_put.ensures

pub returns-clause-fixed : goal.returns-clause-fixed
returns-clause-fixed c = KeepsFixed-put _ _ _ _ c.requires c.write_put.ensures
