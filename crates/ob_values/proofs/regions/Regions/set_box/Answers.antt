use Rattle.ob_values.proofs.PointerLemmas.{KeepsSound-box}
use Rattle.ob_values.proofs.FixedLemmas.{KeepsFixed-box}
use Rattle.ob_values.proofs.regions.Regions.set_box.Goals as goal

pub returns-clause-kept : goal.returns-clause-kept
returns-clause-kept c = KeepsSound-box c.write_box.result _ _ _ _ c.requires c.write_box.ensures.ok c.write_box.ensures.err

pub returns-clause-fixed : goal.returns-clause-fixed
returns-clause-fixed c = KeepsFixed-box c.write_box.result _ _ _ _ c.requires c.write_box.ensures.fault c.write_box.ensures.ok c.write_box.ensures.err
