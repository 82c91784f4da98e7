use Rattle.ob_values.proofs.PointerLemmas.{KeepsSound-hook}
use Rattle.ob_values.proofs.FixedLemmas.{KeepsFixed-hook}
use Rattle.ob_values.proofs.regions.Regions.count_hook.Goals as goal

pub returns-clause-kept : goal.returns-clause-kept
returns-clause-kept c = KeepsSound-hook c.write_hook.result _ _ _ c.requires c.write_hook.ensures.ok c.write_hook.ensures.err

pub returns-clause-fixed : goal.returns-clause-fixed
returns-clause-fixed c = KeepsFixed-hook c.write_hook.result _ _ _ _ c.requires c.write_hook.ensures.fault c.write_hook.ensures.ok c.write_hook.ensures.err
