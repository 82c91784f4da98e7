use Rattle.ob_values.proofs.SoundLemmas.{KeepsSound-freeze}
use Rattle.ob_values.proofs.FixedLemmas.{KeepsFixed-freeze}
use Rattle.ob_values.proofs.regions.Regions.freeze.Goals as goal

pub returns-clause-kept : goal.returns-clause-kept
returns-clause-kept c = KeepsSound-freeze c.mark_reached.result _ _ c.args.value c.mark_reached.ensures.ok c.mark_reached.ensures.err

pub returns-clause-fixed : goal.returns-clause-fixed
returns-clause-fixed c = KeepsFixed-freeze c.mark_reached.result _ _ c.args.value c.mark_reached.ensures.ok c.mark_reached.ensures.err
