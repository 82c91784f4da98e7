use Rattle.ob_values.proofs.SoundLemmas.{AddsItem-new}
use Rattle.ob_values.proofs.FixedLemmas.{KeepsFixed-new}
use Rattle.ob_values.proofs.regions.Regions.add.Goals as goal

pub returns-clause-sound : goal.returns-clause-sound
returns-clause-sound c = AddsItem-new c.args.body c.add_item.result _ _ _ _ c.requires.open c.add_item.ensures.key c.add_item.ensures.ok

pub returns-clause-fixed : goal.returns-clause-fixed
returns-clause-fixed c = KeepsFixed-new c.add_item.result _ _ _ _ _ c.add_item.ensures.ok
