use Rattle.ob_values.proofs.PointerLemmas.{KeepsSound-property}
use Rattle.ob_values.proofs.FixedLemmas.{KeepsFixed-property}
use Rattle.ob_values.specs.Store.{is_new_in, elements_in}
use Rattle.ob_values.proofs.regions.Regions.set_key.Goals as goal

pub returns-clause-kept : goal.returns-clause-kept
returns-clause-kept c = KeepsSound-property c.write_key.result _ _ _ _ _ _ c.requires c.write_key.ensures.ok c.write_key.ensures.err

pub returns-clause-fixed : goal.returns-clause-fixed
returns-clause-fixed c = KeepsFixed-property c.write_key.result _ _ _ _ _ _ (is_new_in c.args.self.now c.args.r c.args.key.now) (elements_in c.args.self.now c.args.r.region) c.requires c.write_key.ensures.fault c.write_key.ensures.ok c.write_key.ensures.err
