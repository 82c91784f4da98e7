use Rattle.ob_values.proofs.PointerLemmas.{KeepsSound-element}
use Rattle.ob_values.proofs.FixedLemmas.{KeepsFixed-element}
use Rattle.ob_values.proofs.regions.Regions.set_index.Goals as goal

pub returns-clause-kept : goal.returns-clause-kept
returns-clause-kept c = KeepsSound-element c.write_element.result _ _ _ _ _ _ c.requires.array c.write_element.ensures.ok c.write_element.ensures.err

pub returns-clause-fixed : goal.returns-clause-fixed
returns-clause-fixed c = KeepsFixed-element c.write_element.result _ _ _ _ _ _ _ _ c.requires.array c.write_element.ensures.fault c.write_element.ensures.ok c.write_element.ensures.err
