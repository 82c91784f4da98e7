use Rattle.ob_items.proofs.DecimalLemmas.{index_in-is}
use Rattle.ob_items.proofs.index_text.index_of.Goals as goal

pub returns : goal.returns
returns c = index_in-is _ _ c.array_index.ensures.found c.array_index.ensures.none
