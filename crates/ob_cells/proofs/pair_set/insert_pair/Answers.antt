use Rattle.std.proofs.Common.{◌≡◌, map, sym, ap, ◌∙◌}
use Rattle.ob_cells.specs.PairKeys.{pair_of}
use Rattle.ob_cells.proofs.PairLaws.{one_through}
use Rattle.ob_cells.proofs.pair_set.insert_pair.Goals as goal

pub returns : goal.returns
returns c = ap (map pair_of) c.in_ok-insert.ensures.keys ∙ sym (one_through c.args.set.now.keys (c.args.form, c.args.source, c.args.alias))
