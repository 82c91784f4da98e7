use Rattle.std.proofs.Common.{◌≡◌, ◌++◌, drop, map}
use Rattle.ob_cells.specs.PairKeys.{pair_of}
use Rattle.ob_cells.proofs.pair_set.copies_of.Given as goal

abbrev pub invariant-loop-form : goal.invariant-loop-form
invariant-loop-form l = l.pairs ++ map pair_of (drop l.form-index l.keys) ≡ map pair_of l.keys
