use Rattle.std.proofs.Common.{◌≡◌, drop, fold}
use Rattle.std.specs.List.{flat_map}
use Rattle.ob_tree.specs.Names.{with_one}
use Rattle.ob_cells.specs.Imports.{same_pair, pairs_of, all_pairs}
use Rattle.ob_cells.proofs.clause.pairs_among.Given as goal

abbrev pub invariant-loop-spec : goal.invariant-loop-spec
invariant-loop-spec l = fold (with_one same_pair) l.pairs (flat_map pairs_of (drop l.spec-index l.specs)) ≡ all_pairs l.specs
