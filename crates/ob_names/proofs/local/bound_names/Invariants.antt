use Rattle.std.proofs.Common.{◌≡◌, [], drop, fold, map, bytes_eq}
use Rattle.ob_names.specs.Kept.{bound_of}
use Rattle.ob_tree.specs.Names.{with_one, name_of}
use Rattle.ob_names.proofs.local.bound_names.Given as goal

abbrev pub invariant-loop-binding : goal.invariant-loop-binding
invariant-loop-binding l = fold (with_one bytes_eq) l.names (map name_of (map bound_of (drop l.binding-index l.bound))) ≡ fold (with_one bytes_eq) [] (map name_of (map bound_of l.bound))
