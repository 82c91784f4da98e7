use Rattle.std.proofs.Common.{◌≡◌, nat_eq, drop}
use Rattle.std.specs.Cmp.Lexicographic.{pointwise}
use Rattle.std.specs.Map.{lookup}
use Rattle.ob_items.proofs.few.find.Given as goal

abbrev pub invariant-loop-named : goal.invariant-loop-named
invariant-loop-named l =
    lookup (pointwise nat_eq l.key) (drop l.named-index l.entries) ≡ lookup (pointwise nat_eq l.key) l.entries
