use Rattle.std.proofs.Common.{◌≡◌, drop}
use Rattle.std.specs.Ordering.{nat_cmp}
use Rattle.std.specs.Map.{lookup}
use Rattle.std.specs.BTreeMap.{is_at}
use Rattle.ob_items.proofs.few_indices.find.Given as goal

abbrev pub invariant-loop-entry : goal.invariant-loop-entry
invariant-loop-entry l =
    lookup (is_at (nat_cmp l.index)) (drop l.entry-index l.entries) ≡ lookup (is_at (nat_cmp l.index)) l.entries
