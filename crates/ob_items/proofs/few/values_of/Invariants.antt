use Rattle.std.proofs.Common.{◌≡◌, ◌++◌, map, drop}
use Rattle.ob_items.proofs.few.values_of.Given as goal

abbrev pub invariant-loop-named : goal.invariant-loop-named
invariant-loop-named l = l.values ++ map (λ e. e.1) (drop l.named-index l.entries) ≡ map (λ e. e.1) l.entries
