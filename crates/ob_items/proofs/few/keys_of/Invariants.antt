use Rattle.std.proofs.Common.{◌≡◌, ◌++◌, map, drop}
use Rattle.ob_items.proofs.few.keys_of.Given as goal

abbrev pub invariant-loop-named : goal.invariant-loop-named
invariant-loop-named l = l.keys ++ map (λ e. e.0) (drop l.named-index l.entries) ≡ map (λ e. e.0) l.entries
