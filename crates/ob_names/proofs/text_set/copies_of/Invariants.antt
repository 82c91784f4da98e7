use Rattle.std.proofs.Common.{◌≡◌, ◌++◌, drop, map}
use Rattle.ob_names.proofs.text_set.copies_of.Given as goal

abbrev pub invariant-loop-key : goal.invariant-loop-key
invariant-loop-key l = l.texts ++ map (λ k. k.now) (drop l.key-index l.keys) ≡ map (λ k. k.now) l.keys
