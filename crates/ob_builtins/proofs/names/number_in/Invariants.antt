use Rattle.std.proofs.Common.{◌≡◌, ◌+◌, drop, nat_eq}
use Rattle.std.specs.Cmp.Lexicographic.{pointwise}
use Rattle.std.specs.Option.{option_map}
use Rattle.std.specs.Prelude.{position}
use Rattle.ob_builtins.proofs.names.number_in.Given as goal

abbrev pub invariant-loop-this : goal.invariant-loop-this
invariant-loop-this l =
    (l.number ≡ l.first + l.this-index)
    × (option_map (λ k. l.number + k) (position (λ n. pointwise nat_eq n.now l.name) (drop l.this-index l.names)) ≡ option_map (λ k. l.first + k) (position (λ n. pointwise nat_eq n.now l.name) l.names))
