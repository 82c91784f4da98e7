use Rattle.std.proofs.Common.{◌≡◌, ◌++◌, drop, map}
use Rattle.std.specs.Prelude.{string_bytes}
use Rattle.ob_tree.specs.Tokens.{spaced}
use Rattle.ob_tree.specs.Print.{separated, listed, spec_tokens}
use Rattle.ob_tree.proofs.cell_text.write_listed.Given as goal

abbrev pub invariant-loop-place : goal.invariant-loop-place
invariant-loop-place l = string_bytes l.out ++ spaced (separated l.place (map spec_tokens (drop l.place l.specs))) ≡ string_bytes l.initial.out ++ spaced (listed (map spec_tokens l.specs))
