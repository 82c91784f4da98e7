use Rattle.std.proofs.Common.{◌≡◌, ◌++◌, drop, map}
use Rattle.std.specs.Prelude.{string_bytes}
use Rattle.ob_tree.specs.Tokens.{spaced}
use Rattle.ob_tree.specs.Print.{separated, listed, name_token}
use Rattle.ob_tree.proofs.marks.write_names.Given as goal

abbrev pub invariant-loop-place : goal.invariant-loop-place
invariant-loop-place l = string_bytes l.out ++ spaced (separated l.place (map name_token (drop l.place l.names))) ≡ string_bytes l.initial.out ++ spaced (listed (map name_token l.names))
