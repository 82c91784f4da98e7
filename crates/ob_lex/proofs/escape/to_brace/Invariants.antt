use Rattle.std.proofs.Common.{◌≡◌, ◌≤◌, length}
use denote.Shadow.{shadow}
use denote.Text.{Utf8}
use Rattle.std.specs.Prelude.{chars}
use Rattle.ob_lex.specs.Reading.{to_brace}
use Rattle.ob_lex.proofs.escape.to_brace.Given as goal

abbrev pub invariant-loop-c : goal.invariant-loop-c
invariant-loop-c l = shadow (Utf8 l.rest) × (to_brace l.fn.first (chars l.fn.text) ≡ to_brace l.code (chars l.rest)) × (l.code ≤ 0x10FFFF)

abbrev pub decreases-loop-c : goal.decreases-loop-c
decreases-loop-c l = length (chars l.rest)
