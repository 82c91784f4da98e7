use Rattle.std.proofs.Common.{◌≡◌, ◌≤◌, length}
use denote.Shadow.{shadow}
use denote.Text.{Utf8}
use Rattle.std.specs.Prelude.{chars}
use Rattle.ob_base.specs.Integers.{greatest}
use Rattle.ob_lex.specs.Reading.{digits_from}
use Rattle.ob_lex.proofs.number.digits_from.Given as goal

abbrev pub invariant-loop-c : goal.invariant-loop-c
invariant-loop-c l = shadow (Utf8 l.rest) × (digits_from l.base l.fn.first (chars l.fn.text) ≡ digits_from l.base l.value (chars l.rest)) × (l.value ≤ greatest)

abbrev pub decreases-loop-c : goal.decreases-loop-c
decreases-loop-c l = length (chars l.rest)
