use Rattle.std.proofs.Common.{◌≡◌, drop, length}
use denote.Shadow.{shadow}
use denote.Text.{Utf8}
use Rattle.std.specs.Prelude.{chars}
use Rattle.ob_lex.specs.Characters.{continues_name}
use Rattle.ob_lex.specs.Reading.{run}
use Rattle.ob_lex.proofs.scan.after_name.Given as goal

abbrev pub invariant-loop-c : goal.invariant-loop-c
invariant-loop-c l = shadow (Utf8 l.rest) × (drop (run continues_name (chars l.fn.text)) (chars l.fn.text) ≡ drop (run continues_name (chars l.rest)) (chars l.rest))

abbrev pub decreases-loop-c : goal.decreases-loop-c
decreases-loop-c l = length (chars l.rest)
