use Rattle.std.proofs.Common.{◌≡◌, drop, length, not}
use denote.Shadow.{shadow}
use denote.Text.{Utf8}
use Rattle.std.specs.Prelude.{chars}
use Rattle.ob_lex.specs.Characters.{is_line_end}
use Rattle.ob_lex.specs.Reading.{run}
use Rattle.ob_lex.proofs.scan.after_line.Given as goal

abbrev pub invariant-loop-c : goal.invariant-loop-c
invariant-loop-c l = shadow (Utf8 l.rest) × (drop (run (λ c. not (is_line_end c)) (chars l.fn.text)) (chars l.fn.text) ≡ drop (run (λ c. not (is_line_end c)) (chars l.rest)) (chars l.rest))

abbrev pub decreases-loop-c : goal.decreases-loop-c
decreases-loop-c l = length (chars l.rest)
