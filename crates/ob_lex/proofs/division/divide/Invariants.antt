use Rattle.std.proofs.Common.{◌≡◌, ◌+◌, ◌-◌, false, length}
use denote.Shadow.{shadow}
use denote.Text.{Utf8}
use Rattle.std.specs.Prelude.{chars}
use Rattle.ob_lex.specs.Characters.{bytes}
use Rattle.ob_lex.specs.Closing.{MayClose}
use Rattle.ob_lex.specs.Reading.{cut, with_front}
use Rattle.ob_lex.proofs.division.divide.Given as goal

abbrev pub invariant-loop-turn : goal.invariant-loop-turn
invariant-loop-turn l = (cut (length l.fn.text) false 0 (chars l.fn.text) ≡ with_front l.tokens (cut (l._turn-end - l._turn) l.breaks l.at (chars l.rest)))
    × (l.at + bytes (chars l.rest) ≡ bytes (chars l.fn.text))
    × MayClose l.closes (chars l.rest)
    × shadow (Utf8 l.rest)
