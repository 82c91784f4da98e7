use Rattle.std.proofs.Common.{◌≡◌, ◌-◌, length}
use denote.Shadow.{shadow}
use denote.Text.{Utf8}
use Rattle.std.specs.Prelude.{chars}
use Rattle.ob_lex.specs.Reading.{inside, with_units}
use Rattle.ob_lex.proofs.quoted.inside.Given as goal

abbrev pub invariant-loop-turn : goal.invariant-loop-turn
invariant-loop-turn l = (inside (length l.fn.text) l.quote (chars l.fn.text) ≡ with_units l.units (inside (l._turn-end - l._turn) l.quote (chars l.rest))) × shadow (Utf8 l.rest)
