use Rattle.std.proofs.Common.{◌≡◌, drop}
use Rattle.std.specs.Prelude.{chars}
use Rattle.ob_lex.specs.Reading.{first_mark}
use Rattle.ob_lex.proofs.scan.first_mark.Given as goal

abbrev pub invariant-loop-mark : goal.invariant-loop-mark
invariant-loop-mark l = first_mark l.marks (chars l.text) ≡ first_mark (drop l.mark-index l.marks) (chars l.text)
