use Rattle.std.proofs.Common.{arith, subst, length, false}
use Rattle.std.specs.Prelude.{chars}
use Rattle.ob_lex.specs.Reading.{Gives}
use Rattle.ob_lex.proofs.Cutting.{bytes_are, chars_within}
use Rattle.ob_lex.proofs.Cuts.{cut_enough}
use Rattle.ob_lex.proofs.Steps.{yes_of, no_of}
use Rattle.ob_lex.proofs.lex.Goals as goal

pub divide-requires : goal.divide-requires
divide-requires c = omega (arith, bytes_are c.args.text.now c.utf8.text, c.requires)

pub returns : goal.returns
returns c =
    let text = chars c.args.text.now in
    let same = cut_enough (length c.args.text.now) false 0 text (chars_within c.args.text.now c.utf8.text) in
    let exact = subst (λ read. Gives (λ tokens. tokens) c.divide.result read) same c.divide.ensures in
    record { tokens = yes_of (λ tokens. tokens) text c.divide.result exact; bad = no_of (λ tokens. tokens) text c.divide.result exact; exact = exact }
