use Rattle.std.proofs.Common.{suc, drop, ap, sym, ◌∙◌}
use Rattle.std.specs.Prelude.{chars}
use Rattle.ob_lex.specs.Characters.{continues_name}
use Rattle.ob_lex.specs.Reading.{run}
use Rattle.ob_lex.proofs.word.split_word.Goals as goal

pub before-requires : goal.before-requires
before-requires c = let n = suc (run continues_name (chars c.args.after.now)) in (n, c.after_name-rest.ensures ∙ sym (ap (drop n) c.requires.1))

pub returns-clause-front : goal.returns-clause-front
returns-clause-front c = let n = suc (run continues_name (chars c.args.after.now)) in c.before-2.ensures n (c.after_name-rest.ensures ∙ sym (ap (drop n) c.requires.1))
