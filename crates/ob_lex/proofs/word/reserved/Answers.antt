use Rattle.std.proofs.Common.{◌∙◌, ap, sym}
use Rattle.std.specs.Prelude.{chars}
use Rattle.std.proofs.lemmas.Str.{encodes-chars}
use Rattle.ob_base.specs.Reserved.{reserved_word}
use Rattle.ob_lex.proofs.Words.{reserved_encoded}
use Rattle.ob_lex.proofs.word.reserved.Goals as goal

pub returns : goal.returns
returns c = c.named.ensures ∙ ap reserved_word (sym (encodes-chars c.args.name.now c.utf8.name)) ∙ reserved_encoded (chars c.args.name.now)
