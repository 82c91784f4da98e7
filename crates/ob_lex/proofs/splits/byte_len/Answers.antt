use Rattle.std.proofs.Common.{sym}
use Rattle.ob_lex.proofs.Cutting.{bytes_are}
use Rattle.ob_lex.proofs.splits.byte_len.Goals as goal

pub returns : goal.returns
returns c = sym (bytes_are c.args.text.now c.utf8.text)
