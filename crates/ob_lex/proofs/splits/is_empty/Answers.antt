use Rattle.std.proofs.Common.{◌∙◌}
use Rattle.ob_lex.proofs.Cutting.{same_empty}
use Rattle.ob_lex.proofs.splits.is_empty.Goals as goal

pub returns : goal.returns
returns c = c.is_empty.ensures ∙ same_empty c.args.text.now c.utf8.text
