use Rattle.std.proofs.Common.{◌∙◌, ap}
use Rattle.std.specs.Prelude.{chars}
use Rattle.ob_lex.proofs.Cutting.{seam_le, seam_boundary, front_chars}
use Rattle.ob_lex.proofs.splits.before.Goals as goal

pub overflow_sub-text : goal.overflow_sub-text
overflow_sub-text c = seam_le c.args.text.now c.args.rest.now c.requires.0 c.utf8.text c.utf8.rest c.requires.1

pub split_at-requires : goal.split_at-requires
split_at-requires c = seam_boundary c.args.text.now c.args.rest.now c.requires.0 c.utf8.text c.utf8.rest c.requires.1

pub returns : goal.returns
returns c = λ n e. ap chars c.split_at.ensures.front ∙ front_chars c.args.text.now c.args.rest.now n c.utf8.text c.utf8.rest e
