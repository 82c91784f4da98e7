use Rattle.std.specs.Prelude.{chars}
use Rattle.ob_lex.proofs.Closing.{unclosed_after}
use Rattle.ob_lex.proofs.comment.comment.Goals as goal

pub block-requires : goal.block-requires
block-requires c =
    λ e. unclosed_after (chars c.args.text.now) (chars c.in_ok-a.more.now) (chars c.in_ok-b.after.now) c.in_ok-a.a c.in_ok-b.b c.in_ok-a.ensures c.in_ok-b.ensures (c.requires e)
