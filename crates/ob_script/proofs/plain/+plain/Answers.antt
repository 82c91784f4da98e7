use Rattle.ob_script.proofs.Readable.{object_at_end}
use Rattle.ob_script.proofs.plain.+plain.Goals as goal

pub props_of-returns-clause-readable : goal.props_of-returns-clause-readable
props_of-returns-clause-readable t c =
    object_at_end c.loop-key.props c.loop-key.key-iterator c.args.members.now.entries c.in-None.ensures.steps.0 c.loop-key.invariant.named c.loop-key.invariant.good
    c.iter-key-items.ensures.ordered
