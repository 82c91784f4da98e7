use Rattle.ob_io.proofs.Feeds.{line_len-found, line_len-none}
use Rattle.ob_io.proofs.pending.line_len.Goals as goal

pub returns-in-Some : goal.returns-in-Some
returns-in-Some c = line_len-found c.args.bytes.now c.in-Some.place c.in-Some.ensures.0 c.in-Some.ensures.1

pub returns-in-None : goal.returns-in-None
returns-in-None c = line_len-none c.args.bytes.now c.in-None.ensures
