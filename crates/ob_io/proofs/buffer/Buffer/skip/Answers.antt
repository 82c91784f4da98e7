use Rattle.ob_io.proofs.Known.{skipped}
use Rattle.ob_io.proofs.buffer.Buffer.skip.Goals as goal

pub returns : goal.returns
returns c = rw (← c.self.view_is)
    (skipped c.self.inside.bytes.items c.self.inside.start c.self.inside.end c.args.count (rw c.self.view_is c.requires))
