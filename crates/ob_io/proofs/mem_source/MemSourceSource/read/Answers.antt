use Rattle.std.proofs.Common.{arith}
use Rattle.std.proofs.lemmas.Grind.{common_steps}
use Rattle.ob_io.proofs.Known.{piece}
use Rattle.ob_io.proofs.mem_source.MemSourceSource.read.Goals as goal

pub returns-clause-bytes : goal.returns-clause-bytes
returns-clause-bytes c = rw (← c.self.view_is)
    (piece c.self.inside.bytes c.copy_from_slice.new.self c.args.buf.now c.self.inside.at c.piece_len-count.result (grind (arith, common_steps)) (grind (arith, common_steps)))
