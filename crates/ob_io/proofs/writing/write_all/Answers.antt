use Rattle.std.proofs.Common.{arith}
use Rattle.std.proofs.lemmas.List.{take_rest}
use Rattle.ob_io.proofs.Known.{Appends-take}
use Rattle.ob_io.proofs.writing.write_all.Goals as goal

pub loop-at-preserved : goal.loop-at-preserved
loop-at-preserved g c = (
  omega (arith, c.in-Took.ensures.count),
  Appends-take _ _ _ c.args.bytes.now c.loop-at.at c.in-Took.count c.loop-at.invariant.1 (rw (take_rest c.args.bytes.now c.loop-at.at) at c.in-Took.ensures.bytes),
  omega (arith, c.loop-at.invariant.2, c.write.ensures.later),
)
