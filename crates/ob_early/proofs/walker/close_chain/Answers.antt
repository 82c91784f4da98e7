use Rattle.std.proofs.Common.{◌<◌, ◌∙◌, length, arith}
use Rattle.ob_early.proofs.Running.{drop_less}
use Rattle.ob_early.proofs.walker.close_chain.Goals as goal

pub loop-chain-preserved : goal.loop-chain-preserved
loop-chain-preserved c =
    let more : c.args.count < length c.loop-chain.chain = omega arith in
    rw c.leave.ensures (drop_less _ c.args.count more ∙ c.loop-chain.invariant)
