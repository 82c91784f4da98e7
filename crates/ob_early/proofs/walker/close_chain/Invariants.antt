use Rattle.std.proofs.Common.{◌≡◌, ◌-◌, length, drop}
use Rattle.ob_early.proofs.walker.close_chain.Given as goal

abbrev pub invariant-loop-chain : goal.invariant-loop-chain
invariant-loop-chain l = drop (length l.chain - l.count) l.chain ≡ drop (length l.fn.chain - l.count) l.fn.chain

abbrev pub decreases-loop-chain : goal.decreases-loop-chain
decreases-loop-chain l = length l.chain
