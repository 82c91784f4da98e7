use Rattle.std.proofs.Common.{◌≡◌, drop}
use Rattle.ob_early.specs.Found.{declares}
use Rattle.ob_early.proofs.walks.bind_params.Given as goal

abbrev pub invariant-loop-place : goal.invariant-loop-place
invariant-loop-place l = l.walker ≡ declares l.count (drop l.place l.params) l.fn.walker
