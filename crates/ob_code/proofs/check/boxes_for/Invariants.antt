use Rattle.std.proofs.Common.{◌≡◌, max, drop}
use Rattle.ob_code.specs.Code.{boxes_for}
use Rattle.ob_code.proofs.check.boxes_for.Given as goal

abbrev pub invariant-loop-place : goal.invariant-loop-place
invariant-loop-place l = max l.most (boxes_for (drop l.place-index l.captures)) ≡ boxes_for l.captures
