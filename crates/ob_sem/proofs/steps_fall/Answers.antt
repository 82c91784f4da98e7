use Rattle.std.proofs.Common.{◌≤◌, arith}
use Rattle.ob_actions.proofs.StepsFall.{AtMost, steps_law}
use Rattle.ob_sem.proofs.KeepsLaws.{keeps_by}
use Rattle.ob_sem.proofs.steps_fall.Goals as goal

pub returns : goal.returns
returns c = λ set. keeps_by set (λ s t. t.core.left ≤ s.core.left) (λ s. AtMost s.core.left set.world) (λ s. let e : s.core.left ≤ s.core.left = omega arith in e) (λ s t h. h) (λ s. steps_law s.core.left set.world)
