use Rattle.std.proofs.Common.{◌≡◌, ℕ, ◌-◌, ◌≤◌, ◌<◌, false, length, get_or}
use Rattle.ob_queue.specs.Plans.{is_marked}
use Rattle.ob_queue.proofs.walk.next_waiting.Given as goal

abbrev pub invariant-loop-next : goal.invariant-loop-next
invariant-loop-next l = (j : ℕ) → l.place ≤ j → j < l.next → is_marked l.walk.marks (get_or l.inputs j 0) ≡ false

abbrev pub decreases-loop-next : goal.decreases-loop-next
decreases-loop-next l = length l.inputs - l.next
