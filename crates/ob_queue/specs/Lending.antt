-- What a queue is once the plan that was read out of it is no longer used.
use Rattle.std.specs.Prelude.{◌≡◌, Bool, false, List, length, replicate}
use Rattle.std.specs.Borrow.{MutBor, Fml}
use Rattle.std.specs.Io.BufRead.{Rests}
use Rattle.ob_queue.specs.contracts.queue.Queue.{the_row}

-- nothing is marked
abbrev pub EmptiesQueue : MutBor (List Bool) → Fml
EmptiesQueue q = Rests the_row q (λ after. after ≡ replicate (length q.now) false)
