use Rattle.std.proofs.Common.{◌≡◌, drop, map}
use Rattle.ob_grammar.specs.Early.{declared_in, part_of}
use Rattle.ob_early.specs.Found.{declares}
use Rattle.ob_early.proofs.walks.bind_items.Given as goal

abbrev pub invariant-loop-place : goal.invariant-loop-place
invariant-loop-place l = l.walker ≡ declares l.count (declared_in (map part_of (drop l.place l.items))) l.fn.walker
