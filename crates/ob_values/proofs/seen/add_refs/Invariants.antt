use Rattle.std.proofs.Common.{◌≡◌, drop}
use Rattle.ob_values.specs.Freeze.{with_refs}
use Rattle.ob_values.proofs.seen.add_refs.Given as goal

abbrev pub invariant-loop-r : goal.invariant-loop-r
invariant-loop-r l = with_refs l.seen (drop l.r-index l.refs) ≡ with_refs l.fn.seen l.refs
