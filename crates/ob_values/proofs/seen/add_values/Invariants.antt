use Rattle.std.proofs.Common.{◌≡◌, drop}
use Rattle.ob_values.specs.Freeze.{with_refs, refs_of}
use Rattle.ob_values.proofs.seen.add_values.Given as goal

-- the references so far, with those of the rest, are all
abbrev pub invariant-loop-value : goal.invariant-loop-value
invariant-loop-value l = with_refs l.seen (refs_of (drop l.value-index l.values)) ≡ with_refs l.fn.seen (refs_of l.values)
