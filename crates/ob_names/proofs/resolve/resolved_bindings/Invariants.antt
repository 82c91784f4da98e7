use Rattle.std.proofs.Common.{◌≡◌, ◌++◌, drop, map}
use Rattle.ob_names.specs.Kept.{bound_of, mention_of}
use Rattle.ob_names.specs.Resolved.{bindings_from}
use Rattle.ob_names.proofs.resolve.resolved_bindings.Given as goal

abbrev pub invariant-loop-number : goal.invariant-loop-number
invariant-loop-number l = l.bindings ++ bindings_from (map mention_of l.mentions) l.number (map bound_of (drop l.number l.bound)) ≡ bindings_from (map mention_of l.mentions) 0 (map bound_of l.bound)
