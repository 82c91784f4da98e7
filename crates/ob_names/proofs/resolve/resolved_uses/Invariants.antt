use Rattle.std.proofs.Common.{◌≡◌, ◌++◌, drop, map}
use Rattle.ob_names.specs.Kept.{mention_of}
use Rattle.ob_names.specs.Flags.{use_in}
use Rattle.ob_names.proofs.resolve.resolved_uses.Given as goal

abbrev pub invariant-loop-mention : goal.invariant-loop-mention
invariant-loop-mention l = l.uses ++ map (use_in l.free) (map mention_of (drop l.mention-index l.mentions)) ≡ map (use_in l.free) (map mention_of l.mentions)
