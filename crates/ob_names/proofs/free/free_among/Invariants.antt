use Rattle.std.proofs.Common.{◌≡◌, [], drop, fold, map}
use Rattle.ob_names.specs.Kept.{mention_of}
use Rattle.ob_names.specs.Sets.{with_free}
use Rattle.ob_names.proofs.free.free_among.Given as goal

abbrev pub invariant-loop-mention : goal.invariant-loop-mention
invariant-loop-mention l = fold with_free l.names (map mention_of (drop l.mention-index l.mentions)) ≡ fold with_free [] (map mention_of l.mentions)
