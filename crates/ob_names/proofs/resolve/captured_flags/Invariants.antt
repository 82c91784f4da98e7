use Rattle.std.proofs.Common.{◌≡◌, drop, fold, map, length}
use Rattle.ob_names.specs.Kept.{mention_of}
use Rattle.ob_names.specs.Flags.{flag_with}
use Rattle.ob_names.proofs.resolve.captured_flags.Given as goal

abbrev pub invariant-loop-mention : goal.invariant-loop-mention
invariant-loop-mention l = (fold flag_with l.flags.items (map mention_of (drop l.mention-index l.mentions)) ≡ fold flag_with l.initial.flags.items (map mention_of l.mentions)) × (length l.flags.items ≡ l.count)
