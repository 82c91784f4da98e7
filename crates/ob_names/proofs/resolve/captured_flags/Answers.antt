use Rattle.std.proofs.Common.{◌≡◌, map, fold, ap, sym, ◌∙◌}
use Rattle.std.proofs.Math.ListN.{drop_of_length-le}
use Rattle.ob_names.specs.Kept.{mention_of}
use Rattle.ob_names.specs.Flags.{flag_with}
use Rattle.ob_names.proofs.SlotLaws.{are_flags}
use Rattle.ob_names.proofs.resolve.captured_flags.Goals as goal

pub returns-clause-flags : goal.returns-clause-flags
returns-clause-flags c =
    are_flags (map mention_of c.args.mentions.now) c.args.count c.in_ok-flags.flags.items c.loop-mention.flags.items (c.in_ok-flags.ensures.items_if_clones_equal (λ y h. h))
    (ap (λ ms. fold flag_with c.loop-mention.flags.items (map mention_of ms)) (sym (drop_of_length-le c.args.mentions.now c.loop-mention-test.false)) ∙ c.loop-mention.invariant.0)
