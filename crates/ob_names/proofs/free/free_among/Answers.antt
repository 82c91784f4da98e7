use Rattle.std.proofs.Common.{◌≡◌, map, fold, ap, sym, ◌∙◌}
use Rattle.std.proofs.Math.ListN.{drop_of_length-le}
use Rattle.ob_names.specs.Kept.{mention_of}
use Rattle.ob_names.specs.Sets.{with_free}
use Rattle.ob_names.proofs.SetLaws.{free_once}
use Rattle.ob_names.proofs.free.free_among.Goals as goal

pub returns : goal.returns
returns c =
    ap (λ ms. fold with_free c.loop-mention.names (map mention_of ms)) (sym (drop_of_length-le _ c.loop-mention-test.false))
    ∙ c.loop-mention.invariant ∙ free_once (map mention_of c.args.mentions.now)
