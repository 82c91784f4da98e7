use Rattle.std.proofs.Common.{◌∙◌}
use Rattle.std.proofs.lemmas.Map.Text.{hash_map_updates_str}
use Rattle.ob_early.proofs.ChainLaws.{indexed_more}
use Rattle.ob_early.proofs.chain.Chain.enter.Goals as goal

pub invariant_of-self-in-Ok : goal.invariant_of-self-in-Ok
invariant_of-self-in-Ok c =
    rw c.in_ok-push.ensures.items
    (indexed_more _ _ _ c.self.inside.innermost _ c.self.invariant (c.len-place.ensures ∙ c.self.inside.open.ok.0) (cc (c.copied-hidden.ensures, c.get.ensures.value))
    (hash_map_updates_str c.args.name.now c.self.inside.innermost c.insert.new.self _ c.in-Ok.ensures.updates))
