use Rattle.std.proofs.Common.{◌≡◌, sym, ◌∙◌, ap, subst, Some}
use Rattle.std.proofs.lemmas.Map.Text.{hash_map_updates_str}
use Rattle.ob_names.specs.Chain.{IsIndexed}
use Rattle.ob_names.proofs.ChainLaws.{indexed_more}
use Rattle.ob_names.proofs.chain.Chain.enter.Goals as goal

pub invariant_of-self-in-Ok : goal.invariant_of-self-in-Ok
invariant_of-self-in-Ok c =
    rw c.in_ok-push.ensures.items
    (indexed_more _ _ c.self.inside.innermost _ c.self.invariant (cc (c.copied-hidden.ensures, c.get.ensures.value))
    (hash_map_updates_str c.args.name.now c.self.inside.innermost c.insert.new.self _ c.in-Ok.ensures.updates))
