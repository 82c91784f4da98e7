use Rattle.std.proofs.Common.{subst, Some, None}
use Rattle.std.proofs.lemmas.Map.Text.{hash_map_updates_str}
use Rattle.ob_early.specs.Chain.{IsIndexed}
use Rattle.ob_early.proofs.ChainLaws.{indexed_less, hides_none}
use Rattle.ob_early.proofs.chain.Chain.leave.Goals as goal

pub invariant_of-self : goal.invariant_of-self
invariant_of-self c =
    let before : IsIndexed _ c.self.inside.innermost = subst (λ l. IsIndexed l c.self.inside.innermost) c.in-Some.ensures.items c.self.invariant in
    indexed_less c.pop.new.self.items c.in-Some.last c.self.inside.innermost c.remove.new.self before
    (rw c.in-None.is (hash_map_updates_str c.in-Some.last.name.now c.self.inside.innermost c.remove.new.self None c.remove.ensures.updates))

pub invariant_of-self-in-Ok : goal.invariant_of-self-in-Ok
invariant_of-self-in-Ok c =
    let before : IsIndexed _ c.self.inside.innermost = subst (λ l. IsIndexed l c.self.inside.innermost) c.in-Some.ensures.items c.self.invariant in
    indexed_less c.pop.new.self.items c.in-Some.last c.self.inside.innermost c.insert.new.self before
    (rw c.in-Some-hidden.is (hash_map_updates_str c.in-Some.last.name.now c.self.inside.innermost c.insert.new.self (Some c.in-Some-hidden.place) c.in-Ok.ensures.updates))

pub unreachable-requires : goal.unreachable-requires
unreachable-requires c =
    let before : IsIndexed _ c.self.inside.innermost = subst (λ l. IsIndexed l c.self.inside.innermost) c.in-Some.ensures.items c.self.invariant in
    hides_none c.pop.new.self.items c.in-Some.last c.self.inside.innermost before c.in-Err.ensures.absent
