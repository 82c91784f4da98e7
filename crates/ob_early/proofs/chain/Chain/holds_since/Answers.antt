use Rattle.std.proofs.Common.{◌-◌, length, take, sym, ◌∙◌, ap}
use Rattle.ob_grammar.specs.Early.{holds_name}
use Rattle.ob_early.proofs.ChainLaws.{from_place, tells_since}
use Rattle.ob_early.proofs.chain.Chain.holds_since.Goals as goal

pub returns-in-None : goal.returns-in-None
returns-in-None c =
    ap (from_place c.args.count) c.in-None.ensures.value ∙ sym (tells_since _ _ _ c.args.count c.self.invariant)
    ∙ ap (λ names. holds_name c.args.name.now (take (length names - c.args.count) names)) c.self.view_is

pub returns-in-Some : goal.returns-in-Some
returns-in-Some c =
    ap (from_place c.args.count) c.in-Some.ensures.value ∙ sym (tells_since _ _ _ c.args.count c.self.invariant)
    ∙ ap (λ names. holds_name c.args.name.now (take (length names - c.args.count) names)) c.self.view_is
