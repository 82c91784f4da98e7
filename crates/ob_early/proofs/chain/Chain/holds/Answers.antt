use Rattle.std.proofs.Common.{sym, ◌∙◌, ap}
use Rattle.ob_grammar.specs.Early.{holds_name}
use Rattle.ob_early.proofs.ChainLaws.{is_there, tells}
use Rattle.ob_early.proofs.chain.Chain.holds.Goals as goal

pub returns-in-None : goal.returns-in-None
returns-in-None c = ap is_there c.in-None.ensures.value ∙ sym (tells _ _ _ c.self.invariant) ∙ ap (holds_name c.args.name.now) c.self.view_is

pub returns-in-Some : goal.returns-in-Some
returns-in-Some c = ap is_there c.in-Some.ensures.value ∙ sym (tells _ _ _ c.self.invariant) ∙ ap (holds_name c.args.name.now) c.self.view_is
