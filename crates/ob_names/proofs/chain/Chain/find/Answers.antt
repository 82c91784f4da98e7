use Rattle.std.proofs.Common.{◌≡◌, sym, ◌∙◌, ap}
use Rattle.ob_tree.specs.Scopes.{meant}
use Rattle.ob_names.proofs.ChainLaws.{found_none, found_here, found_around}
use Rattle.ob_names.proofs.chain.Chain.find.Goals as goal

pub returns-in-None : goal.returns-in-None
returns-in-None c = found_none _ _ _ _ c.self.invariant c.in-None.ensures.value ∙ ap (meant c.args.name.now c.args.depth) c.self.view_is

pub returns-then-spot-depth : goal.returns-then-spot-depth
returns-then-spot-depth c = found_here _ _ _ _ _ c.self.invariant c.in-Some.ensures.value c.if-spot-depth.true ∙ ap (meant c.args.name.now c.args.depth) c.self.view_is

pub returns-else-spot-depth : goal.returns-else-spot-depth
returns-else-spot-depth c = found_around _ _ _ _ _ c.self.invariant c.in-Some.ensures.value c.if-spot-depth.false ∙ ap (meant c.args.name.now c.args.depth) c.self.view_is
