use Rattle.std.proofs.Common.{◌≡◌, ◌-◌, length}
use Rattle.ob_grammar.specs.Reading.{items_from}
use Rattle.ob_descent_rules.specs.Inside.{depth_limit, inner, nested}
use Rattle.ob_descent_rules.proofs.ItemTurns.{items_left}
use Rattle.ob_descent_rules.proofs.rules.Rules.items.Given as goal

abbrev pub invariant-loop-turn : goal.invariant-loop-turn
invariant-loop-turn g l = items_from depth_limit (inner l.self.depth) (nested l.self.depth) (length l.fn.tokens) l.fn.tokens ≡ items_left l.self.depth l.found l.tokens (l._turn-end - l._turn)
