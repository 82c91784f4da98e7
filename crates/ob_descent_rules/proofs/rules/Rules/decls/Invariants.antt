use Rattle.std.proofs.Common.{◌≡◌, ◌-◌, length}
use Rattle.ob_grammar.specs.Reading.{decls_from}
use Rattle.ob_descent_rules.specs.Inside.{depth_limit, inner, nested}
use Rattle.ob_descent_rules.proofs.DeclTurns.{decls_left}
use Rattle.ob_descent_rules.proofs.rules.Rules.decls.Given as goal

abbrev pub invariant-loop-turn : goal.invariant-loop-turn
invariant-loop-turn g l = decls_from depth_limit (inner l.self.depth) (nested l.self.depth) (length l.fn.tokens) l.fn.tokens ≡ decls_left l.self.depth l.found l.tokens (l._turn-end - l._turn)
