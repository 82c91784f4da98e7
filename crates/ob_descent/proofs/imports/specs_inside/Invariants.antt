use Rattle.std.proofs.Common.{◌≡◌, ◌-◌, length}
use Rattle.ob_grammar.specs.ReadingCells.{specs_from}
use Rattle.ob_descent.proofs.SpecTurns.{specs_left}
use Rattle.ob_descent.proofs.imports.specs_inside.Given as goal

abbrev pub invariant-loop-turn : goal.invariant-loop-turn
invariant-loop-turn l = specs_from (length l.fn.tokens) l.fn.tokens ≡ specs_left l.found l.tokens (l._turn-end - l._turn)
