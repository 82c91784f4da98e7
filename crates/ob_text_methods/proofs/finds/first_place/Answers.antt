use Rattle.std.proofs.Common.{arith}
use Rattle.ob_text_methods.proofs.PieceLemmas.{first_place_none}
use Rattle.ob_text_methods.proofs.finds.first_place.Goals as goal

pub returns-then-piece-units-clause-place : goal.returns-then-piece-units-clause-place
returns-then-piece-units-clause-place c = first_place_none c.args.units.now c.args.piece.now (λ j stands. omega (arith, stands.within))
