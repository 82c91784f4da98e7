use Rattle.ob_grammar.proofs.Moved.{items_move}
use Rattle.ob_grammar.proofs.items_move.Goals as goal

pub returns : goal.returns
returns c = λ front more others t s d. items_move front more others t s d
