use Rattle.ob_grammar.proofs.Unique.{at_most_one_cell}
use Rattle.ob_grammar.proofs.one_cell.Goals as goal

pub returns : goal.returns
returns c = λ tokens tree other reads others. at_most_one_cell tokens tree other reads others
