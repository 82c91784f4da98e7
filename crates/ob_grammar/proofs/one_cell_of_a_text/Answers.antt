use Rattle.ob_grammar.proofs.Texts.{at_most_one_cell_of}
use Rattle.ob_grammar.proofs.one_cell_of_a_text.Goals as goal

pub returns : goal.returns
returns c = λ text tree other reads others. at_most_one_cell_of text tree other reads others
