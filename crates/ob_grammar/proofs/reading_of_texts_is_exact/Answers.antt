use Rattle.ob_grammar.proofs.Texts.{text_is_exact}
use Rattle.ob_grammar.proofs.reading_of_texts_is_exact.Goals as goal

pub returns : goal.returns
returns c = λ text tree. text_is_exact text tree
