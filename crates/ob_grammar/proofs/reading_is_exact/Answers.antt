use Rattle.ob_grammar.proofs.Texts.{tokens_are_exact}
use Rattle.ob_grammar.proofs.reading_is_exact.Goals as goal

pub returns : goal.returns
returns c = λ tokens tree. tokens_are_exact tokens tree
