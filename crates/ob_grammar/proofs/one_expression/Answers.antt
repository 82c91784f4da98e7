use Rattle.ob_grammar.proofs.Unique.{at_most_one_expression}
use Rattle.ob_grammar.proofs.one_expression.Goals as goal

pub returns : goal.returns
returns c = λ tokens a b f g reads others. at_most_one_expression tokens a b f g reads others
