use Rattle.ob_grammar.proofs.Complete.{items_are_complete}
use Rattle.ob_grammar.proofs.Semicolons.{ends_where_nothing_goes_on}
use Rattle.ob_grammar.proofs.ends_where_nothing_goes_on.Goals as goal

pub returns : goal.returns
returns c = λ front more t s d begins. ends_where_nothing_goes_on items_are_complete front more t s d begins
