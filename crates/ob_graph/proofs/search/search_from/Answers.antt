use Rattle.std.proofs.Common.{ℕ, List, ap, ◌∙◌, subst}
use Rattle.std.specs.Bool.{Decides}
use Rattle.ob_graph.specs.Paths.{is_in, Reached, inputs_of}
use Rattle.ob_graph.specs.Searches.{met_all}
use Rattle.ob_graph.proofs.SearchLaws.{from_met}
use Rattle.ob_graph.proofs.search.search_from.Goals as goal

pub returns-clause-found : goal.returns-clause-found
returns-clause-found c = λ v.
    let e = c.meet_all.ensures.found ∙ ap (λ xs. met_all xs c.args.starts.now) c.clear.ensures.found in
    from_met (inputs_of c.args.lists.now) c.args.starts.now v (is_in v c.spread.new.search.found)
    (subst (λ (xs : List ℕ). Decides (is_in v c.spread.new.search.found) (Reached (inputs_of c.args.lists.now) xs v)) e (c.spread.ensures.found v))
