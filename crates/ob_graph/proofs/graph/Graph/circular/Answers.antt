use Rattle.std.proofs.Common.{◌≡◌, ℕ, List, true, ◌<◌, sym, ap, ◌∙◌, subst}
use Rattle.std.specs.Bool.{Decides}
use Rattle.ob_graph.specs.Paths.{is_in, Path, Reached, inputs_of}
use Rattle.ob_graph.proofs.SearchLaws.{all_from, inputs_inside, around}
use Rattle.ob_graph.proofs.graph.Graph.circular.Goals as goal

pub search_from-requires-clause-starts : goal.search_from-requires-clause-starts
search_from-requires-clause-starts c = all_from (λ u. u < c.self.inside.search.room) c.inputs_at-inputs.result.now
    (λ u h. inputs_inside _ _ c.self.invariant c.args.node u (subst (λ xs. is_in u xs ≡ true) (c.inputs_at-inputs.ensures ∙ ap (λ g. inputs_of g c.args.node) c.deref.ensures.value) h))

pub returns-clause-circular : goal.returns-clause-circular
returns-clause-circular c =
    let v = c.args.node in
    let graph = c.args.self.now in
    let b = is_in v c.search_from.new.search.found in
    let starts = c.inputs_at-inputs.ensures ∙ ap (λ g. inputs_of g v) (c.deref.ensures.value ∙ c.self.view_is) in
    let reached : Decides b (Reached (inputs_of graph) c.inputs_at-inputs.result.now v) =
    subst (λ (g : List (List ℕ)). Decides b (Reached (inputs_of g) c.inputs_at-inputs.result.now v)) (c.deref-2.ensures.value ∙ c.self.view_is) (c.search_from.ensures.found v) in
    subst (λ x. Decides x (Path (inputs_of graph) v v)) (sym c.has.ensures)
    (around (inputs_of graph) v b (subst (λ (xs : List ℕ). Decides b (Reached (inputs_of graph) xs v)) starts reached))
