use Rattle.std.proofs.Common.{ℕ, List, ◌==◌, sym, ap, ◌∙◌, subst, refl}
use Rattle.std.specs.Bool.{Decides}
use Rattle.std.specs.List.Sorted.{IsStrictlyIncreasing}
use Rattle.std.proofs.lemmas.List.Sorted.{list_any-IsPermutation}
use Rattle.ob_graph.specs.Paths.{is_in, Reached, inputs_of}
use Rattle.ob_graph.proofs.graph.Graph.reach.Goals as goal

pub returns : goal.returns
returns c = (
  (refl, λ _. tt, c.self.view_is),
  record {
    graph = tt;
    rising = subst IsStrictlyIncreasing (sym c.found.ensures.found) c.sort.ensures.rising;
    reached = λ v.
        subst (λ b. Decides b (Reached (inputs_of c.args.self.now) c.args.observers.now v))
        (list_any-IsPermutation (λ y. v == y) _ _ c.sort.ensures.found ∙ ap (is_in v) (sym c.found.ensures.found))
        (subst (λ (g : List (List ℕ)). Decides (is_in v c.search_from.new.search.found) (Reached (inputs_of g) c.args.observers.now v)) (c.deref.ensures.value ∙ c.self.view_is) (c.search_from.ensures.found v));
  },
)
