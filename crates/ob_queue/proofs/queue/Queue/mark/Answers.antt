use Rattle.std.proofs.Common.{◌<◌, Bool, false, List, length, ◌∙◌, sym, subst, refl, arith}
use Rattle.std.proofs.lemmas.List.{length-set}
use Rattle.ob_graph.proofs.SearchLaws.{meet_fits, meet_marks}
use Rattle.ob_queue.proofs.queue.Queue.mark.Goals as goal

pub push_reserved-requires : goal.push_reserved-requires
push_reserved-requires c =
    let lt = subst (λ (q : List Bool). c.args.node < length q) (sym c.self.view_is) c.requires in
    let fits = meet_fits c.self.inside.walk.marks c.self.inside.marked.items _ c.args.node false c.self.invariant.listed lt (sym c.if-not-waits.true ∙ c.waits.ensures) refl in omega (arith, fits)

pub invariant_of-self : goal.invariant_of-self
invariant_of-self c =
    let lt = subst (λ (q : List Bool). c.args.node < length q) (sym c.self.view_is) c.requires in
    record {
      listed = rw (c.mark.ensures.marks, c.push_reserved.ensures.items, c.push_reserved.ensures.capacity)
          (meet_marks c.self.inside.walk.marks c.self.inside.marked.items _ c.args.node false c.self.invariant.listed lt (sym c.if-not-waits.true ∙ c.waits.ensures) refl);
      path_empty = c.mark.ensures.path ∙ c.self.invariant.path_empty;
      places_empty = c.mark.ensures.places ∙ c.self.invariant.places_empty;
      few = rw (c.mark.ensures.marks, length-set) c.self.invariant.few;
    }
