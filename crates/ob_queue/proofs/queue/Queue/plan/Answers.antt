use Rattle.std.proofs.Common.{Bool, List, false, nat_eq, length, replicate, ap, ◌∙◌, sym, subst, refl}
use Rattle.std.specs.List.{IsDistinct}
use Rattle.std.proofs.lemmas.List.{length-replicate}
use Rattle.ob_graph.specs.Paths.{is_in, inputs_of}
use Rattle.ob_queue.specs.Plans.{is_marked, marked_inputs, CyclesAside}
use Rattle.ob_queue.proofs.WalkLaws.{marked_none, inputs_first}
use Rattle.ob_queue.proofs.queue.Queue.plan.Goals as goal

pub invariant_of-self : goal.invariant_of-self
invariant_of-self c = record {
  listed = rw (c.walk_all.ensures.marks, c.clear.ensures.items, c.clear.ensures.capacity) (marked_none _ _ c.self.invariant.listed.fits);
  path_empty = c.walk_all.ensures.path;
  places_empty = c.walk_all.ensures.places;
  few = rw (c.walk_all.ensures.marks, length-replicate) c.self.invariant.few;
}

pub returns : goal.returns
returns c =
    let ins = inputs_of c.args.graph.now in
    let order = c.order.result.now in
    let aside : CyclesAside (marked_inputs c.args.self.now ins) order =
    subst (λ (q : List Bool). CyclesAside (marked_inputs q ins) order) c.self.view_is
    (subst (λ xs. CyclesAside (marked_inputs c.self.inside.walk.marks ins) xs) (sym c.order.ensures) c.walk_all.ensures.cycles_aside) in (
      (refl, λ _. tt, c.walk_all.ensures.marks ∙ ap (λ (q : List Bool). replicate (length q) false) c.self.view_is),
      record {
        nothing_marked = tt;
        once = subst (IsDistinct nat_eq) (sym c.order.ensures) c.walk_all.ensures.once;
        listed = λ v. ap (is_in v) c.order.ensures ∙ c.walk_all.ensures.listed v ∙ ap (λ (q : List Bool). is_marked q v) c.self.view_is;
        inputs_first = inputs_first (marked_inputs c.args.self.now ins) order aside;
        cycles_aside = aside;
      },
    )
