use Rattle.std.proofs.Common.{◌<◌, ◌+◌, length, get_or, sym, ap, ◌∙◌, subst, arith}
use Rattle.ob_graph.specs.Paths.{inputs_of}
use Rattle.ob_graph.specs.Searches.{Spread, met_all}
use Rattle.ob_graph.proofs.SearchLaws.{all_from, goes_on, ends}
use Rattle.ob_graph.proofs.search.spread.Goals as goal

pub meet_all-requires : goal.meet_all-requires
meet_all-requires c = rw (c.inputs_at.ensures, c.loop-next.invariant.room) (all_from (λ u. u < c.args.search.now.room) _ (λ v h. c.requires _ v h))

pub loop-next-preserved : goal.loop-next-preserved
loop-next-preserved c =
    let lt : c.loop-next.next < length c.loop-next.search.found = subst (λ xs. c.loop-next.next < length xs) c.found.ensures.found c.loop-next-test.true in
    record {
      spread = subst (λ xs. Spread (inputs_of c.args.lists.now) c.args.search.now.found xs (c.loop-next.next + 1))
          (sym (c.meet_all.ensures.found ∙ ap (met_all c.loop-next.search.found) (c.inputs_at.ensures ∙ ap (λ xs. inputs_of c.args.lists.now (get_or xs c.loop-next.next 0)) c.found-in-loop-next.ensures.found)))
          (goes_on (inputs_of c.args.lists.now) c.args.search.now.found c.loop-next.search.found c.loop-next.next c.loop-next.invariant.spread lt);
      room = c.meet_all.ensures.room ∙ c.loop-next.invariant.room;
    }

pub returns-clause-found : goal.returns-clause-found
returns-clause-found c = λ v. ends _ _ _ _ c.loop-next.invariant.spread (rw (← c.found.ensures.found) (omega arith)) v
