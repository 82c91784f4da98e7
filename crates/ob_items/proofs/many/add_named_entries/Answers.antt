use Rattle.std.proofs.Common.{◌++◌, ◌∷◌, [], ◌∙◌, ap, sym, append_assoc, arith, map, take}
use Rattle.ob_items.specs.Properties.{named_entry}
use Rattle.ob_items.proofs.ListLemmas.{map_take_more, length-le-none}
use Rattle.ob_items.proofs.many.add_named_entries.Goals as goal
use Rattle.ob_items.proofs.many.add_named_entries.Goals.{in-Some+in_ok-from_slice+in_ok-push, in_default}

pub loop-place-preserved : goal.loop-place-preserved
loop-place-preserved c =
    elim c.match-at.branch [
      | in-Some+in_ok-from_slice+in_ok-push w ↦
          let key = w.from_vec-key.ensures ∙ w.in_ok-from_slice.ensures.items in
          let more = map_take_more named_entry c.args.named.now c.loop-place.place (w.in-Some.key.now, w.in-Some.value) (sym w.in-Some.ensures) in
          w.entries-is ∙ w.in_ok-push.ensures.ok
          ∙ (λ i. c.loop-place.invariant i ++ record { key = key i; value = w.in-Some.value } ∷ [])
          ∙ append_assoc c.args.entries.now (map named_entry (take c.loop-place.place c.args.named.now)) (named_entry (w.in-Some.key.now, w.in-Some.value) ∷ [])
          ∙ ap (λ xs. c.args.entries.now ++ xs) (sym more)
      | in_default w ↦
          let past = length-le-none c.args.named.now c.loop-place.place (sym w.in_default.ensures) in
          let here = c.loop-place-test.true in
          absurd (omega (arith, past, here, c.min-place-end.ensures, c.len.ensures))
    ]
