use Rattle.std.proofs.Common.{length, drop}
use Rattle.ob_text_methods.proofs.PlaceLemmas.{IsPlacing}
use Rattle.ob_text_methods.proofs.splits.place_texts.Given as goal

abbrev pub invariant-loop-units : goal.invariant-loop-units
invariant-loop-units l =
    (goal.iterator-loop-units).can_next l.units-iterator × (goal.iterator-loop-units).is_finite l.units-iterator
    × IsPlacing l.region l.fn.regions l.regions l.values l.fn.texts (drop (length l.yielded) l.fn.texts)
