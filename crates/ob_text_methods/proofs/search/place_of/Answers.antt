use Rattle.std.proofs.Common.{◌-◌, sym, subst, arith, get_or}
use Rattle.std.proofs.Common.{◌+◌}
use Rattle.ob_text_methods.proofs.SearchLemmas.{IsMatching, matching_moves, matching_found, matching_ended}
use Rattle.ob_text_methods.proofs.search.place_of.Goals as goal

pub returns-then-matched-piece-clause-place : goal.returns-then-matched-piece-clause-place
returns-then-matched-piece-clause-place c = matching_found _ _ _ _ c.loop-start.invariant c.if-matched-piece.true c.loop-start-test.true

pub loop-start-preserved : goal.loop-start-preserved
loop-start-preserved c =
    let units = c.args.units.now in
    let piece = c.args.piece.now in
    let start = c.loop-start.start in
    let matched = c.loop-start.matched in
    let p = get_or c.args.shifts.now matched 0 in
    let moved : IsMatching units piece (start + p) (matched - p) =
    matching_moves units piece start matched p c.loop-start.invariant (omega (arith, c.loop-start.invariant.count)) c.loop-start-test.true c.if-units-start.false (c.requires.shifts matched (omega (arith, c.loop-start.invariant.count))) in
    subst (IsMatching units piece (start + p)) (sym c.saturating_sub-matched.ensures) moved

pub returns-clause-place : goal.returns-clause-place
returns-clause-place c = matching_ended _ _ _ _ c.loop-start.invariant c.loop-start-test.false
