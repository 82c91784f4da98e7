use Rattle.std.proofs.Common.{◌≡◌, ℕ, ◌+◌, ◌<◌, ◌∙◌, List, length, ◌∷◌, ◌++◌, [], sym, subst, arith, get_or}
use Rattle.std.proofs.lemmas.List.{get_or_default}
use Rattle.ob_text_methods.specs.Search.{IsShift}
use Rattle.ob_text_methods.proofs.SearchLemmas.{IsBuilding, building_more, building_next, building_moves}
use Rattle.ob_text_methods.proofs.search.shifts.Goals as goal

pub loop-start-preserved-in-Continue-branch-4 : goal.loop-start-preserved-in-Continue-branch-4
loop-start-preserved-in-Continue-branch-4 c =
    let piece = c.args.piece.now in
    let start = c.loop-start.start in
    let matched = c.loop-start.matched in
    let more : IsBuilding piece (c.loop-start.shifts.items ++ start ∷ []) start (matched + 1) =
    building_more piece c.loop-start.shifts.items start matched c.loop-start.invariant c.loop-start-test.true c.if-piece-start.true in
    subst (λ s. IsBuilding piece s start (matched + 1)) (sym c.in_ok-push-3.ensures.items) more

pub loop-start-preserved-in-Continue-branch-5 : goal.loop-start-preserved-in-Continue-branch-5
loop-start-preserved-in-Continue-branch-5 c =
    let piece = c.args.piece.now in
    let start = c.loop-start.start in
    let matched = c.loop-start.matched in
    let more : IsBuilding piece (c.loop-start.shifts.items ++ (start + 1) ∷ []) (start + 1) matched =
    building_next piece c.loop-start.shifts.items start matched c.loop-start.invariant c.if-matched-eq0.true c.loop-start-test.true c.if-piece-start.false in
    subst (λ s. IsBuilding piece s (start + 1) matched) (sym c.in_ok-push-4.ensures.items) more

-- what was read is the shift of so many units
read_shift : (piece shifts : List ℕ) (start matched p : ℕ) → IsBuilding piece shifts start matched → p ≡ get_or shifts matched p → IsShift piece matched p
read_shift piece shifts start matched p h e =
    let within : matched < length shifts = omega (arith, h.count, h.positive) in
    subst (IsShift piece matched) (sym (e ∙ get_or_default shifts matched p 0 within)) (h.known matched within)

pub overflow_add-start-else-matched-eq0 : goal.overflow_add-start-else-matched-eq0
overflow_add-start-else-matched-eq0 c =
    let shift = read_shift c.args.piece.now _ _ _ _ c.loop-start.invariant c.index-shift.ensures in
    omega (arith, shift.within, c.loop-start.invariant.within)

pub overflow_sub-matched : goal.overflow_sub-matched
overflow_sub-matched c =
    let shift = read_shift c.args.piece.now _ _ _ _ c.loop-start.invariant c.index-shift.ensures in
    omega (arith, shift.within)

pub loop-start-preserved : goal.loop-start-preserved
loop-start-preserved c =
    let shift = read_shift c.args.piece.now _ _ _ _ c.loop-start.invariant c.index-shift.ensures in
    building_moves _ _ _ _ _ c.loop-start.invariant (omega arith) c.if-piece-start.false shift
