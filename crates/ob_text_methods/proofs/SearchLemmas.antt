-- The search for a piece: what is known at each turn, and that it moves on over no place of the piece.
use Rattle.std.proofs.Common.{◌≡◌, ℕ, zero, suc, ◌+◌, ◌-◌, ◌<◌, ◌≤◌, max, List, [], ◌∷◌, ◌++◌, length, get_or, Some, None, ap, sym, ◌∙◌, subst, arith, inl, inr, length-append}
use Rattle.std.proofs.lemmas.Bool.{cases_lt, cases_eq}
use Rattle.std.proofs.lemmas.List.{get_or_append_left, get_or_at}
use Rattle.ob_values.specs.TextMethods.{first_place}
use Rattle.ob_text_methods.specs.Search.{IsPeriod, IsShift, AreShifts}
use Rattle.ob_text_methods.proofs.PieceLemmas.{StandsAt, first_place_found, first_place_none}

below_last : (P : ℕ → Type 0) (n : ℕ) → ((i : ℕ) → i < n → P i) → P n → (i : ℕ) → i < n + 1 → P i
below_last P n before here i l = elim (cases_lt i n) [ inl m ↦ before i m | inr m ↦ let e : n ≡ i = omega arith in subst P e here ]

-- ---- in a text

-- so many units of the piece stand at the place, and the piece stands nowhere before
pub record IsMatching (units piece : List ℕ) (start matched : ℕ) : Type 0 where
  pub place : start ≤ length units
  pub count : matched ≤ length piece
  pub same : (i : ℕ) → i < matched → get_or units (start + i) 0 ≡ get_or piece i 0
  pub before : (k : ℕ) → k < start → StandsAt units piece k → ⊥

pub matching_none : (units piece : List ℕ) → IsMatching units piece 0 0
matching_none units piece = record {
  place = omega arith;
  count = omega arith;
  same = λ i l. absurd (omega arith);
  before = λ k l h. absurd (omega arith);
}

-- one unit more
pub matching_more : (units piece : List ℕ) (start matched : ℕ) → IsMatching units piece start matched → matched < length piece
    → get_or units (start + matched) 0 ≡ get_or piece matched 0 → IsMatching units piece start (matched + 1)
matching_more units piece start matched h l e = record {
  place = h.place;
  count = omega arith;
  same = below_last (λ i. get_or units (start + i) 0 ≡ get_or piece i 0) matched h.same e;
  before = h.before;
}

-- a place that the shift goes over would make a period of less
passed : (units piece : List ℕ) (start matched p k : ℕ) → IsMatching units piece start matched → matched < length piece
    → (get_or units (start + matched) 0 ≡ get_or piece matched 0 → ⊥) → IsShift piece matched p → k < start + p → StandsAt units piece k → ⊥
passed units piece start matched p k h l apart shift lk stands =
    elim (cases_lt k start) [
      | inl before ↦ h.before k before stands
      | inr after ↦ elim (cases_eq k start) [
        | inl same ↦ apart (subst (λ k. get_or units (k + matched) 0 ≡ get_or piece matched 0) same (stands.same matched l))
        | inr other ↦ shift.least (k - start) (omega arith) (omega arith) (λ i li.
            let here : get_or units (start + (i + (k - start))) 0 ≡ get_or piece (i + (k - start)) 0 = h.same (i + (k - start)) li in
            let there : get_or units (k + i) 0 ≡ get_or piece i 0 = stands.same i (omega arith) in
            let place : start + (i + (k - start)) ≡ k + i = omega arith in
            sym here ∙ ap (λ n. get_or units n 0) place ∙ there)
      ]
    ]

-- the next unit is another
pub matching_moves : (units piece : List ℕ) (start matched p : ℕ) → IsMatching units piece start matched → matched < length piece → start + length piece ≤ length units
    → (get_or units (start + matched) 0 ≡ get_or piece matched 0 → ⊥) → IsShift piece matched p → IsMatching units piece (start + p) (matched - p)
matching_moves units piece start matched p h l fits apart shift = record {
  place = omega (arith, shift.within);
  count = omega (arith, h.count);
  same = λ i li.
      let here : get_or units (start + (i + p)) 0 ≡ get_or piece (i + p) 0 = h.same (i + p) (omega arith) in
      let again : get_or piece (i + p) 0 ≡ get_or piece i 0 = shift.period i (omega arith) in
      let place : start + p + i ≡ start + (i + p) = omega arith in
      ap (λ n. get_or units n 0) place ∙ here ∙ again;
  before = λ k lk stands. passed units piece start matched p k h l apart shift lk stands;
}

pub matching_found : (units piece : List ℕ) (start matched : ℕ) → IsMatching units piece start matched → matched ≡ length piece → start + length piece ≤ length units
    → Some start ≡ first_place units piece
matching_found units piece start matched h all fits =
    first_place_found units piece start (record { within = fits; same = λ i l. h.same i (omega arith) }) h.before

pub matching_ended : (units piece : List ℕ) (start matched : ℕ) → IsMatching units piece start matched → length units < start + length piece → None ≡ first_place units piece
matching_ended units piece start matched h past =
    first_place_none units piece (λ j stands. elim (cases_lt j start) [ inl l ↦ h.before j l stands | inr l ↦ absurd (omega (arith, stands.within)) ])

-- ---- in the piece itself

-- of each count below that of the units up to the next the shift is known, and so many units of the piece stand at the
-- place in the piece itself
pub record IsBuilding (piece shifts : List ℕ) (start matched : ℕ) : Type 0 where
  pub positive : 1 ≤ start
  pub within : start + matched ≤ max 1 (length piece)
  pub same : (i : ℕ) → i < matched → get_or piece (start + i) 0 ≡ get_or piece i 0
  pub least : (d : ℕ) → 1 ≤ d → d < start → IsPeriod piece (start + matched + 1) d → ⊥
  pub count : length shifts ≡ start + matched + 1
  pub known : AreShifts piece shifts

fewer : (piece : List ℕ) (n m d : ℕ) → n ≤ m → IsPeriod piece m d → IsPeriod piece n d
fewer piece n m d l h = λ i li. h i (omega arith)

-- the whole count is a shift of what is no longer than one unit
first_shift : (piece : List ℕ) (count : ℕ) → count ≤ 1 → IsShift piece count 1
first_shift piece count l = record {
  positive = omega arith;
  within = omega arith;
  period = λ i li. absurd (omega arith);
  least = λ d one below h. absurd (omega arith);
}

pub shifts_push : (piece shifts : List ℕ) (n p : ℕ) → AreShifts piece shifts → length shifts ≡ n → IsShift piece n p → AreShifts piece (shifts ++ p ∷ [])
shifts_push piece shifts n p known len shift = λ count l. elim (cases_lt count (length shifts)) [
  | inl m ↦ subst (IsShift piece count) (sym (get_or_append_left shifts (p ∷ []) 0 count m)) (known count m)
  | inr m ↦
      let e : count ≡ n = omega (arith, length-append shifts (p ∷ [])) in
      let at : get_or (shifts ++ p ∷ []) count 0 ≡ p = get_or_at shifts p [] 0 count (len ∙ sym e) in
      subst (IsShift piece count) (sym at) (subst (λ k. IsShift piece k p) (sym e) shift)
]

first_shifts : (piece : List ℕ) → AreShifts piece (1 ∷ 1 ∷ [])
first_shifts piece zero l = first_shift piece 0 (omega arith)
first_shifts piece (suc zero) l = first_shift piece 1 (omega arith)
first_shifts piece (suc (suc k)) l = absurd (omega arith)

pub building_none : (piece shifts : List ℕ) → shifts ≡ 1 ∷ 1 ∷ [] → IsBuilding piece shifts 1 0
building_none piece shifts e = record {
  positive = omega arith;
  within = omega arith;
  same = λ i l. absurd (omega arith);
  least = λ d one below h. absurd (omega arith);
  count = ap length e;
  known = subst (AreShifts piece) (sym e) (first_shifts piece);
}

-- one unit more
pub building_more : (piece shifts : List ℕ) (start matched : ℕ) → IsBuilding piece shifts start matched → start + matched < length piece
    → get_or piece (start + matched) 0 ≡ get_or piece matched 0 → IsBuilding piece (shifts ++ start ∷ []) start (matched + 1)
building_more piece shifts start matched h l e =
    let same : (i : ℕ) → i < matched + 1 → get_or piece (start + i) 0 ≡ get_or piece i 0 =
    below_last (λ i. get_or piece (start + i) 0 ≡ get_or piece i 0) matched h.same e in
    let shift : IsShift piece (start + matched + 1) start = record {
      positive = h.positive;
      within = omega arith;
      period = λ i li. let place : i + start ≡ start + i = omega arith in ap (λ n. get_or piece n 0) place ∙ same i (omega arith);
      least = h.least;
    } in record {
      positive = h.positive;
      within = omega arith;
      same = same;
      least = λ d one below p. h.least d one below (fewer piece (start + matched + 1) (start + (matched + 1) + 1) d (omega arith) p);
      count = omega (arith, length-append shifts (start ∷ []), h.count);
      known = shifts_push piece shifts (start + matched + 1) start h.known h.count shift;
    }

-- the first unit is another
pub building_next : (piece shifts : List ℕ) (start matched : ℕ) → IsBuilding piece shifts start matched → matched ≡ 0 → start + matched < length piece
    → (get_or piece (start + matched) 0 ≡ get_or piece matched 0 → ⊥) → IsBuilding piece (shifts ++ (start + 1) ∷ []) (start + 1) matched
building_next piece shifts start matched h none l apart =
    let least : (d : ℕ) → 1 ≤ d → d < start + 1 → IsPeriod piece (start + matched + 1) d → ⊥ =
    λ d one below p. elim (cases_lt d start) [
      | inl m ↦ h.least d one m p
      | inr m ↦
          let place : start + matched ≡ matched + d = omega arith in
          apart (ap (λ n. get_or piece n 0) place ∙ p matched (omega arith))
    ] in
    let shift : IsShift piece (start + matched + 1) (start + 1) = record {
      positive = omega arith;
      within = omega arith;
      period = λ i li. absurd (omega arith);
      least = least;
    } in record {
      positive = omega arith;
      within = omega arith;
      same = λ i li. absurd (omega arith);
      least = λ d one below p. least d one below (fewer piece (start + matched + 1) (start + 1 + matched + 1) d (omega arith) p);
      count = omega (arith, length-append shifts ((start + 1) ∷ []), h.count);
      known = shifts_push piece shifts (start + matched + 1) (start + 1) h.known h.count shift;
    }

-- a later unit is another
pub building_moves : (piece shifts : List ℕ) (start matched p : ℕ) → IsBuilding piece shifts start matched → 1 ≤ matched
    → (get_or piece (start + matched) 0 ≡ get_or piece matched 0 → ⊥) → IsShift piece matched p → IsBuilding piece shifts (start + p) (matched - p)
building_moves piece shifts start matched p h some apart shift =
    let end : start + p + (matched - p) ≡ start + matched = omega (arith, shift.within) in record {
      positive = omega (arith, h.positive);
      within = omega (arith, h.within);
      same = λ i li.
          let here : get_or piece (start + (i + p)) 0 ≡ get_or piece (i + p) 0 = h.same (i + p) (omega arith) in
          let again : get_or piece (i + p) 0 ≡ get_or piece i 0 = shift.period i (omega arith) in
          let place : start + p + i ≡ start + (i + p) = omega arith in
          ap (λ n. get_or piece n 0) place ∙ here ∙ again;
      least = λ d one below period. smaller d one below (subst (λ n. IsPeriod piece (n + 1) d) end period);
      count = h.count ∙ ap (λ n. n + 1) (sym end);
      known = h.known;
    }
  where
    smaller : (d : ℕ) → 1 ≤ d → d < start + p → IsPeriod piece (start + matched + 1) d → ⊥
    smaller d one below period = elim (cases_lt d start) [
      | inl m ↦ h.least d one m period
      | inr m ↦ elim (cases_eq d start) [
        | inl e ↦
            let place : start + matched ≡ matched + d = omega arith in
            apart (ap (λ n. get_or piece n 0) place ∙ period matched (omega arith))
        | inr other ↦ shift.least (d - start) (omega arith) (omega arith) (λ i li.
            let here : get_or piece (start + (i + (d - start))) 0 ≡ get_or piece (i + (d - start)) 0 = h.same (i + (d - start)) li in
            let there : get_or piece (i + d) 0 ≡ get_or piece i 0 = period i (omega arith) in
            let place : start + (i + (d - start)) ≡ i + d = omega arith in
            sym here ∙ ap (λ n. get_or piece n 0) place ∙ there)
      ]
    ]
