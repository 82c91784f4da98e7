-- The first place of a piece, unit by unit.
use Rattle.std.proofs.Common.{◌≡◌, ℕ, zero, suc, ◌+◌, ◌<◌, ◌≤◌, Bool, true, false, cond, List, ◌++◌, length, drop, get_or, Some, None, refl, ap, sym, ◌∙◌, arith, length-append, length-drop}
use Rattle.std.specs.List.{find, range_with_len}
use Rattle.std.proofs.lemmas.Bool.Decides.{Decides-eqb}
use Rattle.std.proofs.lemmas.List.Prefix.{at_from_reads, at_reads}
use Rattle.std.proofs.lemmas.Slice.Eq.{starts_is}
use Rattle.ob_values.specs.TextMethods.{stands_at, first_place}

-- the piece stands at a place
pub record StandsAt (units piece : List ℕ) (k : ℕ) : Type 0 where
  pub within : k + length piece ≤ length units
  pub same : (i : ℕ) → i < length piece → get_or units (k + i) 0 ≡ get_or piece i 0

stands : (units piece : List ℕ) (k : ℕ) → k ≤ length units → stands_at units piece k ≡ true → StandsAt units piece k
stands units piece k le e =
    let is : drop k units ≡ piece ++ drop (length piece) (drop k units) = (starts_is Decides-eqb (drop k units) piece (stands_at units piece k) refl).0 e in
    record {
      within = omega (arith, ap length is, length-append piece (drop (length piece) (drop k units)), length-drop k units);
      same = at_reads 0 units piece k (drop (length piece) (drop k units)) is;
    }

pub stands_by : (units piece : List ℕ) (k : ℕ) → StandsAt units piece k → stands_at units piece k ≡ true
stands_by units piece k h =
    (starts_is Decides-eqb (drop k units) piece (stands_at units piece k) refl).1 (drop (k + length piece) units) (at_from_reads 0 units piece k h.within h.same)

pub stands_not : (units piece : List ℕ) (k : ℕ) → k ≤ length units → (StandsAt units piece k → ⊥) → stands_at units piece k ≡ false
stands_not units piece k le h = by (stands_at units piece k) refl
  where
    by : (b : Bool) → stands_at units piece k ≡ b → b ≡ false
    by true e = absurd (h (stands units piece k le e))
    by false e = refl

find_first : (test : ℕ → Bool) (a n k : ℕ) → k < n → test (a + k) ≡ true → ((j : ℕ) → j < k → test (a + j) ≡ false) → find test (range_with_len a n) ≡ Some (a + k)
find_first test a zero k l is_here before = absurd (omega arith)
find_first test a (suc n) zero l is_here before =
    let e : a + 0 ≡ a = omega arith in
    let t : test a ≡ true = ap test (sym e) ∙ is_here in
    ap (λ b. cond b (Some a) (find test (range_with_len (a + 1) n))) t ∙ ap (λ k. Some k) (sym e)
find_first test a (suc n) (suc k) l is_here before =
    let e : a + 0 ≡ a = omega arith in
    let next : a + suc k ≡ a + 1 + k = omega arith in
    let t : test a ≡ false = ap test (sym e) ∙ before 0 (omega arith) in
    let rest : find test (range_with_len (a + 1) n) ≡ Some (a + 1 + k) =
    find_first test (a + 1) n k (omega arith) (ap test (sym next) ∙ is_here) (λ j lj. let e : a + 1 + j ≡ a + suc j = omega arith in ap test e ∙ before (suc j) (omega arith)) in
    ap (λ b. cond b (Some a) (find test (range_with_len (a + 1) n))) t ∙ rest ∙ ap (λ k. Some k) (sym next)

find_none : (test : ℕ → Bool) (a n : ℕ) → ((j : ℕ) → j < n → test (a + j) ≡ false) → find test (range_with_len a n) ≡ None
find_none test a zero no_place = refl
find_none test a (suc n) no_place =
    let e : a + 0 ≡ a = omega arith in
    let t : test a ≡ false = ap test (sym e) ∙ no_place 0 (omega arith) in
    ap (λ b. cond b (Some a) (find test (range_with_len (a + 1) n))) t
    ∙ find_none test (a + 1) n (λ j lj. let e : a + 1 + j ≡ a + suc j = omega arith in ap test e ∙ no_place (suc j) (omega arith))

zero_add : (k : ℕ) → 0 + k ≡ k
zero_add k = omega arith

-- it stands at k and nowhere before
pub first_place_found : (units piece : List ℕ) (k : ℕ) → StandsAt units piece k → ((j : ℕ) → j < k → StandsAt units piece j → ⊥) → Some k ≡ first_place units piece
first_place_found units piece k h before =
    sym (ap (λ k. Some k) (zero_add k)) ∙ sym (find_first (stands_at units piece) 0 (length units + 1) k (omega (arith, h.within)) (ap (stands_at units piece) (zero_add k) ∙ stands_by units piece k h)
    (λ j l. ap (stands_at units piece) (zero_add j) ∙ stands_not units piece j (omega (arith, h.within)) (before j l)))

-- it stands nowhere
pub first_place_none : (units piece : List ℕ) → ((j : ℕ) → StandsAt units piece j → ⊥) → None ≡ first_place units piece
first_place_none units piece nowhere =
    sym (find_none (stands_at units piece) 0 (length units + 1) (λ j l. ap (stands_at units piece) (zero_add j) ∙ stands_not units piece j (omega arith) (nowhere j)))
