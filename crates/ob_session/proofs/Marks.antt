-- Marks from the last cell to the first.
use Rattle.std.proofs.Common.{◌≡◌, ◌<◌, ◌≤◌, ◌≢◌, ℕ, zero, suc, List, [], ◌∷◌, length, drop, map, get_or, set, Bool, true, false, cond, ◌&&◌, ◌||◌, eqb, None, Some, refl, sym, ap, ◌∙◌, arith, add-one, subst, length-set}
use Rattle.std.specs.Prelude.{slice_get}
use Rattle.std.specs.declared.option.Option.{Option}
use Rattle.std.proofs.lemmas.Bool.Decides.{nat_tests}
use Rattle.std.proofs.lemmas.List.{drop-set-lt, get_or-set_same, get_or-set_other}
use Rattle.std.proofs.Math.Seq.{drop-cons}
use Rattle.ob_session.specs.declared.world.Cell.{Cell}
use Rattle.ob_session.specs.Inputs.{IsBuiltUp}
use Rattle.ob_session.specs.Live.{reads, is_read, live_from, with_mark}

-- the flags from a place on are final, and before it each tells whether the cell is observed or read by a live one behind
pub record IsMarked (cells : List Cell) (observed flags : List Bool) (place : ℕ) : Type 0 where
  pub same : length flags ≡ length cells
  pub done : drop place flags ≡ live_from place (drop place cells) (drop place observed)
  pub marks : (k : ℕ) → k < place → get_or flags k false ≡ (get_or observed k false || is_read k (drop place cells) (drop place flags))

abbrev marked : List Bool → Bool → Option ℕ → List Bool
marked flags f None = flags
marked flags f (Some q) = cond f (set flags q true) flags

mark_by : (flags : List Bool) (q k : ℕ) → k < length flags → (b : Bool) → eqb q k ≡ b → get_or (set flags q true) k false ≡ (get_or flags k false || b)
mark_by flags q k lt true e =
    let same : q ≡ k = grind (arith, nat_tests) in
    rw same (get_or-set_same flags k true false lt ∙ sym (or_true (get_or flags k false)))
  where
    or_true : (b : Bool) → (b || true) ≡ true
    or_true true = refl
    or_true false = refl
mark_by flags q k lt false e =
    let other : k ≢ q = grind (arith, nat_tests) in
    get_or-set_other flags q k true false other ∙ sym (or_false (get_or flags k false))
  where
    or_false : (b : Bool) → (b || false) ≡ b
    or_false true = refl
    or_false false = refl

-- each mark is there where it was, or where the marked cell reads it
mark_at : (flags : List Bool) (f : Bool) (input : Option ℕ) (k : ℕ) → k < length flags → get_or (marked flags f input) k false ≡ (get_or flags k false || (f && reads input k))
mark_at flags true (Some q) k lt = mark_by flags q k lt (eqb q k) refl
mark_at flags false (Some q) k lt = none (get_or flags k false)
  where
    none : (b : Bool) → b ≡ (b || false)
    none true = refl
    none false = refl
mark_at flags true None k lt = none (get_or flags k false)
  where
    none : (b : Bool) → b ≡ (b || false)
    none true = refl
    none false = refl
mark_at flags false None k lt = none (get_or flags k false)
  where
    none : (b : Bool) → b ≡ (b || false)
    none true = refl
    none false = refl

or_moves : (a b c : Bool) → ((a || b) || c) ≡ (a || (c || b))
or_moves true b c = refl
or_moves false true true = refl
or_moves false true false = refl
or_moves false false c = or_self c
  where
    or_self : (c : Bool) → c ≡ (c || false)
    or_self true = refl
    or_self false = refl

behind : (flags : List Bool) (f : Bool) (input : Option ℕ) (p : ℕ) → ((q : ℕ) → input ≡ Some q → q < p) → drop p (marked flags f input) ≡ drop p flags
behind flags f None p h = refl
behind flags true (Some q) p h = drop-set-lt p flags q true (h q refl)
behind flags false (Some q) p h = refl

same_length : (flags : List Bool) (f : Bool) (input : Option ℕ) → length (marked flags f input) ≡ length flags
same_length flags f None = refl
same_length flags true (Some q) = length-set flags q true
same_length flags false (Some q) = refl

-- one cell further to the front
pub marked_step : (cells : List Cell) (observed flags : List Bool) (p : ℕ) (c : Cell) → p < length cells → length observed ≡ length cells → drop p cells ≡ c ∷ drop (suc p) cells
    → ((q : ℕ) → c.input ≡ Some q → q < p) → IsMarked cells observed flags (suc p) → IsMarked cells observed (marked flags (get_or flags p false) c.input) p
marked_step cells observed flags p c lt len is h m =
    let f : Bool = get_or flags p false in
    let rest : drop p flags ≡ f ∷ drop (suc p) flags = drop-cons flags p false (omega (arith, m.same)) in
    let seen : drop p observed ≡ get_or observed p false ∷ drop (suc p) observed = drop-cons observed p false (omega (arith, len)) in
    let own : f ≡ (get_or observed p false || is_read p (drop (suc p) cells) (drop (suc p) flags)) = m.marks p (omega arith) in
    let final : drop (suc p) flags ≡ live_from (suc p) (drop (suc p) cells) (drop (suc p) observed) = m.done in
    record {
      same = same_length flags f c.input ∙ m.same;
      done = behind flags f c.input p h ∙ rest ∙ rw (is, seen, add-one, ← final) (ap (λ x. x ∷ drop (suc p) flags) own);
      marks = λ k below.
          let here : k < length flags = omega (arith, m.same) in
          mark_at flags f c.input k here ∙ ap (λ b. b || (f && reads c.input k)) (m.marks k (omega arith))
          ∙ or_moves (get_or observed k false) (is_read k (drop (suc p) cells) (drop (suc p) flags)) (f && reads c.input k)
          ∙ sym (rw (behind flags f c.input p h, rest, is) refl);
    }

none_left : {X : Type 0} (xs : List X) → drop (length xs) xs ≡ []
none_left [] = refl
none_left (x ∷ xs) = none_left xs

none_read : (k : ℕ) (flags : List Bool) → is_read k [] flags ≡ false
none_read k flags = refl

or_none : (b : Bool) → b ≡ (b || false)
or_none true = refl
or_none false = refl

-- behind the last cell, where the flags are those of the observed cells
pub marked_last : (cells : List Cell) (flags : List Bool) → length flags ≡ length cells → IsMarked cells flags flags (length cells)
marked_last cells flags same =
    record {
      same = same;
      done = ap (λ n. drop n flags) (sym same) ∙ none_left flags ∙ sym (rw (none_left cells) refl);
      marks = λ k below. rw (none_left cells) (or_none (get_or flags k false));
    }

found : {X Y : Type 0} (f : X → Y) (xs : List X) (i : ℕ) (d : X) → i < length xs → slice_get (map f xs) i ≡ Some (f (get_or xs i d))
found f [] i d h = absurd (omega arith)
found f (x ∷ xs) zero d h = refl
found f (x ∷ xs) (suc i) d h = found f xs i d (omega arith)

-- a cell reads one before it
pub reads_before : (cells : List Cell) (p : ℕ) (c : Cell) → p < length cells → c ≡ get_or cells p c → IsBuiltUp (map (λ (x : Cell). x.input) cells) → (q : ℕ) → c.input ≡ Some q → q < p
reads_before cells p c lt is b q e = b p q (found (λ (x : Cell). x.input) cells p c lt ∙ ap Some (ap (λ (x : Cell). x.input) (sym is) ∙ e))

-- the loop's step
pub marked_on : (cells : List Cell) (observed flags new : List Bool) (n p : ℕ) (c : Cell) → n ≡ suc p → n ≤ length cells → length observed ≡ length cells → c ≡ get_or cells p c
    → IsBuiltUp (map (λ (x : Cell). x.input) cells) → IsMarked cells observed flags n → new ≡ with_mark flags p c.input → IsMarked cells observed new p
marked_on cells observed flags new n p c e le len is b m w =
    let lt : p < length cells = omega arith in
    let there : drop p cells ≡ c ∷ drop (suc p) cells = drop-cons cells p c lt ∙ ap (λ x. x ∷ drop (suc p) cells) (sym is) in
    let before : IsMarked cells observed flags (suc p) = subst (IsMarked cells observed flags) e m in
    subst (λ f. IsMarked cells observed f p) (mark_is flags p c.input ∙ sym w) (marked_step cells observed flags p c lt len there (reads_before cells p c lt is b) before)
  where
    mark_is : (flags : List Bool) (p : ℕ) (input : Option ℕ) → marked flags (get_or flags p false) input ≡ with_mark flags p input
    mark_is flags p None = refl
    mark_is flags p (Some q) = refl

-- at the first cell all flags are final
pub marked_all : (cells : List Cell) (observed flags : List Bool) (n : ℕ) → n ≡ 0 → IsMarked cells observed flags n → flags ≡ live_from 0 cells observed
marked_all cells observed flags n e m = let first : IsMarked cells observed flags 0 = subst (IsMarked cells observed flags) e m in first.done
