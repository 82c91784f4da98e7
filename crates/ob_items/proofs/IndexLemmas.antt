-- A list of properties at array indices, by rising index.
use Rattle.std.proofs.Common.{◌≡◌, ℕ, ◌+◌, ◌<◌, zero, suc, List, [], ◌∷◌, ◌++◌, ◌∙◌, refl, sym, ap, subst, arith}
use Rattle.std.proofs.Common.{Result, Ok, Err, OnOk, OnErr, get_or, slice_set, take, drop, insert, length, append_assoc}
use Rattle.std.specs.Cmp.{nat_cmp_is, ranked}
use Rattle.std.specs.declared.cmp.Ordering.{Ordering}
use Rattle.std.specs.declared.cmp.Ordering.TheVariants.{Less, Equal, Greater}
use Rattle.std.specs.Ordering.{nat_cmp, match_ordering, MatchOrdering}
use Rattle.std.specs.BTreeMap.{insert_entry}
use Rattle.std.specs.Bool.{⊤}
use Rattle.std.proofs.lemmas.List.{append-nil}
use Rattle.ob_items.specs.Rising.{AreAbove, AreRising}

abbrev Entry : Type 0 → Type 0
Entry V = ℕ × V

-- the entries after a write
abbrev put : {V : Type 0} → List (Entry V) → ℕ → V → List (Entry V)
put es k v = insert_entry nat_cmp es k v

-- the entries after these writes in turn
abbrev pub put_all : {V : Type 0} → List (Entry V) → List (Entry V) → List (Entry V)
put_all before [] = before
put_all before (e ∷ es) = put_all (put before e.0 e.1) es

module _ {V : Type 0} (k : ℕ) (v : V) where
  -- an index below the one at a place goes before it
  pub put-before : (es : List (Entry V)) (i : ℕ) (read : Entry V)
      → read ≡ get_or es i read → i < length es → nat_cmp k read.0 ≡ Less
      → take i es ++ put (drop i es) k v ≡ insert es i (k, v)
  put-before [] i read a l less = absurd (omega arith)
  put-before (x ∷ xs) zero read a l less =
      let here : nat_cmp k x.0 ≡ Less = ap (λ (y : Entry V). nat_cmp k y.0) (sym a) ∙ less in
      ap (λ o. match_ordering o ((k, v) ∷ x ∷ xs) ((x.0, v) ∷ xs) (x ∷ put xs k v)) here
  put-before (x ∷ xs) (suc i) read a l less = ap (λ t. x ∷ t) (put-before xs i read a (omega arith) less)

  -- the one at a place is written
  pub put-here : (es : List (Entry V)) (i : ℕ) (read : Entry V)
      → read ≡ get_or es i read → i < length es → nat_cmp k read.0 ≡ Equal
      → take i es ++ put (drop i es) k v ≡ slice_set es i (read.0, v)
  put-here [] i read a l same = absurd (omega arith)
  put-here (x ∷ xs) zero read a l same =
      let here : nat_cmp k x.0 ≡ Equal = ap (λ (y : Entry V). nat_cmp k y.0) (sym a) ∙ same in
      ap (λ o. match_ordering o ((k, v) ∷ x ∷ xs) ((x.0, v) ∷ xs) (x ∷ put xs k v)) here
      ∙ ap (λ (y : Entry V). (y.0, v) ∷ xs) (sym a)
  put-here (x ∷ xs) (suc i) read a l same = ap (λ t. x ∷ t) (put-here xs i read a (omega arith) same)

  -- the one at a place is passed by
  pub put-past : (es : List (Entry V)) (i : ℕ) (read : Entry V)
      → read ≡ get_or es i read → i < length es → nat_cmp k read.0 ≡ Greater
      → take i es ++ put (drop i es) k v ≡ take (suc i) es ++ put (drop (suc i) es) k v
  put-past [] i read a l more = absurd (omega arith)
  put-past (x ∷ xs) zero read a l more =
      let here : nat_cmp k x.0 ≡ Greater = ap (λ (y : Entry V). nat_cmp k y.0) (sym a) ∙ more in
      ap (λ o. match_ordering o ((k, v) ∷ x ∷ xs) ((x.0, v) ∷ xs) (x ∷ put xs k v)) here
  put-past (x ∷ xs) (suc i) read a l more = ap (λ t. x ∷ t) (put-past xs i read a (omega arith) more)

-- what two indices are to each other, by how they compare
order : (k n : ℕ) → MatchOrdering (nat_cmp k n) (k < n) (k ≡ n) (n < k)
order k n = ranked k n (nat_cmp k n) refl

AreAbove-less : {V : Type 0} (n m : ℕ) (es : List (Entry V)) → n < m → AreAbove m es → AreAbove n es
unfolding AreAbove
AreAbove-less n m [] l above = tt
AreAbove-less n m (e ∷ es) l above = (omega (arith, l, above.0), AreAbove-less n m es l above.1)

AreAbove-put : {V : Type 0} (n : ℕ) (es : List (Entry V)) (k : ℕ) (v : V) → n < k → AreAbove n es → AreAbove n (put es k v)
unfolding AreAbove
AreAbove-put n [] k v l above = (l, tt)
AreAbove-put {V} n (e ∷ es) k v l above = by (nat_cmp k e.0) (AreAbove-put n es k v l above.1)
  where
    by : (o : Ordering) → AreAbove n (put es k v) → AreAbove n (match_ordering o ((k, v) ∷ e ∷ es) ((e.0, v) ∷ es) (e ∷ put es k v))
    by Less rest = (l, above)
    by Equal rest = above
    by Greater rest = (above.0, rest)

-- a write leaves the indices rising
AreRising-put : {V : Type 0} (es : List (Entry V)) (k : ℕ) (v : V) → AreRising es → AreRising (put es k v)
unfolding AreRising AreAbove
AreRising-put [] k v r = (tt, tt)
AreRising-put {V} (e ∷ es) k v r = by (nat_cmp k e.0) (order k e.0) (AreRising-put es k v r.1)
  where
    by : (o : Ordering) → MatchOrdering o (k < e.0) (k ≡ e.0) (e.0 < k) → AreRising (put es k v)
        → AreRising (match_ordering o ((k, v) ∷ e ∷ es) ((e.0, v) ∷ es) (e ∷ put es k v))
    by Less l rest = ((l, AreAbove-less k e.0 es l r.0), r)
    by Equal l rest = r
    by Greater l rest = (AreAbove-put e.0 es k v l r.0, rest)

-- after a write that may have been refused, the indices are rising
pub AreRising-written : {V E : Type 0} (result : Result Unit E) (old new : List (Entry V)) (k : ℕ) (v : V)
    → OnOk result (new ≡ put old k v) → OnErr result (new ≡ old) → AreRising old → AreRising new
AreRising-written (Ok _) old new k v ok err r = subst AreRising (sym ok) (AreRising-put old k v r)
AreRising-written (Err _) old new k v ok err r = subst AreRising (sym err) r

pub AreRising-one : {V : Type 0} (e : Entry V) (es : List (Entry V)) → es ≡ e ∷ [] → AreRising es
unfolding AreRising AreAbove
AreRising-one e es is = subst AreRising (sym is) (tt, tt)

-- each index is below n
AreBelow : {V : Type 0} → List (Entry V) → ℕ → Type 0
AreBelow [] n = ⊤
AreBelow (e ∷ es) n = (e.0 < n) × AreBelow es n

-- each index of the first list is below each of the second
AreFirst : {V : Type 0} → List (Entry V) → List (Entry V) → Type 0
AreFirst before [] = ⊤
AreFirst before (e ∷ es) = AreBelow before e.0 × AreFirst before es

AreBelow-push : {V : Type 0} (before : List (Entry V)) (e : Entry V) (n : ℕ) → AreBelow before n → e.0 < n
    → AreBelow (before ++ e ∷ []) n
unfolding AreBelow
AreBelow-push [] e n below l = (l, tt)
AreBelow-push (x ∷ xs) e n below l = (below.0, AreBelow-push xs e n below.1 l)

AreFirst-push : {V : Type 0} (before : List (Entry V)) (e : Entry V) (es : List (Entry V)) → AreFirst before es
    → AreAbove e.0 es → AreFirst (before ++ e ∷ []) es
unfolding AreFirst AreAbove
AreFirst-push before e [] first above = tt
AreFirst-push before e (f ∷ fs) first above =
    (AreBelow-push before e f.0 first.0 above.0, AreFirst-push before e fs first.1 above.1)

AreFirst-none : {V : Type 0} (es : List (Entry V)) → AreFirst [] es
unfolding AreFirst AreBelow
AreFirst-none [] = tt
AreFirst-none (e ∷ es) = (tt, AreFirst-none es)

-- an index above all goes last
put-last : {V : Type 0} (es : List (Entry V)) (k : ℕ) (v : V) → AreBelow es k → put es k v ≡ es ++ (k, v) ∷ []
unfolding AreBelow
put-last [] k v below = refl
put-last (e ∷ es) k v below =
    ap (λ o. match_ordering o ((k, v) ∷ e ∷ es) ((e.0, v) ∷ es) (e ∷ put es k v)) (sym (nat_cmp_is k e.0 Greater below.0))
    ∙ ap (λ t. e ∷ t) (put-last es k v below.1)

put_all-first : {V : Type 0} (before es : List (Entry V)) → AreFirst before es → AreRising es
    → put_all before es ≡ before ++ es
unfolding AreFirst AreRising
put_all-first before [] first r = sym (append-nil before)
put_all-first before (e ∷ es) first r =
    ap (λ t. put_all t es) (put-last before e.0 e.1 first.0)
    ∙ put_all-first (before ++ e ∷ []) es (AreFirst-push before e es first.1 r.0) r.1
    ∙ append_assoc before (e ∷ []) es

-- a tree of indices that are rising has them in their order
pub put_all-rising : {V : Type 0} (es : List (Entry V)) → AreRising es → put_all [] es ≡ es
put_all-rising es r = put_all-first [] es (AreFirst-none es) r

-- the next write of those that are left
put_all-step : {V : Type 0} (before es : List (Entry V)) (i : ℕ) (d : Entry V) → i < length es
    → put_all (put before (get_or es i d).0 (get_or es i d).1) (drop (suc i) es) ≡ put_all before (drop i es)
put_all-step before [] i d l = absurd (omega (arith, l))
put_all-step before (x ∷ xs) zero d l = refl
put_all-step before (x ∷ xs) (suc i) d l = put_all-step before xs i d (omega (arith, l))

pub put_all-next : {V : Type 0} (before es : List (Entry V)) (i : ℕ) (d : Entry V) → i < length es
    → put_all (put before (get_or es i d).0 (get_or es i d).1) (drop (i + 1) es) ≡ put_all before (drop i es)
put_all-next before es i d l =
    let next : i + 1 ≡ suc i = omega arith in
    ap (λ n. put_all (put before (get_or es i d).0 (get_or es i d).1) (drop n es)) next ∙ put_all-step before es i d l
