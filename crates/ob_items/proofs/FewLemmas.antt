-- A list of properties, whose keys stand once in it.
use Rattle.std.proofs.Common.{◌≡◌, ℕ, zero, suc, List, [], ◌∷◌, ◌++◌, ◌∙◌, refl, sym, ap, subst, nat_eq, arith}
use Rattle.std.proofs.Common.{Result, Ok, Err, OnOk, OnErr, Bool, true, false, cond, Some, None}
use Rattle.std.proofs.Common.{get_or, ◌<◌, slice_set, take, drop, length, append_assoc}
use Rattle.std.specs.Bool.{⊤}
use Rattle.std.proofs.lemmas.List.{append-nil}
use Rattle.std.proofs.lemmas.Option.{none-some}
use Rattle.std.specs.Cmp.Lexicographic.{pointwise}
use Rattle.std.specs.Map.{lookup}
use Rattle.indexmap.specs.IndexMap.{insert_entry, insert_all}
use Rattle.ob_items.specs.Distinct.{AreDistinct}

abbrev Entry : Type 0 → Type 0
Entry V = List ℕ × V

-- the entries after a write
abbrev put : {V : Type 0} → List (Entry V) → List ℕ → V → List (Entry V)
put es k v = insert_entry (pointwise nat_eq) es k v

module _ {V : Type 0} (k : List ℕ) (v : V) where
  -- the entry at a place, whose key this is, is written
  pub insert_entry-here : (es : List (Entry V)) (i : ℕ) (read write : Entry V)
      → read ≡ get_or es i read → write ≡ get_or es i write → i < length es → pointwise nat_eq k read.0 ≡ true
      → take i es ++ put (drop i es) k v ≡ slice_set es i (write.0, v)
  insert_entry-here [] i read write a b l same = absurd (omega arith)
  insert_entry-here (x ∷ xs) zero read write a b l same =
      let here : pointwise nat_eq k x.0 ≡ true = ap (λ (y : Entry V). pointwise nat_eq k y.0) (sym a) ∙ same in
      ap (λ c. cond c ((x.0, v) ∷ xs) (x ∷ put xs k v)) here ∙ ap (λ (y : Entry V). (y.0, v) ∷ xs) (sym b)
  insert_entry-here (x ∷ xs) (suc i) read write a b l same =
      ap (λ t. x ∷ t) (insert_entry-here xs i read write a b (omega arith) same)

module _ {V : Type 0} (test : List ℕ → Bool) where
  -- the test fails of no key: of the first, and of no other
  lookup-none : (e : Entry V) (es : List (Entry V)) → lookup test (e ∷ es) ≡ None
      → (test e.0 ≡ false) × (lookup test es ≡ None)
  lookup-none e es none = by (test e.0) refl
    where
      by : (b : Bool) → test e.0 ≡ b → (test e.0 ≡ false) × (lookup test es ≡ None)
      by true h = absurd (none-some e.1 (sym none ∙ ap (λ b. cond b (Some e.1) (lookup test es)) h))
      by false h = (h, sym (ap (λ b. cond b (Some e.1) (lookup test es)) h) ∙ none)

  none-lookup : (e : Entry V) (es : List (Entry V)) → test e.0 ≡ false → lookup test es ≡ None
      → lookup test (e ∷ es) ≡ None
  none-lookup e es h none = ap (λ b. cond b (Some e.1) (lookup test es)) h ∙ none

  lookup-put : (es : List (Entry V)) (k : List ℕ) (v : V) → test k ≡ false → lookup test es ≡ None
      → lookup test (put es k v) ≡ None
  lookup-put [] k v other none = none-lookup (k, v) [] other none
  lookup-put (e ∷ es) k v other none =
      let parts : (test e.0 ≡ false) × (lookup test es ≡ None) = lookup-none e es none in
      by parts (pointwise nat_eq k e.0) (lookup-put es k v other parts.1)
    where
      by : (test e.0 ≡ false) × (lookup test es ≡ None) → (c : Bool) → lookup test (put es k v) ≡ None
          → lookup test (cond c ((e.0, v) ∷ es) (e ∷ put es k v)) ≡ None
      by parts true rest = none-lookup (e.0, v) es parts.0 parts.1
      by parts false rest = none-lookup e (put es k v) parts.0 rest

  lookup-push : (es : List (Entry V)) (e : Entry V) → test e.0 ≡ false → lookup test es ≡ None
      → lookup test (es ++ e ∷ []) ≡ None
  lookup-push [] e other none = none-lookup e [] other none
  lookup-push (x ∷ xs) e other none =
      let parts : (test x.0 ≡ false) × (lookup test xs ≡ None) = lookup-none x xs none in
      none-lookup x (xs ++ e ∷ []) parts.0 (lookup-push xs e other parts.1)

-- a write leaves the keys distinct
AreDistinct-put : {V : Type 0} (es : List (Entry V)) (k : List ℕ) (v : V) → AreDistinct es → AreDistinct (put es k v)
unfolding AreDistinct
AreDistinct-put [] k v d = (refl, tt)
AreDistinct-put {V} (e ∷ es) k v d = by (pointwise nat_eq k e.0) refl (AreDistinct-put es k v d.1)
  where
    by : (c : Bool) → pointwise nat_eq k e.0 ≡ c → AreDistinct (put es k v)
        → AreDistinct (cond c ((e.0, v) ∷ es) (e ∷ put es k v))
    by true h rest = d
    by false h rest = (lookup-put (λ key. pointwise nat_eq key e.0) es k v h d.0, rest)

-- after a write that may have been refused, the keys are distinct
pub AreDistinct-written : {V E : Type 0} (result : Result Unit E) (old new : List (Entry V)) (k : List ℕ) (v : V)
    → OnOk result (new ≡ put old k v) → OnErr result (new ≡ old) → AreDistinct old → AreDistinct new
AreDistinct-written (Ok _) old new k v ok err d = subst AreDistinct (sym ok) (AreDistinct-put old k v d)
AreDistinct-written (Err _) old new k v ok err d = subst AreDistinct (sym err) d

pub AreDistinct-one : {V : Type 0} (e : Entry V) (es : List (Entry V)) → es ≡ e ∷ [] → AreDistinct es
unfolding AreDistinct
AreDistinct-one e es is = subst AreDistinct (sym is) (refl, tt)

-- a key that is not there goes last
put-absent : {V : Type 0} (es : List (Entry V)) (k : List ℕ) (v : V) → lookup (pointwise nat_eq k) es ≡ None
    → put es k v ≡ es ++ (k, v) ∷ []
put-absent [] k v none = refl
put-absent (e ∷ es) k v none =
    let parts : (pointwise nat_eq k e.0 ≡ false) × (lookup (pointwise nat_eq k) es ≡ None) =
    lookup-none (pointwise nat_eq k) e es none in
    ap (λ b. cond b ((e.0, v) ∷ es) (e ∷ put es k v)) parts.0 ∙ ap (λ t. e ∷ t) (put-absent es k v parts.1)

-- no key of es is one of `before`
AreNew : {V : Type 0} → List (Entry V) → List (Entry V) → Type 0
AreNew before [] = ⊤
AreNew before (e ∷ es) = (lookup (pointwise nat_eq e.0) before ≡ None) × AreNew before es

AreNew-push : {V : Type 0} (before : List (Entry V)) (e : Entry V) (es : List (Entry V)) → AreNew before es
    → lookup (λ key. pointwise nat_eq key e.0) es ≡ None → AreNew (before ++ e ∷ []) es
unfolding AreNew
AreNew-push before e [] new none = tt
AreNew-push before e (f ∷ fs) new none =
    let parts : (pointwise nat_eq f.0 e.0 ≡ false) × (lookup (λ key. pointwise nat_eq key e.0) fs ≡ None) =
    lookup-none (λ key. pointwise nat_eq key e.0) f fs none in
    (lookup-push (pointwise nat_eq f.0) before e parts.0 new.0, AreNew-push before e fs new.1 parts.1)

insert_all-new : {V : Type 0} (before es : List (Entry V)) → AreNew before es → AreDistinct es
    → insert_all (pointwise nat_eq) before es ≡ before ++ es
unfolding AreNew AreDistinct
insert_all-new before [] new d = sym (append-nil before)
insert_all-new before (e ∷ es) new d =
    ap (λ t. insert_all (pointwise nat_eq) t es) (put-absent before e.0 e.1 new.0)
    ∙ insert_all-new (before ++ e ∷ []) es (AreNew-push before e es new.1 d.0) d.1
    ∙ append_assoc before (e ∷ []) es

AreNew-none : {V : Type 0} (es : List (Entry V)) → AreNew [] es
unfolding AreNew
AreNew-none [] = tt
AreNew-none (e ∷ es) = (refl, AreNew-none es)

-- a table of keys that are distinct has them in their order
pub insert_all-distinct : {V : Type 0} (es : List (Entry V)) → AreDistinct es
    → insert_all (pointwise nat_eq) [] es ≡ es
insert_all-distinct es d = insert_all-new [] es (AreNew-none es) d
