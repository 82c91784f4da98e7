-- The table of the innermost bindings beside the list of the names in scope.
use Rattle.std.proofs.Common.{◌≡◌, ℕ, ◌-◌, ◌<◌, ◌≤◌, Bool, true, false, cond, ◌||◌, Option, Some, None, List, [], ◌∷◌, ◌++◌, map, length, take, refl, ap, sym, subst, ◌∙◌, reverse, bytes_eq, if◌then◌else◌, nat_le, arith, suc, ◌⊎◌, inl, inr}
use Rattle.std.proofs.lemmas.Bool.{le-leb}
use Rattle.std.proofs.lemmas.Bool.Decides.{leb_tells}
use Rattle.std.proofs.lemmas.List.{reverse-append, length-reverse, length-map}
use Rattle.std.proofs.lemmas.Slice.Eq.{bytes_eq-Decides}
use Rattle.std.specs.HashMap as hash
use Rattle.std.specs.declared.hash.FoldHasher.{FoldHasher}
use Rattle.std.specs.declared.hash.BuildHasherDefault.{BuildHasherDefault}
use denote.Ref.{Bor}
use Rattle.ob_grammar.specs.Early.{holds_name}
use Rattle.ob_early.specs.Chain.{name_of, names_in, innermost, KeepsHidden, IsIndexed}
use Rattle.ob_early.specs.declared.chain.Open.{Open}

abbrev Table : Type 0
Table = hash.HashMap (Bor (List ℕ)) ℕ (BuildHasherDefault FoldHasher)

abbrev at : List ℕ → Table → Option ℕ
at x table = hash.get_by (λ k. bytes_eq x k.now) table

pub reverse_push : {A : Type 0} (xs : List A) (x : A) → reverse (xs ++ x ∷ []) ≡ x ∷ reverse xs
reverse_push xs x = reverse-append xs (x ∷ [])

-- the binding that the last one hid is the innermost again
restored : (o : Open) (os : List Open) (x : List ℕ) → o.hidden ≡ innermost o.name.now os → cond (bytes_eq o.name.now x) o.hidden (innermost x (o ∷ os)) ≡ innermost x os
restored o os x h = by (bytes_eq o.name.now x) (bytes_eq-Decides o.name.now x).0
  where
    by : (b : Bool) → (b ≡ true → o.name.now ≡ x) → cond b o.hidden (if b then Some (length os) else innermost x os) ≡ innermost x os
    by true e = h ∙ ap (λ y. innermost y os) (e refl)
    by false e = refl

pub indexed_none : (table : Table) → ((x : List ℕ) → at x table ≡ None) → IsIndexed [] table
indexed_none table h = record { by_name = h; hidden = tt }

pub indexed_more : (all : List Open) (o : Open) (place : ℕ) (old new : Table) → IsIndexed all old → place ≡ length all → o.hidden ≡ at o.name.now old
    → ((x : List ℕ) → at x new ≡ cond (bytes_eq o.name.now x) (Some place) (at x old)) → IsIndexed (all ++ o ∷ []) new
indexed_more all o place old new i l h u =
    let here : place ≡ length (reverse all) = l ∙ sym (length-reverse all) in
    record {
      by_name = λ x. u x ∙ ap (λ n. cond (bytes_eq o.name.now x) (Some n) (at x old)) here ∙ ap (λ s. cond (bytes_eq o.name.now x) (Some (length (reverse all))) s) (i.by_name x) ∙ ap (innermost x) (sym (reverse_push all o));
      hidden = subst KeepsHidden (sym (reverse_push all o)) (h ∙ i.by_name o.name.now, i.hidden);
    }

pub indexed_less : (all : List Open) (o : Open) (old new : Table) → IsIndexed (all ++ o ∷ []) old
    → ((x : List ℕ) → at x new ≡ cond (bytes_eq o.name.now x) o.hidden (at x old)) → IsIndexed all new
indexed_less all o old new i u =
    let hidden : KeepsHidden (o ∷ reverse all) = subst KeepsHidden (reverse_push all o) i.hidden in
    record {
      by_name = λ x. u x ∙ ap (λ s. cond (bytes_eq o.name.now x) o.hidden s) (i.by_name x ∙ ap (innermost x) (reverse_push all o)) ∙ restored o (reverse all) x hidden.0;
      hidden = hidden.1;
    }

-- the last binding is in the table
pub hides_none : (all : List Open) (o : Open) (table : Table) → IsIndexed (all ++ o ∷ []) table → at o.name.now table ≡ None → ⊥
hides_none all o table i h =
    let here : None ≡ innermost o.name.now (o ∷ reverse all) = sym h ∙ i.by_name o.name.now ∙ ap (innermost o.name.now) (reverse_push all o) in
    let is : innermost o.name.now (o ∷ reverse all) ≡ Some (length (reverse all)) = by (bytes_eq o.name.now o.name.now) ((bytes_eq-Decides o.name.now o.name.now).1 refl) in
    let both : ◌≡◌ {A = Option ℕ} None (Some (length (reverse all))) = here ∙ is in
    cc
  where
    by : (b : Bool) → b ≡ true → (if b then Some (length (reverse all)) else innermost o.name.now (reverse all)) ≡ Some (length (reverse all))
    by true e = refl
    by false e = cc

-- ---- what a look-up finds

same_either_way : (x y : List ℕ) → bytes_eq x y ≡ bytes_eq y x
same_either_way x y = by (bytes_eq x y) (bytes_eq y x) (bytes_eq-Decides x y).0 (bytes_eq-Decides x y).1 (bytes_eq-Decides y x).0 (bytes_eq-Decides y x).1
  where
    by : (a b : Bool) → (a ≡ true → x ≡ y) → (x ≡ y → a ≡ true) → (b ≡ true → y ≡ x) → (y ≡ x → b ≡ true) → a ≡ b
    by true true p q r s = refl
    by true false p q r s = sym (s (sym (p refl)))
    by false true p q r s = q (sym (r refl))
    by false false p q r s = refl

-- whether a place is at or behind the n-th
abbrev pub from_place : ℕ → Option ℕ → Bool
from_place n None = false
from_place n (Some place) = nat_le n place

le_true : (n m : ℕ) → n ≤ m → nat_le n m ≡ true
le_true n m h = le-leb n m h

le_false : (n m : ℕ) → m < n → nat_le n m ≡ false
le_false n m h = by (leb_tells n m)
  where
    by : ((nat_le n m ≡ true) × (n ≤ m)) ⊎ ((nat_le n m ≡ false) × (m < n)) → nat_le n m ≡ false
    by (inl t) = let both : (n ≤ m) × (m < n) = (t.1, h) in absurd (omega (arith, both.0, both.1))
    by (inr t) = t.0

module _ (x : List ℕ) (n : ℕ) (o : Open) (os : List Open) (rest : holds_name x (take (length os - n) (map name_of os)) ≡ from_place n (innermost x os)) where
  here : (b : Bool) → n ≤ length os → (b || holds_name x (take (length os - n) (map name_of os))) ≡ from_place n (if b then Some (length os) else innermost x os)
  here true l = sym (le_true n (length os) l)
  here false l = rest

  before : (b : Bool) → length os < n → false ≡ from_place n (if b then Some (length os) else innermost x os)
  before true l = sym (le_false n (length os) l)
  before false l = let none_left : 0 ≡ length os - n = omega (arith, l) in ap (λ k. holds_name x (take k (map name_of os))) none_left ∙ rest

  one_more : ((nat_le n (length os) ≡ true) × (n ≤ length os)) ⊎ ((nat_le n (length os) ≡ false) × (length os < n))
      → holds_name x (take (length (o ∷ os) - n) (map name_of (o ∷ os))) ≡ from_place n (innermost x (o ∷ os))
  one_more (inl t) =
      let e : length (o ∷ os) - n ≡ suc (length os - n) = omega (arith, t.1) in
      ap (λ k. holds_name x (take k (map name_of (o ∷ os)))) e ∙ ap (λ b. b || holds_name x (take (length os - n) (map name_of os))) (same_either_way x o.name.now)
      ∙ here (bytes_eq o.name.now x) t.1
  one_more (inr t) =
      let e : length (o ∷ os) - n ≡ 0 = omega (arith, t.1) in
      ap (λ k. holds_name x (take k (map name_of (o ∷ os)))) e ∙ before (bytes_eq o.name.now x) t.1

held_since : (x : List ℕ) (n : ℕ) (os : List Open) → holds_name x (take (length os - n) (map name_of os)) ≡ from_place n (innermost x os)
held_since x n [] = let e : 0 - n ≡ 0 = omega arith in ap (λ k. holds_name x (take k [])) e
held_since x n (o ∷ os) = one_more x n o os (held_since x n os) (leb_tells n (length os))

-- whether a name stands there at all
abbrev pub is_there : Option ℕ → Bool
is_there None = false
is_there (Some place) = true

held : (x : List ℕ) (os : List Open) → holds_name x (map name_of os) ≡ is_there (innermost x os)
held x [] = refl
held x (o ∷ os) = ap (λ b. b || holds_name x (map name_of os)) (same_either_way x o.name.now) ∙ by (bytes_eq o.name.now x) (held x os)
  where
    by : (b : Bool) → holds_name x (map name_of os) ≡ is_there (innermost x os) → (b || holds_name x (map name_of os)) ≡ is_there (if b then Some (length os) else innermost x os)
    by true h = refl
    by false h = h

-- what a look-up tells of the names in scope
module _ (all : List Open) (table : Table) (x : List ℕ) where
  pub tells : IsIndexed all table → holds_name x (names_in all) ≡ is_there (at x table)
  tells i = held x (reverse all) ∙ ap is_there (sym (i.by_name x))

  pub tells_since : (n : ℕ) → IsIndexed all table → holds_name x (take (length (names_in all) - n) (names_in all)) ≡ from_place n (at x table)
  tells_since n i =
      ap (λ k. holds_name x (take (k - n) (names_in all))) (length-map (reverse all) name_of)
      ∙ held_since x n (reverse all) ∙ ap (from_place n) (sym (i.by_name x))
