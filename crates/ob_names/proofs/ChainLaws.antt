-- The table of the innermost bindings beside the list of the bindings in scope.
use Rattle.std.proofs.Common.{◌≡◌, ℕ, Bool, true, false, cond, Option, Some, None, List, [], ◌∷◌, ◌++◌, map, refl, ap, sym, subst, ◌∙◌, reverse, bytes_eq, if◌then◌else◌, ◌==◌}
use Rattle.std.proofs.lemmas.List.{reverse-append}
use Rattle.std.proofs.lemmas.Slice.Eq.{bytes_eq-Decides}
use Rattle.std.proofs.lemmas.Bool.Decides.{Decides-eqb}
use Rattle.std.specs.HashMap as hash
use Rattle.std.specs.declared.hash.FoldHasher.{FoldHasher}
use Rattle.std.specs.declared.hash.BuildHasherDefault.{BuildHasherDefault}
use denote.Ref.{Bor}
use Rattle.ob_tree.specs.Scopes.{Known, Meaning, Free, Local, Captured, seen_from, meant}
use Rattle.ob_names.specs.Chain.{known, scope_of, innermost, KeepsHidden, IsIndexed}
use Rattle.ob_names.specs.declared.meaning.Spot.{Spot}
use Rattle.ob_names.specs.declared.chain.Open.{Open}

abbrev Table : Type 0
Table = hash.HashMap (Bor (List ℕ)) Spot (BuildHasherDefault FoldHasher)

abbrev at : List ℕ → Table → Option Spot
at x table = hash.get_by (λ k. bytes_eq x k.now) table

-- what a spot means from a place
abbrev pub from_spot : ℕ → Option Spot → Meaning
from_spot depth None = Free
from_spot depth (Some s) = seen_from depth (record { name = []; number = s.number; depth = s.depth })

pub meant_known : (x : List ℕ) (depth : ℕ) (os : List Open) → meant x depth (map known os) ≡ from_spot depth (innermost x os)
meant_known x depth [] = refl
meant_known x depth (o ∷ os) =
    elim (bytes_eq o.name.now x) as (λ b. (if b then seen_from depth (known o) else meant x depth (map known os)) ≡ from_spot depth (if b then Some o.spot else innermost x os)) [
      | true ↦ refl
      | false ↦ meant_known x depth os
    ]

pub reverse_push : {A : Type 0} (xs : List A) (x : A) → reverse (xs ++ x ∷ []) ≡ x ∷ reverse xs
reverse_push xs x = reverse-append xs (x ∷ [])

-- the binding that the last one hid is the innermost again
restored : (o : Open) (os : List Open) (x : List ℕ) → o.hidden ≡ innermost o.name.now os → cond (bytes_eq o.name.now x) o.hidden (innermost x (o ∷ os)) ≡ innermost x os
restored o os x h = by (bytes_eq o.name.now x) (bytes_eq-Decides o.name.now x).0
  where
    by : (b : Bool) → (b ≡ true → o.name.now ≡ x) → cond b o.hidden (if b then Some o.spot else innermost x os) ≡ innermost x os
    by true e = h ∙ ap (λ y. innermost y os) (e refl)
    by false e = refl

pub indexed_none : (table : Table) → ((x : List ℕ) → at x table ≡ None) → IsIndexed [] table
indexed_none table h = record { by_name = h; hidden = tt }

pub indexed_more : (all : List Open) (o : Open) (old new : Table) → IsIndexed all old → o.hidden ≡ at o.name.now old
    → ((x : List ℕ) → at x new ≡ cond (bytes_eq o.name.now x) (Some o.spot) (at x old)) → IsIndexed (all ++ o ∷ []) new
indexed_more all o old new i h u =
    record {
      by_name = λ x. u x ∙ ap (λ s. cond (bytes_eq o.name.now x) (Some o.spot) s) (i.by_name x) ∙ ap (innermost x) (sym (reverse_push all o));
      hidden = subst KeepsHidden (sym (reverse_push all o)) (h ∙ i.by_name o.name.now, i.hidden);
    }

pub indexed_less : (all : List Open) (o : Open) (old new : Table) → IsIndexed (all ++ o ∷ []) old
    → ((x : List ℕ) → at x new ≡ cond (bytes_eq o.name.now x) o.hidden (at x old)) → IsIndexed all new
indexed_less all o old new i u =
    let hidden : KeepsHidden (o ∷ reverse all) = subst KeepsHidden (reverse_push all o) i.hidden in
    record {
      by_name = λ x. u x ∙ ap (λ s. cond (bytes_eq o.name.now x) o.hidden s) (i.by_name x ∙ ap (innermost x) (reverse_push all o)) ∙ restored o (reverse all) x hidden.0;
      hidden = hidden.1;
    }

-- the last binding is in the table
pub hides_none : (all : List Open) (o : Open) (table : Table) → IsIndexed (all ++ o ∷ []) table → at o.name.now table ≡ None → ⊥
hides_none all o table i h =
    let here : None ≡ innermost o.name.now (o ∷ reverse all) = sym h ∙ i.by_name o.name.now ∙ ap (innermost o.name.now) (reverse_push all o) in
    let is : innermost o.name.now (o ∷ reverse all) ≡ Some o.spot = by (bytes_eq o.name.now o.name.now) ((bytes_eq-Decides o.name.now o.name.now).1 refl) in
    let both : ◌≡◌ {A = Option Spot} None (Some o.spot) = here ∙ is in
    cc
  where
    by : (b : Bool) → b ≡ true → (if b then Some o.spot else innermost o.name.now (reverse all)) ≡ Some o.spot
    by true e = refl
    by false e = cc

-- what a look-up finds
module _ (all : List Open) (table : Table) (x : List ℕ) (depth : ℕ) where
  meant_at : IsIndexed all table → meant x depth (scope_of all) ≡ from_spot depth (at x table)
  meant_at i = meant_known x depth (reverse all) ∙ ap (from_spot depth) (sym (i.by_name x))

  pub found_none : IsIndexed all table → None ≡ at x table → Free ≡ meant x depth (scope_of all)
  found_none i h = ap (from_spot depth) h ∙ sym (meant_at i)

  pub found_here : (s : Spot) → IsIndexed all table → Some s ≡ at x table → s.depth ≡ depth → Local s.number ≡ meant x depth (scope_of all)
  found_here s i h e = by (s.depth == depth) (Decides-eqb s.depth depth).1 ∙ ap (from_spot depth) h ∙ sym (meant_at i)
    where
      by : (b : Bool) → (s.depth ≡ depth → b ≡ true) → Local s.number ≡ (if b then Local s.number else Captured s.number)
      by true t = refl
      by false t = let no : false ≡ true = t e in cc

  pub found_around : (s : Spot) → IsIndexed all table → Some s ≡ at x table → (s.depth ≡ depth → ⊥) → Captured s.number ≡ meant x depth (scope_of all)
  found_around s i h e = by (s.depth == depth) (Decides-eqb s.depth depth).0 ∙ ap (from_spot depth) h ∙ sym (meant_at i)
    where
      by : (b : Bool) → (b ≡ true → s.depth ≡ depth) → Captured s.number ≡ (if b then Local s.number else Captured s.number)
      by true t = absurd (e (t refl))
      by false t = refl
