-- Flags of captured bindings, and places of free names.
use Rattle.std.proofs.Common.{◌≡◌, ℕ, zero, suc, ◌+◌, ◌<◌, Bool, true, false, cond, ◌||◌, Some, List, [], ◌∷◌, ◌++◌, map, fold, length, drop, get_or, slice_get, slice_set, refl, ap, sym, ◌∙◌, append_assoc, arith, ◌==◌, ◌≢◌, length-set}
use Rattle.std.specs.List.{list_any}
use Rattle.std.proofs.lemmas.List.{drop_more, get_or-set_same, get_or-set_other}
use Rattle.std.proofs.lemmas.Option.{slice_get-get_or}
use Rattle.std.proofs.lemmas.Bool.Decides.{Decides-eqb}
use Rattle.std.proofs.Math.ListN.{replicate}
use Rattle.ob_tree.specs.Scopes.{Mention, Meaning, Free, Local, Captured}
use Rattle.ob_tree.specs.Names.{Referred, same_name, referred, captures, is_capture, is_captured}
use Rattle.ob_names.specs.Forms.{name_ref}
use Rattle.ob_names.specs.Sets.{same_ref}
use Rattle.ob_names.specs.Kept.{bound_of}
use Rattle.ob_names.specs.Resolved.{bindings_from, use_by, use_of}
use Rattle.ob_names.specs.Flags.{use_in, flagged, flag_with, AreFlags}
use Rattle.ob_names.specs.declared.walker.Bound.{Bound}
use Rattle.ob_names.specs.declared.slots.Binding.{Binding}
use Rattle.ob_names.proofs.SetLaws.{same_refs, place_through}

pub uses_through : (free : List Referred) (ms : List Mention) → map (use_in (map name_ref free)) ms ≡ map (use_of free) ms
uses_through free [] = refl
uses_through free (m ∷ ms) =
    ap (λ n. use_by n m.means ∷ map (use_in (map name_ref free)) ms) (place_through name_ref same_name same_ref same_refs (referred m) free)
    ∙ ap (λ us. use_of free m ∷ us) (uses_through free ms)

pub bindings_on : (ms : List Mention) (bs : List Bound) (n : ℕ) (d : Bound) (made : List Binding) (captured : Bool) (r : List Binding)
    → n < length bs → captured ≡ is_captured ms n → made ++ bindings_from ms n (map bound_of (drop n bs)) ≡ r
    → (made ++ record { captured = captured; constant = (get_or bs n d).constant } ∷ []) ++ bindings_from ms (n + 1) (map bound_of (drop (n + 1) bs)) ≡ r
bindings_on ms bs n d made captured r l flag h =
    append_assoc made (record { captured = captured; constant = (get_or bs n d).constant } ∷ []) (bindings_from ms (n + 1) (map bound_of (drop (n + 1) bs)))
    ∙ ap (λ f. made ++ (record { captured = f; constant = (get_or bs n d).constant } ∷ bindings_from ms (n + 1) (map bound_of (drop (n + 1) bs)))) flag
    ∙ ap (λ xs. made ++ bindings_from ms n (map bound_of xs)) (sym (drop_more bs n d l)) ∙ h

-- ---- flags

length-flagged : (fs : List Bool) (w : Meaning) → length (flagged fs w) ≡ length fs
length-flagged fs Free = refl
length-flagged fs (Local k) = refl
length-flagged fs (Captured k) = length-set fs k true

or_false : (b : Bool) → b ≡ (b || false)
or_false true = refl
or_false false = refl

or_assoc : (a b c : Bool) → ((a || b) || c) ≡ (a || (b || c))
or_assoc true b c = refl
or_assoc false b c = refl

set_at : (fs : List Bool) (k n : ℕ) → n < length fs → get_or (slice_set fs k true) n false ≡ (get_or fs n false || (k == n))
set_at fs k n l = by (k == n) (Decides-eqb k n)
  where
    or_true : (b : Bool) → true ≡ (b || true)
    or_true true = refl
    or_true false = refl

    by : (b : Bool) → (b ≡ true → k ≡ n) × (k ≡ n → b ≡ true) → get_or (slice_set fs k true) n false ≡ (get_or fs n false || b)
    by true d = let e : k ≡ n = d.0 refl in ap (λ j. get_or (slice_set fs j true) n false) e ∙ get_or-set_same fs n true false l ∙ or_true (get_or fs n false)
    by false d = let no : n ≢ k = λ e. (let f : false ≡ true = d.1 (sym e) in cc) in get_or-set_other fs k n true false no ∙ or_false (get_or fs n false)

flagged_at : (fs : List Bool) (w : Meaning) (n : ℕ) → n < length fs → get_or (flagged fs w) n false ≡ (get_or fs n false || is_capture n w)
flagged_at fs Free n l = or_false (get_or fs n false)
flagged_at fs (Local k) n l = or_false (get_or fs n false)
flagged_at fs (Captured k) n l = set_at fs k n l

flags_all : (ms : List Mention) (fs : List Bool) (n : ℕ) → n < length fs → get_or (fold flag_with fs ms) n false ≡ (get_or fs n false || list_any (captures n) ms)
flags_all [] fs n l = or_false (get_or fs n false)
flags_all (m ∷ ms) fs n l =
    let k : n < length (flagged fs m.means) = omega (arith, l, length-flagged fs m.means) in
    flags_all ms (flagged fs m.means) n k ∙ ap (λ b. b || list_any (captures n) ms) (flagged_at fs m.means n l) ∙ or_assoc (get_or fs n false) (captures n m) (list_any (captures n) ms)

length-flags_all : (ms : List Mention) (fs : List Bool) → length (fold flag_with fs ms) ≡ length fs
length-flags_all [] fs = refl
length-flags_all (m ∷ ms) fs = length-flags_all ms (flagged fs m.means) ∙ length-flagged fs m.means

none_flagged : (count n : ℕ) → get_or (replicate count false) n false ≡ false
none_flagged zero n = refl
none_flagged (suc count) zero = refl
none_flagged (suc count) (suc n) = none_flagged count n

pub are_flags : (ms : List Mention) (count : ℕ) (begun fs : List Bool) → begun ≡ replicate count false → fs ≡ fold flag_with begun ms → AreFlags ms fs
are_flags ms count begun fs b e = λ n l.
    let is : fs ≡ fold flag_with (replicate count false) ms = e ∙ ap (λ x. fold flag_with x ms) b in
    let k : n < length (replicate count false) = omega (arith, l, ap length is, length-flags_all ms (replicate count false)) in
    slice_get-get_or fs n false l
    ∙ ap Some (ap (λ x. get_or x n false) is ∙ flags_all ms (replicate count false) n k ∙ ap (λ x. x || list_any (captures n) ms) (none_flagged count n))
