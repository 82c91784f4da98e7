-- Plain data that can be read is read back from its JSON value.
use Rattle.std.proofs.Common.{◌≡◌, ℕ, ℤ, pos, negsuc, ◌+◌, ◌<◌, ◌≤◌, List, [], ◌∷◌, ◌++◌, Bool, true, false, true≢false, refl, sym, ap, ◌∙◌, subst, map, rules, arith, length, get_or, drop, append_assoc, nat_le, nat_lt, Ordering, Less, Equal, Greater, nat_cmp}
use Rattle.std.specs.Prelude.{◌&&◌, ◌^◌, Ok}
use Rattle.std.proofs.lemmas.Bool.Decides.{nat_tests}
use Rattle.std.proofs.lemmas.Cmp.{nat_list_cmp_total}
use Rattle.std.proofs.lemmas.List.{append-nil, drop_more}
use Rattle.std.proofs.Math.ListN.{drop_of_length-le}
use Rattle.std.specs.Cmp.Lexicographic.{slice_cmp}
use Rattle.std.specs.List.{list_all}
use Rattle.std.specs.Ordering.{match_ordering, ordering_reverse}
use Rattle.serde_json.specs.Data.{Data, number, object, member, no_members, put}
use Rattle.serde_json.specs.Find.{of_integer}
use Rattle.ob_base.specs.PlainData.{are_all}
use Rattle.ob_base.specs.declared.plain.Plain as plain
use Rattle.ob_base.specs.declared.plain.Plain.{Plain, the_lemmas}
use Rattle.ob_base.specs.declared.plain.PlainProp.{PlainProp}
use Rattle.ob_script.specs.Forms.{is_text, is_before, are_ascending, is_object, is_readable, readable_prop}
use Rattle.ob_base.specs.Integers.{is_in_range}
use Rattle.ob_script.specs.Inputs.{integer_of, props_of}
use Rattle.ob_script.specs.Returns.{IsBack, AreBack, EachBack}
use Rattle.ob_script.specs.Texts.{members_from, put_all, plain_data, prop_data}
use Rattle.ob_script.proofs.Props.{prop_data-is}
use Rattle.ob_script.proofs.Readable.{is_good, name_of, keys_of_props, values_of_props}
use Rattle.ob_script.proofs.Utf16.{same_text}

pub parts : (a b : Bool) → (a && b) ≡ true → (a ≡ true) × (b ≡ true)
parts true true h = (refl, refl)
parts true false h = (refl, h)
parts false b h = absurd (true≢false (sym h))

-- ---- integers

below : (m : ℕ) → nat_le m 9007199254740991 ≡ true → nat_lt m (2 ^ 63) ≡ true
below m h = grind (arith, nat_tests)

integer_back : (n : ℤ) → is_in_range n ≡ true → integer_of (of_integer n) ≡ Ok (plain.Int n)
unfolding integer_of
integer_back (pos m) h = rw (below m h, h) refl
integer_back (negsuc m) h = rw h refl

readable-Int : (n : ℤ) → is_readable (plain.Int n) ≡ is_in_range n
readable-Int n = search (rules, the_lemmas)

data-Int : (n : ℤ) → plain_data (plain.Int n) ≡ number (of_integer n)
data-Int n = search (rules, the_lemmas)

pub integer_is_back : (n : ℤ) → IsBack (plain.Int n)
integer_is_back n h = rw (data-Int n) (integer_back n (sym (readable-Int n) ∙ h))

-- ---- arrays

cons_back : (p : Plain) (ps : List Plain) → IsBack p → AreBack ps → AreBack (p ∷ ps)
cons_back p ps b bs h =
    let k = parts (is_readable p) (are_all (map is_readable ps)) h in rw (b k.0, bs k.1) refl

pub more_back : (ps : List Plain) (i : ℕ) (p : Plain) → i < length ps → p ≡ get_or ps i p → IsBack p → AreBack (drop (i + 1) ps) → AreBack (drop i ps)
more_back ps i p l e b h =
    let P : List Plain → Type 0 = λ qs. AreBack qs in
    let k : p ∷ drop (i + 1) ps ≡ drop i ps = ap (λ q. q ∷ drop (i + 1) ps) e ∙ sym (drop_more ps i p l) in
    subst P k (cons_back p (drop (i + 1) ps) b h)

pub end_back : (ps : List Plain) (i : ℕ) → length ps ≤ i → AreBack (drop i ps)
end_back ps i l =
    let P : List Plain → Type 0 = λ qs. AreBack qs in
    let none : AreBack [] = λ h. refl in
    subst P (sym (drop_of_length-le ps l)) none

-- ---- objects

pub more_each : (ps : List PlainProp) (i : ℕ) (p : PlainProp) → i < length ps → p ≡ get_or ps i p → IsBack p.value → EachBack (drop (i + 1) ps)
    → EachBack (drop i ps)
more_each ps i p l e b h =
    let P : List PlainProp → Type 0 = λ qs. EachBack qs in
    let k : p ∷ drop (i + 1) ps ≡ drop i ps = ap (λ q. q ∷ drop (i + 1) ps) e ∙ sym (drop_more ps i p l) in
    let both : EachBack (p ∷ drop (i + 1) ps) = (b, h) in
    subst P k both

pub end_each : (ps : List PlainProp) (i : ℕ) → length ps ≤ i → EachBack (drop i ps)
end_each ps i l =
    let P : List PlainProp → Type 0 = λ qs. EachBack qs in
    let none : EachBack [] = tt in
    subst P (sym (drop_of_length-le ps l)) none

members_back : (ps : List PlainProp) → EachBack ps → list_all is_good ps ≡ true → props_of (members_from (map prop_data ps)) ≡ Ok ps
members_back [] b h = refl
members_back (p ∷ ps) b h =
    let k = parts (is_good p) (list_all is_good ps) h in
    let g = parts (is_text p.key) (is_readable p.value) k.0 in
    rw (prop_data-is p, b.0 g.1, members_back ps b.1 k.1, same_text p.key g.0) refl

abbrev Pairs : Type 0
Pairs = List (List ℕ × Data)

abbrev firsts : Pairs → List (List ℕ)
firsts qs = map (λ (q : List ℕ × Data). q.0) qs

less_of : (o : Ordering) → match_ordering o true false false ≡ true → o ≡ Less
less_of Less h = refl
less_of Equal h = absurd (true≢false (sym h))
less_of Greater h = absurd (true≢false (sym h))

before_middle : (k : List ℕ) (done : Pairs) (q : List ℕ × Data) (rest : Pairs) → list_all (is_before k) (firsts (done ++ q ∷ rest)) ≡ true → is_before k q.0 ≡ true
before_middle k [] q rest h = (parts (is_before k q.0) (list_all (is_before k) (firsts rest)) h).0
before_middle k (d ∷ done) q rest h =
    before_middle k done q rest ((parts (is_before k d.0) (list_all (is_before k) (firsts (done ++ q ∷ rest))) h).1)

put_last : (done : Pairs) (q : List ℕ × Data) (rest : Pairs) → are_ascending (firsts (done ++ q ∷ rest)) ≡ true
    → put q.0 q.1 (members_from done) ≡ members_from (done ++ q ∷ [])
put_last [] q rest h = refl
put_last (d ∷ done) q rest h =
    let p = parts (list_all (is_before d.0) (firsts (done ++ q ∷ rest))) (are_ascending (firsts (done ++ q ∷ rest))) h in
    let b : slice_cmp nat_cmp d.0 q.0 ≡ Less = less_of (slice_cmp nat_cmp d.0 q.0) (before_middle d.0 done q rest p.0) in
    let above : slice_cmp nat_cmp q.0 d.0 ≡ Greater = nat_list_cmp_total.antisymm q.0 d.0 ∙ ap ordering_reverse b in
    rw above (ap (member d.0 d.1) (put_last done q rest p.1))

put_in_turn : (done qs : Pairs) → are_ascending (firsts (done ++ qs)) ≡ true → put_all (members_from done) qs ≡ members_from (done ++ qs)
put_in_turn done [] h = ap members_from (sym (append-nil done))
put_in_turn done (q ∷ qs) h =
    let e : (done ++ q ∷ []) ++ qs ≡ done ++ q ∷ qs = append_assoc done (q ∷ []) qs in
    rw (put_last done q qs h) (put_in_turn (done ++ q ∷ []) qs (ap (λ (rs : Pairs). are_ascending (firsts rs)) e ∙ h) ∙ ap members_from e)

firsts_of_props : (ps : List PlainProp) → firsts (map prop_data ps) ≡ map name_of ps
firsts_of_props [] = refl
firsts_of_props (p ∷ ps) = rw (prop_data-is p, firsts_of_props ps) refl

object_back : (ps : List PlainProp) → EachBack ps → is_object (map readable_prop ps) ≡ true → props_of (put_all no_members (map prop_data ps)) ≡ Ok ps
object_back ps b h =
    let k = parts (are_ascending (map (λ (p : List ℕ × Bool). p.0) (map readable_prop ps))) (list_all (λ (p : List ℕ × Bool). p.1) (map readable_prop ps)) h in
    let up : are_ascending (firsts (map prop_data ps)) ≡ true = ap are_ascending (firsts_of_props ps ∙ sym (keys_of_props ps)) ∙ k.0 in
    ap props_of (put_in_turn [] (map prop_data ps) up) ∙ members_back ps b (sym (values_of_props ps) ∙ k.1)

readable-Object : (ps : List PlainProp) → is_readable (plain.Object ps) ≡ is_object (map readable_prop ps)
readable-Object ps = search (rules, the_lemmas)

data-Object : (ps : List PlainProp) → plain_data (plain.Object ps) ≡ object (put_all no_members (map prop_data ps))
data-Object ps = search (rules, the_lemmas)

pub object_is_back : (ps : List PlainProp) → EachBack ps → IsBack (plain.Object ps)
object_is_back ps b h = rw (data-Object ps, object_back ps b (sym (readable-Object ps) ∙ h)) refl
