-- Plain data that was read can be read again.
use Rattle.std.proofs.Common.{◌≡◌, ℕ, List, [], ◌∷◌, ◌++◌, Bool, true, false, refl, sym, ap, ◌∙◌, map, rules, Ordering, Less, string_bytes, string_cmp, String, Global}
use Rattle.std.specs.Prelude.{◌&&◌}
use Rattle.std.specs.Ordering.{match_ordering}
use Rattle.std.specs.List.{list_all, AllByRecursion}
use Rattle.std.specs.List.Sorted.{IsStrictlySortedBy}
use Rattle.std.specs.Map.{keys_of}
use Rattle.std.proofs.lemmas.List.{append-nil, map-append}
use Rattle.std.proofs.lemmas.List.Folds.{list_all-append}
use Rattle.serde_json.proofs.Views.{Entry}
use Rattle.ob_base.specs.PlainData.{are_all}
use Rattle.ob_base.specs.declared.plain.Plain.{the_lemmas}
use Rattle.ob_base.specs.declared.plain.PlainProp.{PlainProp}
use Rattle.ob_script.specs.Forms.{is_text, is_before, are_ascending, is_object, is_readable, readable_prop}
use Rattle.ob_script.specs.Texts.{utf8}

pub readable_push : {X : Type 0} (f : X → Bool) (xs : List X) (x : X) → are_all (map f xs) ≡ true → f x ≡ true → are_all (map f (xs ++ x ∷ [])) ≡ true
readable_push f xs x h k =
    rw (map-append f xs (x ∷ []), list_all-append (λ b. b) (map f xs) (f x ∷ []), h, k) refl

pub all_push : {X : Type 0} (f : X → Bool) (xs : List X) (x : X) → list_all f xs ≡ true → f x ≡ true → list_all f (xs ++ x ∷ []) ≡ true
all_push f xs x h k = rw (list_all-append f xs (x ∷ []), h, k) refl

pub readable_prop-is : (p : PlainProp) → readable_prop p ≡ (utf8 p.key, is_text p.key && is_readable p.value)
readable_prop-is p = search (rules, the_lemmas)

-- whether a property can be read
abbrev pub is_good : PlainProp → Bool
is_good p = is_text p.key && is_readable p.value

abbrev pub name_of : PlainProp → List ℕ
name_of p = utf8 p.key

abbrev pub names : List Entry → List (List ℕ)
names es = map (λ (e : Entry). string_bytes e.0) es

before : (o : Ordering) → o ≡ Less → match_ordering o true false false ≡ true
before o e = rw e refl

all_before : (k : String Global) (es : List Entry) → AllByRecursion (λ y. string_cmp k y ≡ Less) (keys_of es)
    → list_all (is_before (string_bytes k)) (names es) ≡ true
all_before k [] h = refl
all_before k (e ∷ es) h = rw (before (string_cmp k e.0) h.0, all_before k es h.1) refl

-- the keys of a map ascend
pub names_ascend : (es : List Entry) → IsStrictlySortedBy string_cmp (keys_of es) → are_ascending (names es) ≡ true
unfolding IsStrictlySortedBy
names_ascend [] h = refl
names_ascend (e ∷ es) h = rw (all_before e.0 es h.0, names_ascend es h.1) refl

pub keys_of_props : (ps : List PlainProp) → map (λ (p : List ℕ × Bool). p.0) (map readable_prop ps) ≡ map name_of ps
keys_of_props [] = refl
keys_of_props (p ∷ ps) = rw (readable_prop-is p, keys_of_props ps) refl

pub values_of_props : (ps : List PlainProp) → list_all (λ (p : List ℕ × Bool). p.1) (map readable_prop ps) ≡ list_all is_good ps
values_of_props [] = refl
values_of_props (p ∷ ps) = rw (readable_prop-is p, values_of_props ps) refl

pub object_from_keys : (ps : List PlainProp) (es : List Entry) → map name_of ps ≡ names es → list_all is_good ps ≡ true
    → IsStrictlySortedBy string_cmp (keys_of es) → is_object (map readable_prop ps) ≡ true
object_from_keys ps es k g h =
    rw (keys_of_props ps, k, names_ascend es h, values_of_props ps, g) refl

pub good_push : (ps : List PlainProp) (p : PlainProp) → list_all is_good ps ≡ true → is_text p.key ≡ true → is_readable p.value ≡ true
    → list_all is_good (ps ++ p ∷ []) ≡ true
good_push ps p h t r = rw (list_all-append is_good ps (p ∷ []), h, t, r) refl

pub object_at_end : (ps : List PlainProp) (left es : List Entry) → left ≡ [] → map name_of ps ++ names left ≡ names es → list_all is_good ps ≡ true
    → IsStrictlySortedBy string_cmp (keys_of es) → is_object (map readable_prop ps) ≡ true
object_at_end ps left es e n g h =
    let k : map name_of ps ≡ names es = sym (append-nil (map name_of ps)) ∙ (ap (λ (xs : List Entry). map name_of ps ++ names xs) (sym e) ∙ n) in
    object_from_keys ps es k g h
