-- Names, each once.
use Rattle.std.proofs.Common.{◌≡◌, ℕ, ◌+◌, ◌<◌, ◌≤◌, Bool, true, false, not, cond, Option, Some, None, nat_lt, length, arith, List, [], ◌∷◌, ◌++◌, map, fold, refl, ap, sym, ◌∙◌, bytes_eq, if◌then◌else◌, ◌||◌}
use Rattle.std.specs.List.{list_any, filter, position, position_or_len}
use Rattle.std.proofs.lemmas.Bool.Decides.{Decides-ltb}
use Rattle.std.proofs.lemmas.List.Sums.{prefix_len-le-length}
use Rattle.ob_tree.specs.Scopes.{Mention, Meaning, Free, Local, Captured}
use Rattle.ob_tree.specs.Names.{Referred, same_name, with_one, each_once, is_unbound, is_free, referred, free_in}
use Rattle.ob_names.specs.Forms.{name_form, name_ref}
use Rattle.ob_names.specs.Sets.{same_ref, with_free}
use Rattle.ob_names.specs.declared.form.NameRef.{NameRef}
use Rattle.ob_tree_types.specs.declared.cell.SpecForm.{SpecForm}
use Rattle.ob_tree_types.specs.declared.cell.SpecForm.TheVariants as forms

-- a list with one more, seen through a function that keeps what is the same
module _ {A B : Type 0} (f : A → B) (same : A → A → Bool) (alike : B → B → Bool) (keeps : (a b : A) → alike (f a) (f b) ≡ same a b) where
  any_through : (x : A) (xs : List A) → list_any (alike (f x)) (map f xs) ≡ list_any (same x) xs
  any_through x [] = refl
  any_through x (y ∷ ys) = ap (λ b. b || list_any (alike (f x)) (map f ys)) (keeps x y) ∙ ap (λ b. same x y || b) (any_through x ys)

  push_through : (xs : List A) (x : A) → map f (xs ++ x ∷ []) ≡ map f xs ++ f x ∷ []
  push_through [] x = refl
  push_through (y ∷ ys) x = ap (λ l. f y ∷ l) (push_through ys x)

  pub one_through : (xs : List A) (x : A) → with_one alike (map f xs) (f x) ≡ map f (with_one same xs x)
  one_through xs x = ap (λ b. if b then map f xs else map f xs ++ f x ∷ []) (any_through x xs) ∙ by (list_any (same x) xs)
    where
      by : (b : Bool) → (if b then map f xs else map f xs ++ f x ∷ []) ≡ map f (if b then xs else xs ++ x ∷ [])
      by true = refl
      by false = sym (push_through xs x)

-- where something stands in a list, seen through such a function
module _ {A B : Type 0} (f : A → B) (same : A → A → Bool) (alike : B → B → Bool) (keeps : (a b : A) → alike (f a) (f b) ≡ same a b) where
  pub place_through : (x : A) (xs : List A) → position_or_len (alike (f x)) (map f xs) ≡ position_or_len (same x) xs
  place_through x [] = refl
  place_through x (y ∷ ys) =
      ap (λ b. cond (not b) (1 + position_or_len (alike (f x)) (map f ys)) 0) (keeps x y) ∙ ap (λ n. cond (not (same x y)) (1 + n) 0) (place_through x ys)

pub found_place : {A : Type 0} (p : A → Bool) (xs : List A) (i : ℕ) → Some i ≡ position p xs → i ≡ position_or_len p xs
found_place p xs i h = by (nat_lt (position_or_len p xs) (length xs)) h
  where
    by : (b : Bool) → Some i ≡ cond b (Some (position_or_len p xs)) None → i ≡ position_or_len p xs
    by true e = cc
    by false e = cc

pub no_place : {A : Type 0} (p : A → Bool) (xs : List A) → None ≡ position p xs → length xs ≡ position_or_len p xs
no_place p xs h = let le = prefix_len-le-length (λ x. not (p x)) xs in by (nat_lt (position_or_len p xs) (length xs)) (Decides-ltb (position_or_len p xs) (length xs)).1 h le
  where
    by : (b : Bool) → (position_or_len p xs < length xs → b ≡ true) → None ≡ cond b (Some (position_or_len p xs)) None → position_or_len p xs ≤ length xs → length xs ≡ position_or_len p xs
    by true t e le = cc
    by false t e le = let no : position_or_len p xs < length xs → ⊥ = λ l. (let f : false ≡ true = t l in cc) in omega arith

same_forms : (a b : SpecForm) (x y : List ℕ) → same_ref (name_ref (record { form = a; name = x })) (name_ref (record { form = b; name = y })) ≡ same_name (record { form = a; name = x }) (record { form = b; name = y })
same_forms forms.Plain forms.Plain x y = refl
same_forms forms.Plain forms.Viewof x y = refl
same_forms forms.Plain forms.Mutable x y = refl
same_forms forms.Viewof forms.Plain x y = refl
same_forms forms.Viewof forms.Viewof x y = refl
same_forms forms.Viewof forms.Mutable x y = refl
same_forms forms.Mutable forms.Plain x y = refl
same_forms forms.Mutable forms.Viewof x y = refl
same_forms forms.Mutable forms.Mutable x y = refl

pub same_refs : (a b : Referred) → same_ref (name_ref a) (name_ref b) ≡ same_name a b
same_refs a b = same_forms a.form b.form a.name b.name

with_free_is : (m : Mention) (xs : List Referred) → with_free (map name_ref xs) m ≡ map name_ref (if is_free m then with_one same_name xs (referred m) else xs)
with_free_is m xs = by (is_free m)
  where
    by : (b : Bool) → (if b then with_one same_ref (map name_ref xs) (name_ref (referred m)) else map name_ref xs) ≡ map name_ref (if b then with_one same_name xs (referred m) else xs)
    by true = one_through name_ref same_name same_ref same_refs xs (referred m)
    by false = refl

-- one by one, or those that are free first and then one by one
pub free_from : (ms : List Mention) (xs : List Referred) → fold with_free (map name_ref xs) ms ≡ map name_ref (fold (with_one same_name) xs (map referred (filter is_free ms)))
free_from [] xs = refl
free_from (m ∷ ms) xs = ap (λ l. fold with_free l ms) (with_free_is m xs) ∙ by (is_free m) (free_from ms (with_one same_name xs (referred m))) (free_from ms xs)
  where
    by : (b : Bool) → fold with_free (map name_ref (with_one same_name xs (referred m))) ms ≡ map name_ref (fold (with_one same_name) (with_one same_name xs (referred m)) (map referred (filter is_free ms)))
        → fold with_free (map name_ref xs) ms ≡ map name_ref (fold (with_one same_name) xs (map referred (filter is_free ms)))
        → fold with_free (map name_ref (if b then with_one same_name xs (referred m) else xs)) ms
        ≡ map name_ref (fold (with_one same_name) xs (map referred (if b then m ∷ filter is_free ms else filter is_free ms)))
    by true p q = p
    by false p q = q

pub free_once : (ms : List Mention) → fold with_free [] ms ≡ map name_ref (free_in ms)
free_once ms = free_from ms []
