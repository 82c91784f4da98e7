-- Pairs of names, each once.
use Rattle.std.proofs.Common.{◌≡◌, ℕ, Bool, true, false, List, [], ◌∷◌, ◌++◌, refl, ap, sym, ◌∙◌, ◌&&◌, ◌||◌, bytes_eq, map, fold, if◌then◌else◌}
use Rattle.std.specs.List.{list_any, flat_map}
use denote.Ref.{Bor}
use Rattle.ob_names.specs.contracts.form.NameFormPartialEq.TheImpl as form_eq
use Rattle.ob_names.specs.Sets.{same_name_form, same_ref}
use Rattle.ob_names.specs.declared.form.NameForm.{NameForm}
use Rattle.ob_names.specs.declared.form.NameForm.TheVariants as names
use Rattle.ob_tree.specs.Names.{with_one}
use Rattle.ob_tree_types.specs.declared.cell.ImportSpec.{ImportSpec}
use Rattle.ob_cells.specs.declared.def.Pair.{Pair}
use Rattle.ob_cells.specs.Imports.{same_pair, pair, pairs_of}
use Rattle.ob_cells.specs.PairKeys.{pair_of}

abbrev Key : Type 0
Key = NameForm × Bor (List ℕ) × Bor (List ℕ)

abbrev pub same_key : Key → Key → Bool
same_key a b = (form_eq.ghosts.eq a.0 b.0 && bytes_eq a.1.now b.1.now) && bytes_eq a.2.now b.2.now

-- both names of a pair have its form, so the form counts once
forms_once : (a b : NameForm) (s t : Bool) → ((same_name_form a b && s) && (same_name_form a b && t)) ≡ ((form_eq.ghosts.eq a b && s) && t)
forms_once names.Plain names.Plain s t = refl
forms_once names.Plain names.Viewof s t = refl
forms_once names.Plain names.Mutable s t = refl
forms_once names.Plain names.Initial s t = refl
forms_once names.Viewof names.Plain s t = refl
forms_once names.Viewof names.Viewof s t = refl
forms_once names.Viewof names.Mutable s t = refl
forms_once names.Viewof names.Initial s t = refl
forms_once names.Mutable names.Plain s t = refl
forms_once names.Mutable names.Viewof s t = refl
forms_once names.Mutable names.Mutable s t = refl
forms_once names.Mutable names.Initial s t = refl
forms_once names.Initial names.Plain s t = refl
forms_once names.Initial names.Viewof s t = refl
forms_once names.Initial names.Mutable s t = refl
forms_once names.Initial names.Initial s t = refl

keys_same : (a b : Key) → same_pair (pair_of a) (pair_of b) ≡ same_key a b
keys_same a b = forms_once a.0 b.0 (bytes_eq a.1.now b.1.now) (bytes_eq a.2.now b.2.now)

any_through : (x : Key) (xs : List Key) → list_any (same_pair (pair_of x)) (map pair_of xs) ≡ list_any (same_key x) xs
any_through x [] = refl
any_through x (y ∷ ys) = ap (λ b. b || list_any (same_pair (pair_of x)) (map pair_of ys)) (keys_same x y) ∙ ap (λ b. same_key x y || b) (any_through x ys)

push_through : (xs : List Key) (x : Key) → map pair_of (xs ++ x ∷ []) ≡ map pair_of xs ++ pair_of x ∷ []
push_through [] x = refl
push_through (y ∷ ys) x = ap (λ l. pair_of y ∷ l) (push_through ys x)

-- a set with one key more is a list with one pair more
pub one_through : (xs : List Key) (x : Key) → with_one same_pair (map pair_of xs) (pair_of x) ≡ map pair_of (with_one same_key xs x)
one_through xs x = ap (λ b. if b then map pair_of xs else map pair_of xs ++ pair_of x ∷ []) (any_through x xs) ∙ by (list_any (same_key x) xs)
  where
    by : (b : Bool) → (if b then map pair_of xs else map pair_of xs ++ pair_of x ∷ []) ≡ map pair_of (if b then xs else xs ++ x ∷ [])
    by true = refl
    by false = sym (push_through xs x)

-- pairs that are added spec by spec
pub fold_on : (ps qs known : List Pair) → fold (with_one same_pair) (fold (with_one same_pair) known ps) qs ≡ fold (with_one same_pair) known (ps ++ qs)
fold_on [] qs known = refl
fold_on (p ∷ ps) qs known = fold_on ps qs (with_one same_pair known p)
