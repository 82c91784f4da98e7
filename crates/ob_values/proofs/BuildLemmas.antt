-- Lemmas on the plain data of a value.
use Rattle.std.proofs.Common.{◌≡◌, ℕ, zero, suc, ◌+◌, ◌-◌, ◌<◌, ◌≤◌, List, [], ◌∷◌, ◌++◌, Option, Some, None, refl, sym, ap, ◌∙◌, append_assoc, arith, drop, length, get_or, add-one}
use Rattle.std.proofs.lemmas.List.{append-nil, drop_all}
use Rattle.std.proofs.Math.Seq.{drop-cons}
use Rattle.std.specs.Option.{option_map, option_and_then}
use Rattle.ob_items.specs.declared.item.Body.{Body}
use Rattle.ob_values.specs.Store.{Store}
use Rattle.ob_values.specs.PlainOf.{all_some, plain_leaf, plain_body, plain_value, plain_from, plain_at}

pub plain_from-leaf : (d : ℕ) (s : Store) (body : Body) → d ≡ 0 → plain_from d s body ≡ plain_leaf body
unfolding plain_from
plain_from-leaf zero s body e = refl
plain_from-leaf (suc n) s body e = absurd (omega arith)

pub plain_from-body : (d : ℕ) (s : Store) (body : Body) → 0 < d → plain_from d s body ≡ plain_body (plain_value (plain_at (d - 1) s)) body
unfolding plain_from
plain_from-body zero s body l = absurd (omega arith)
plain_from-body (suc n) s body l = let e : suc n - 1 ≡ n = omega arith in ap (λ k. plain_body (plain_value (plain_at k s)) body) (sym e)

next : {X : Type 0} (xs : List X) (i : ℕ) (d : X) → i < length xs → drop i xs ≡ get_or xs i d ∷ drop (i + 1) xs
next xs i d l = drop-cons xs i d l ∙ ap (λ k. get_or xs i d ∷ drop k xs) (sym (add-one i))

module _ {X Y : Type 0} (f : X → Option Y) where
  -- what was made, followed by what f makes of the rest
  abbrev pub made_with : List Y → List X → Option (List Y)
  made_with ys rest = option_map (λ zs. ys ++ zs) (all_some f rest)

  one_more : (ys : List Y) (y : Y) (o : Option (List Y)) → option_map (λ zs. ys ++ zs) (option_map (λ zs. y ∷ zs) o) ≡ option_map (λ zs. (ys ++ y ∷ []) ++ zs) o
  one_more ys y None = refl
  one_more ys y (Some zs) = ap Some (sym (append_assoc ys (y ∷ []) zs))

  pub made-more : (ys : List Y) (x : X) (rest : List X) (y : Y) → f x ≡ Some y → made_with (ys ++ y ∷ []) rest ≡ made_with ys (x ∷ rest)
  made-more ys x rest y e =
      sym (ap (λ o. option_map (λ zs. ys ++ zs) (option_and_then (λ z. option_map (λ zs. z ∷ zs) (all_some f rest)) o)) e
      ∙ one_more ys y (all_some f rest))

  pub made-none : (ys : List Y) (x : X) (rest : List X) → f x ≡ None → made_with ys (x ∷ rest) ≡ None
  made-none ys x rest e = ap (λ o. option_map (λ zs. ys ++ zs) (option_and_then (λ z. option_map (λ zs. z ∷ zs) (all_some f rest)) o)) e

  pub made-step : (xs : List X) (i : ℕ) (ys : List Y) (d : X) (y : Y) → i < length xs → f (get_or xs i d) ≡ Some y → made_with (ys ++ y ∷ []) (drop (i + 1) xs) ≡ made_with ys (drop i xs)
  made-step xs i ys d y l e = made-more ys (get_or xs i d) (drop (i + 1) xs) y e ∙ ap (made_with ys) (sym (next xs i d l))

  pub made-stop : (xs : List X) (i : ℕ) (ys : List Y) (d : X) → i < length xs → f (get_or xs i d) ≡ None → made_with ys (drop i xs) ≡ None
  made-stop xs i ys d l e = ap (made_with ys) (next xs i d l) ∙ made-none ys (get_or xs i d) (drop (i + 1) xs) e

  pub made-all : (xs : List X) (i : ℕ) (ys : List Y) → length xs ≤ i → made_with ys (drop i xs) ≡ Some ys
  made-all xs i ys e = ap (made_with ys) (drop_all i xs e) ∙ ap Some (append-nil ys)
