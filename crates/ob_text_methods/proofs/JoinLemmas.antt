-- The texts of elements, one after another.
use Rattle.std.proofs.Common.{◌≡◌, ℕ, ◌+◌, ◌-◌, ◌<◌, ◌≤◌, ◌^◌, min, List, [], ◌∷◌, ◌++◌, length, drop, take, get_or, Option, Some, None, refl, ap, sym, subst, ◌∙◌, arith, add-one, append_assoc, length-append, IsSome}
use Rattle.std.proofs.lemmas.Bool.{true≢false}
use Rattle.std.proofs.Math.Seq.{drop-cons}
use Rattle.std.proofs.lemmas.List.{drop_all, length-drop, take_all}
use Rattle.std.proofs.lemmas.Option.{none-some, same_Some}
use Rattle.std.specs.List.{flat_map, join_by}
use Rattle.std.specs.Option.{option_map, option_and_then}
use Rattle.std.specs.Prelude.{IfSome, OnOk, Result, Ok, Err, is_some}
use Rattle.ob_values.specs.Effects.{all_some}

some_more : {X Y : Type 0} (f : X → Option Y) (x : X) (xs : List X) (y : Y) → f x ≡ Some y → all_some f (x ∷ xs) ≡ option_map (λ ys. y ∷ ys) (all_some f xs)
some_more f x xs y e = ap (λ o. option_and_then (λ z. option_map (λ ys. z ∷ ys) (all_some f xs)) o) e

next : {X : Type 0} (xs : List X) (i : ℕ) (d : X) → i < length xs → drop i xs ≡ get_or xs i d ∷ drop (i + 1) xs
next xs i d l = drop-cons xs i d l ∙ ap (λ k. get_or xs i d ∷ drop k xs) (sym (add-one i))

len_by : (o : Option (List (List ℕ))) (b u : List ℕ) (total more : ℕ) → more ≡ min (total + min (length b + length u) (2 ^ 64 - 1)) (2 ^ 64 - 1)
    → option_map (λ texts. min (more + length (flat_map (λ x. b ++ x) texts)) (2 ^ 64 - 1)) o
    ≡ option_map (λ texts. min (total + length (flat_map (λ x. b ++ x) texts)) (2 ^ 64 - 1)) (option_map (λ ys. u ∷ ys) o)
len_by None b u total more e = refl
len_by (Some ts) b u total more e =
    let rest = flat_map (λ x. b ++ x) ts in
    let same : min (more + length rest) (2 ^ 64 - 1) ≡ min (total + length ((b ++ u) ++ rest)) (2 ^ 64 - 1) =
    omega (arith, e, length-append (b ++ u) rest, length-append b u) in ap (λ n. Some n) same

pub len_step : {X : Type 0} (f : X → Option (List ℕ)) (values : List X) (i : ℕ) (d : X) (n : ℕ) (b : List ℕ) (total more : ℕ) → i < length values
    → Some n ≡ option_map length (f (get_or values i d)) → more ≡ min (total + min (length b + n) (2 ^ 64 - 1)) (2 ^ 64 - 1)
    → option_map (λ texts. min (more + length (flat_map (λ x. b ++ x) texts)) (2 ^ 64 - 1)) (all_some f (drop (i + 1) values))
    ≡ option_map (λ texts. min (total + length (flat_map (λ x. b ++ x) texts)) (2 ^ 64 - 1)) (all_some f (drop i values))
len_step {X} f values i d n b total more l len e = by (f v) refl
  where
    v : X
    v = get_or values i d

    by : (o : Option (List ℕ)) → f v ≡ o
        → option_map (λ texts. min (more + length (flat_map (λ x. b ++ x) texts)) (2 ^ 64 - 1)) (all_some f (drop (i + 1) values))
        ≡ option_map (λ texts. min (total + length (flat_map (λ x. b ++ x) texts)) (2 ^ 64 - 1)) (all_some f (drop i values))
    by None q = absurd (none-some n (sym (len ∙ ap (option_map length) q)))
    by (Some u) q =
        let size : n ≡ length u = same_Some n (length u) (len ∙ ap (option_map length) q) in
        len_by (all_some f (drop (i + 1) values)) b u total more (e ∙ ap (λ k. min (total + min (length b + k) (2 ^ 64 - 1)) (2 ^ 64 - 1)) size)
        ∙ ap (option_map (λ texts. min (total + length (flat_map (λ x. b ++ x) texts)) (2 ^ 64 - 1)))
        (sym (ap (all_some f) (next values i d l) ∙ some_more f v (drop (i + 1) values) u q))

capped : (n : ℕ) → n < 2 ^ 64 → n ≡ min (n + 0) (2 ^ 64 - 1)
capped n l = omega arith

-- no more elements
pub len_end : {X : Type 0} (f : X → Option (List ℕ)) (values : List X) (i : ℕ) (b : List ℕ) (total : ℕ) → length values ≤ i → total < 2 ^ 64
    → Some total ≡ option_map (λ texts. min (total + length (flat_map (λ x. b ++ x) texts)) (2 ^ 64 - 1)) (all_some f (drop i values))
len_end f values i b total l fits =
    ap (λ n. Some n) (capped total fits)
    ∙ ap (λ xs. option_map (λ texts. min (total + length (flat_map (λ x. b ++ x) texts)) (2 ^ 64 - 1)) (all_some f xs)) (sym (drop_all i values l))

put_by : (o : Option (List (List ℕ))) (b u out more : List ℕ) → more ≡ (out ++ b) ++ u
    → option_map (λ texts. more ++ flat_map (λ x. b ++ x) texts) o ≡ option_map (λ texts. out ++ flat_map (λ x. b ++ x) texts) (option_map (λ ys. u ∷ ys) o)
put_by None b u out more e = refl
put_by (Some ts) b u out more e =
    let rest = flat_map (λ x. b ++ x) ts in
    let same : more ++ rest ≡ out ++ ((b ++ u) ++ rest) =
    ap (λ xs. xs ++ rest) (e ∙ append_assoc out b u) ∙ append_assoc out (b ++ u) rest in
    ap (λ xs. Some xs) same

-- the texts of an element and of those behind it
pub record HasTexts {X : Type 0} (f : X → Option (List ℕ)) (v : X) (rest : List X) : Type 0 where
  pub units : List ℕ
  pub is : f v ≡ Some units
  pub others : IsSome (all_some f rest)

pub has_texts : {X : Type 0} (f : X → Option (List ℕ)) (values : List X) (i : ℕ) (d : X) → i < length values → IsSome (all_some f (drop i values)) → HasTexts f (get_or values i d) (drop (i + 1) values)
has_texts {X} f values i d l h = by (f v) refl
  where
    v : X
    v = get_or values i d

    all : IsSome (all_some f (v ∷ drop (i + 1) values))
    all = subst (λ xs. IsSome (all_some f xs)) (next values i d l) h

    inner : (o : Option (List (List ℕ))) (u : List ℕ) → IsSome (option_map (λ ys. u ∷ ys) o) → IsSome o
    inner None u g = g
    inner (Some ts) u g = refl

    by : (o : Option (List ℕ)) → f v ≡ o → HasTexts f v (drop (i + 1) values)
    by None q = absurd (true≢false (sym all ∙ ap (λ o. is_some (option_and_then (λ z. option_map (λ ys. z ∷ ys) (all_some f (drop (i + 1) values))) o)) q))
    by (Some u) q = record {
      units = u;
      is = q;
      others = inner (all_some f (drop (i + 1) values)) u (subst IsSome (some_more f v (drop (i + 1) values) u q) all);
    }

pub put_step : {X : Type 0} (f : X → Option (List ℕ)) (values : List X) (i : ℕ) (d : X) (u b out more : List ℕ) → i < length values → f (get_or values i d) ≡ Some u → more ≡ (out ++ b) ++ u
    → option_map (λ texts. more ++ flat_map (λ x. b ++ x) texts) (all_some f (drop (i + 1) values)) ≡ option_map (λ texts. out ++ flat_map (λ x. b ++ x) texts) (all_some f (drop i values))
put_step f values i d u b out more l q e =
    put_by (all_some f (drop (i + 1) values)) b u out more e
    ∙ ap (option_map (λ texts. out ++ flat_map (λ x. b ++ x) texts)) (sym (ap (all_some f) (next values i d l) ∙ some_more f (get_or values i d) (drop (i + 1) values) u q))

behind_first : {X : Type 0} (values : List X) → take (length values - 1) (drop 1 values) ≡ drop 1 values
behind_first values = take_all (length values - 1) (drop 1 values) (omega (arith, length-drop 1 values))

first_and_more : {X E : Type 0} (result : Result (Unit {0}) E) (f : X → Option (List ℕ)) (values : List X) (d : X) (b out first more : List ℕ) → 0 < length values
    → IfSome (f (get_or values 0 d)) (λ u. first ≡ out ++ u) → OnOk result (IfSome (all_some f (drop 1 values)) (λ texts. more ≡ first ++ flat_map (λ x. b ++ x) texts))
    → OnOk result (IfSome (all_some f values) (λ texts. more ≡ out ++ join_by (λ u. u) b texts))
first_and_more (Err e) f values d b out first more l one rest = tt
first_and_more (Ok t) f [] d b out first more l one rest = absurd (omega arith)
first_and_more (Ok t) f (v ∷ vs) d b out first more l one rest = by (f v) (all_some f vs) one rest
  where
    by : (o : Option (List ℕ)) (p : Option (List (List ℕ))) → IfSome o (λ u. first ≡ out ++ u) → IfSome p (λ texts. more ≡ first ++ flat_map (λ x. b ++ x) texts)
        → IfSome (option_and_then (λ u. option_map (λ texts. u ∷ texts) p) o) (λ texts. more ≡ out ++ join_by (λ u. u) b texts)
    by None p h g = tt
    by (Some u) None h g = tt
    by (Some u) (Some texts) h g = g ∙ ap (λ xs. xs ++ flat_map (λ x. b ++ x) texts) h ∙ append_assoc out u (flat_map (λ x. b ++ x) texts)

-- the first element, and those behind it
pub put_both : {X E : Type 0} (result : Result (Unit {0}) E) (f : X → Option (List ℕ)) (values : List X) (d : X) (b out first more : List ℕ) → 0 < length values
    → IfSome (f (get_or values 0 d)) (λ u. first ≡ out ++ u)
    → OnOk result (IfSome (all_some f (take (length values - 1) (drop 1 values))) (λ texts. more ≡ first ++ flat_map (λ x. b ++ x) texts))
    → OnOk result (IfSome (all_some f values) (λ texts. more ≡ out ++ join_by (λ u. u) b texts))
put_both result f values d b out first more l one rest =
    first_and_more result f values d b out first more l one
    (subst (λ xs. OnOk result (IfSome (all_some f xs) (λ texts. more ≡ first ++ flat_map (λ x. b ++ x) texts))) (behind_first values) rest)
