-- A table of texts as the list of its keys and values.
use Rattle.std.proofs.Common.{◌≡◌, ℕ, List, [], ◌∷◌, refl, ap, nat_eq, map, Bool, true, false, cond, Some, decimal}
use Rattle.std.specs.Cmp.Lexicographic.{pointwise}
use Rattle.std.specs.Map.{lookup, keys_of, values_of}
use Rattle.indexmap.specs.IndexMap.{insert_entry}

module _ {K V : Type 0} (f : K → List ℕ) where
  pub lookup-map : (key : List ℕ) (es : List (K × V)) → lookup (pointwise nat_eq key) (map (λ e. (f e.0, e.1)) es) ≡ lookup (λ k. pointwise nat_eq key (f k)) es
  lookup-map key [] = refl
  lookup-map key (e ∷ es) = ap (λ o. cond (pointwise nat_eq key (f e.0)) (Some e.1) o) (lookup-map key es)

  pub insert_entry-map : (es : List (K × V)) (k : K) (v : V) → map (λ e. (f e.0, e.1)) (insert_entry (λ x y. pointwise nat_eq (f x) (f y)) es k v) ≡ insert_entry (pointwise nat_eq) (map (λ e. (f e.0, e.1)) es) (f k) v
  insert_entry-map [] k v = refl
  insert_entry-map (e ∷ es) k v = by (pointwise nat_eq (f k) (f e.0)) (insert_entry-map es k v)
    where
      by : (b : Bool) → map (λ e. (f e.0, e.1)) (insert_entry (λ x y. pointwise nat_eq (f x) (f y)) es k v) ≡ insert_entry (pointwise nat_eq) (map (λ e. (f e.0, e.1)) es) (f k) v
          → map (λ e. (f e.0, e.1)) (cond b ((e.0, v) ∷ es) (e ∷ insert_entry (λ x y. pointwise nat_eq (f x) (f y)) es k v)) ≡ cond b ((f e.0, v) ∷ map (λ e. (f e.0, e.1)) es) ((f e.0, e.1) ∷ insert_entry (pointwise nat_eq) (map (λ e. (f e.0, e.1)) es) (f k) v)
      by true h = refl
      by false h = ap (λ xs. (f e.0, e.1) ∷ xs) h

module _ {K V : Type 0} (f : K → List ℕ) where
  pub keys_of-map : (es : List (K × V)) → map f (keys_of es) ≡ keys_of (map (λ e. (f e.0, e.1)) es)
  keys_of-map [] = refl
  keys_of-map (e ∷ es) = ap (λ xs. f e.0 ∷ xs) (keys_of-map es)

  pub values_of-map : (es : List (K × V)) → values_of es ≡ values_of (map (λ e. (f e.0, e.1)) es)
  values_of-map [] = refl
  values_of-map (e ∷ es) = ap (λ xs. e.1 ∷ xs) (values_of-map es)

pub decimal_keys : {V : Type 0} (es : List (ℕ × V)) → map decimal (keys_of es) ≡ map (λ e. decimal e.0) es
decimal_keys [] = refl
decimal_keys (e ∷ es) = ap (λ xs. decimal e.0 ∷ xs) (decimal_keys es)
