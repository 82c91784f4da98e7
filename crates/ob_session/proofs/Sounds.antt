-- What holds of every world goes on to hold.
use Rattle.std.proofs.Common.{◌≡◌, ◌<◌, ◌⊎◌, inl, inr, ℕ, zero, suc, ◌+◌, List, [], ◌∷◌, ◌++◌, length, map, Bool, None, Some, refl, sym, ap, ◌∙◌, arith, subst}
use Rattle.std.proofs.lemmas.List.{map-append, length-map}
use Rattle.std.specs.Prelude.{slice_get, IfSome}
use Rattle.std.specs.declared.option.Option.{Option}
use Rattle.ob_session.specs.declared.world.Cell.{Cell}
use Rattle.ob_session.specs.Inputs.{IsBuiltUp}
use Rattle.ob_session.specs.Known.{names_of}
use Rattle.ob_session.specs.Live.{live_from}

-- there is a flag for each cell
pub length-live_from : (place : ℕ) (cells : List Cell) (observed : List Bool) → length observed ≡ length cells → length (live_from place cells observed) ≡ length cells
length-live_from place [] observed e = refl
length-live_from place (c ∷ cells) [] e = absurd (omega arith)
length-live_from place (c ∷ cells) (o ∷ observed) e = ap suc (length-live_from (place + 1) cells observed (omega arith))

at_end : (xs : List (Option ℕ)) (y z : Option ℕ) (p : ℕ) → slice_get (xs ++ y ∷ []) p ≡ Some z → (slice_get xs p ≡ Some z) ⊎ ((p ≡ length xs) × (y ≡ z))
at_end [] y z zero e = inr (refl, (cc))
at_end [] y z (suc p) e = cc
at_end (x ∷ xs) y z zero e = inl e
at_end (x ∷ xs) y z (suc p) e = elim (at_end xs y z p e) as (λ _. (slice_get (x ∷ xs) (suc p) ≡ Some z) ⊎ ((suc p ≡ length (x ∷ xs)) × (y ≡ z)))
    [ inl h ↦ inl h | inr h ↦ inr (ap suc h.0, h.1) ]

below_of : (input : Option ℕ) (n q : ℕ) → IfSome input (λ place. place < n) → input ≡ Some q → q < n
below_of None n q h e = cc
below_of (Some x) n q h e = let same : x ≡ q = cc in subst (λ y. y < n) same h

built_up_end : (inputs : List (Option ℕ)) (input : Option ℕ) → IsBuiltUp inputs → IfSome input (λ place. place < length inputs) → IsBuiltUp (inputs ++ input ∷ [])
built_up_end inputs input b h p q e = elim (at_end inputs input (Some q) p e) as (λ _. q < p)
    [ inl there ↦ b p q there | inr last ↦ subst (λ n. q < n) (sym last.0) (below_of input (length inputs) q h last.1) ]

-- a cell that reads one before it goes behind
pub built_up_push : (cells : List Cell) (c : Cell) → IsBuiltUp (map (λ (x : Cell). x.input) cells) → IfSome c.input (λ place. place < length cells) → IsBuiltUp (map (λ (x : Cell). x.input) (cells ++ c ∷ []))
built_up_push cells c b h =
    subst IsBuiltUp (sym (map-append (λ (x : Cell). x.input) cells (c ∷ [])))
    (built_up_end (map (λ (x : Cell). x.input) cells) c.input b (subst (λ n. IfSome c.input (λ place. place < n)) (sym (length-map cells (λ (x : Cell). x.input))) h))

-- the ids and names with those of one more
pub names_push : (cells : List Cell) (c : Cell) → names_of (cells ++ c ∷ []) ≡ record { ids = map (λ (x : Cell). x.id) cells ++ c.id ∷ []; names = map (λ (x : Cell). x.name) cells ++ c.name ∷ [] }
names_push cells c =
    ap (λ l. record { ids = l; names = map (λ (x : Cell). x.name) (cells ++ c ∷ []) }) (map-append (λ (x : Cell). x.id) cells (c ∷ []))
    ∙ ap (λ l. record { ids = map (λ (x : Cell). x.id) cells ++ c.id ∷ []; names = l }) (map-append (λ (x : Cell). x.name) cells (c ∷ []))
