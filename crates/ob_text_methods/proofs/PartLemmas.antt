-- The parts of a text between pieces: one more, or the last.
use Rattle.std.proofs.Common.{◌≡◌, ℕ, zero, suc, ◌+◌, ◌-◌, ◌*◌, ◌<◌, ◌≤◌, ◌^◌, min, List, [], ◌∷◌, ◌++◌, length, take, drop, Option, Some, None, refl, ap, sym, ◌∙◌, arith, length-drop, length-take-le, append_assoc}
use Rattle.std.proofs.lemmas.List.Sums.{sum_by-cons}
use Rattle.std.proofs.lemmas.Bool.Decides.{nat_tests}
use Rattle.std.specs.Option.{option_map_or}
use Rattle.std.specs.Prelude.{map}
use Rattle.ob_values.specs.TextMethods.{first_place, cut, split_by, texts_cost}
use Rattle.ob_text_methods.specs.Parts.{array_cost}
use Rattle.ob_text_methods.proofs.PieceLemmas.{first_place_none}
use Rattle.ob_values.specs.Operators.{limited}
use Rattle.ob_values.specs.Store.{text_cost}

-- a piece of some units stands nowhere in the empty text
none_in_empty : (piece : List ℕ) → 0 < length piece → first_place [] piece ≡ None
none_in_empty piece some = sym (first_place_none [] piece (λ j stands. omega (arith, stands.within)))

cut_empty : (n : ℕ) (piece : List ℕ) → 0 < length piece → cut n piece [] ≡ [] ∷ []
unfolding cut
cut_empty zero piece some = refl
cut_empty (suc n) piece some =
    ap (λ o. option_map_or (λ k. take k [] ∷ cut n piece (drop (k + length piece) [])) o ([] ∷ [])) (none_in_empty piece some)

-- the parts so far as a piece is found, or none is
cut_next : (n : ℕ) (piece units : List ℕ) (o : Option ℕ) → first_place units piece ≡ o
    → cut (suc n) piece units ≡ option_map_or (λ k. take k units ∷ cut n piece (drop (k + length piece) units)) o (units ∷ [])
unfolding cut
cut_next n piece units o e = ap (λ o. option_map_or (λ k. take k units ∷ cut n piece (drop (k + length piece) units)) o (units ∷ [])) e

-- as many pieces as the text has units are enough
cut_enough : (n m : ℕ) (piece units : List ℕ) → 0 < length piece → length units ≤ n → length units ≤ m → cut n piece units ≡ cut m piece units
cut_enough n m piece [] some ln lm = cut_empty n piece some ∙ sym (cut_empty m piece some)
cut_enough zero m piece (u ∷ us) some ln lm = absurd (omega arith)
cut_enough (suc n) zero piece (u ∷ us) some ln lm = absurd (omega arith)
cut_enough (suc n) (suc m) piece (u ∷ us) some ln lm = by (first_place (u ∷ us) piece) refl (λ rest l k. cut_enough n m piece rest some l k)
  where
    by : (o : Option ℕ) → first_place (u ∷ us) piece ≡ o → ((rest : List ℕ) → length rest ≤ n → length rest ≤ m → cut n piece rest ≡ cut m piece rest)
        → cut (suc n) piece (u ∷ us) ≡ cut (suc m) piece (u ∷ us)
    by None e again = cut_next n piece (u ∷ us) None e ∙ sym (cut_next m piece (u ∷ us) None e)
    by (Some k) e again =
        let rest = drop (k + length piece) (u ∷ us) in
        let less : length rest ≡ length (u ∷ us) - (k + length piece) = length-drop (k + length piece) (u ∷ us) in
        cut_next n piece (u ∷ us) (Some k) e ∙ ap (λ parts. take k (u ∷ us) ∷ parts) (again rest (omega arith) (omega arith)) ∙ sym (cut_next m piece (u ∷ us) (Some k) e)

pub cut_found : (piece units : List ℕ) (k : ℕ) → 0 < length piece → Some k ≡ first_place units piece → k + length piece ≤ length units
    → cut (length units) piece units ≡ take k units ∷ cut (length (drop (k + length piece) units)) piece (drop (k + length piece) units)
cut_found piece [] k some e within = absurd (omega arith)
cut_found piece (u ∷ us) k some e within =
    let rest = drop (k + length piece) (u ∷ us) in
    let less : length rest ≡ length (u ∷ us) - (k + length piece) = length-drop (k + length piece) (u ∷ us) in
    cut_next (length us) piece (u ∷ us) (Some k) (sym e) ∙ ap (λ parts. take k (u ∷ us) ∷ parts) (cut_enough (length us) (length rest) piece rest some (omega arith) (omega arith))

pub cut_ended : (piece units : List ℕ) → 0 < length piece → None ≡ first_place units piece → cut (length units) piece units ≡ units ∷ []
cut_ended piece [] some e = cut_empty 0 piece some
cut_ended piece (u ∷ us) some e = cut_next (length us) piece (u ∷ us) None (sym e)

-- the number of parts and their elements together
abbrev pub whole_cost : List (List ℕ) → ℕ
whole_cost parts = length parts + texts_cost parts

cost_cons : (units : List ℕ) (parts : List (List ℕ)) → whole_cost (units ∷ parts) ≡ 1 + text_cost (length units) + whole_cost parts
cost_cons units parts = omega (arith, sum_by-cons (λ (n : ℕ). n) (text_cost (length units)) (map (λ (u : List ℕ). text_cost (length u)) parts))

pub cost_found : (piece units : List ℕ) (k : ℕ) → 0 < length piece → Some k ≡ first_place units piece → k + length piece ≤ length units
    → whole_cost (cut (length units) piece units) ≡ 1 + text_cost k + whole_cost (cut (length (drop (k + length piece) units)) piece (drop (k + length piece) units))
cost_found piece units k some e within =
    let rest = cut (length (drop (k + length piece) units)) piece (drop (k + length piece) units) in
    let taken : length (take k units) ≡ k = length-take-le k units (omega arith) in
    ap whole_cost (cut_found piece units k some e within) ∙ cost_cons (take k units) rest ∙ ap (λ n. 1 + text_cost n + whole_cost rest) taken

pub cost_ended : (piece units : List ℕ) → 0 < length piece → None ≡ first_place units piece → whole_cost (cut (length units) piece units) ≡ 1 + text_cost (length units)
cost_ended piece units some e = ap whole_cost (cut_ended piece units some e) ∙ cost_cons units [] ∙ omega arith

-- the cost that is counted so far, and that of what is left
pub record IsCounting (piece units rest : List ℕ) (total : ℕ) : Type 0 where
  pub within : length rest ≤ length units
  pub cost : min (total + whole_cost (cut (length rest) piece rest)) (2 ^ 64 - 1) ≡ min (whole_cost (cut (length units) piece units)) (2 ^ 64 - 1)

pub counting_more : (piece units rest : List ℕ) (total k more : ℕ) → 0 < length piece → Some k ≡ first_place rest piece → k + length piece ≤ length rest → IsCounting piece units rest total
    → more ≡ min (total + (1 + text_cost k)) (2 ^ 64 - 1) → IsCounting piece units (drop (k + length piece) rest) more
counting_more piece units rest total k more some e within h is = record {
  within = omega (arith, length-drop (k + length piece) rest, h.within);
  cost = omega (arith, cost_found piece rest k some e within, h.cost);
}

pub counting_ended : (piece units rest : List ℕ) (total all : ℕ) → 0 < length piece → None ≡ first_place rest piece → IsCounting piece units rest total
    → all ≡ min (total + (1 + text_cost (length rest))) (2 ^ 64 - 1) → all ≡ min (whole_cost (cut (length units) piece units)) (2 ^ 64 - 1)
counting_ended piece units rest total all some e h is = omega (arith, cost_ended piece rest some e, h.cost)

-- the parts so far, and those of what is left
pub record IsCutting (piece units rest : List ℕ) (parts : List (List ℕ)) : Type 0 where
  pub within : length rest ≤ length units
  pub all : parts ++ cut (length rest) piece rest ≡ cut (length units) piece units

pub cutting_more : (piece units rest : List ℕ) (parts more : List (List ℕ)) (k : ℕ) → 0 < length piece → Some k ≡ first_place rest piece → k + length piece ≤ length rest
    → IsCutting piece units rest parts → more ≡ parts ++ take k rest ∷ [] → IsCutting piece units (drop (k + length piece) rest) more
cutting_more piece units rest parts more k some e within h is =
    let left = drop (k + length piece) rest in
    let behind = cut (length left) piece left in record {
      within = omega (arith, length-drop (k + length piece) rest, h.within);
      all = ap (λ xs. xs ++ behind) is ∙ append_assoc parts (take k rest ∷ []) behind ∙ ap (λ xs. parts ++ xs) (sym (cut_found piece rest k some e within)) ∙ h.all;
    }

pub cutting_ended : (piece units rest : List ℕ) (parts more : List (List ℕ)) → 0 < length piece → None ≡ first_place rest piece → IsCutting piece units rest parts
    → more ≡ parts ++ rest ∷ [] → more ≡ cut (length units) piece units
cutting_ended piece units rest parts more some e h is = is ∙ ap (λ xs. parts ++ xs) (sym (cut_ended piece rest some e)) ∙ h.all

-- a piece that is longer than the text
pub cut_longer : (piece units : List ℕ) → length units < length piece → split_by piece units ≡ units ∷ []
cut_longer [] units l = absurd (omega arith)
cut_longer (p ∷ ps) units l = cut_ended (p ∷ ps) units (omega arith) (first_place_none units (p ∷ ps) (λ j stands. omega (arith, stands.within)))

-- a text for each unit
pub units_cost : (units : List ℕ) → array_cost (map (λ unit. unit ∷ []) units) ≡ 2 * length units + 1
units_cost [] = refl
units_cost (u ∷ us) = omega (arith, sum_by-cons (λ (n : ℕ). n) 1 (map (λ (u : List ℕ). text_cost (length u)) (map (λ (unit : ℕ). unit ∷ []) us)), units_cost us)

-- what is counted up to the end of its type
pub limited_capped : {X : Type 0} (elements left cost counted : ℕ) (x : X) → counted ≡ min cost (2 ^ 64 - 1) → limited elements left counted 0 x ≡ limited elements left cost 0 x
limited_capped elements left cost counted x e = grind (arith, nat_tests)
