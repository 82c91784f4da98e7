-- Texts that are made one after another.
use Rattle.std.proofs.Common.{◌≡◌, ℕ, suc, ◌+◌, ◌<◌, Bool, true, false, Result, Ok, Err, nat_lt, drop, get_or, List, [], ◌∷◌, ◌++◌, length, refl, ap, sym, subst, ◌∙◌, arith, append_assoc}
use Rattle.std.proofs.lemmas.List.{drop_more}
use Rattle.std.proofs.lemmas.List.Sums.{sum_by-cons}
use Rattle.std.specs.Prelude.{map, if◌then◌else◌}
use Rattle.std.specs.Result.{result_map_both}
use Rattle.ob_items.specs.declared.error.OpError.{OpError}
use Rattle.ob_items.specs.declared.error.OpError.TheVariants as E
use Rattle.ob_items.specs.declared.value.RegionKey.{RegionKey}
use Rattle.ob_items.specs.declared.value.Value.{Value}
use Rattle.ob_items.specs.declared.value.Value.TheVariants as V
use Rattle.ob_text_methods.specs.Parts.{array_cost, parts_answer}
use Rattle.ob_values.specs.Effects.{with_text, answer_of}
use Rattle.ob_values.specs.Fixed.{KeepsFixed}
use Rattle.ob_values.specs.Operators.{limited}
use Rattle.ob_values.specs.Sound.{AddsValues}
use Rattle.ob_values.specs.Store.{Store, IsOpen, elements_in, next_ref, text_cost}
use Rattle.ob_values.specs.TextMethods.{with_texts, text_values, texts_cost, gives_texts}
use Rattle.ob_values.proofs.FixedLemmas.{KeepsFixed-refl, KeepsFixed-then}
use Rattle.ob_values.proofs.PlacedLemmas.{AddsValues-none, AddsValues-push}

-- the values of the texts that were made, and those that are left
pub record IsPlacing (region : RegionKey) (old now : Store) (values : List Value) (texts rest : List (List ℕ)) : Type 0 where
  pub all : values ++ text_values region now rest ≡ text_values region old texts
  pub store : with_texts region now rest ≡ with_texts region old texts
  pub opened : IsOpen now region
  pub elements : elements_in now region + texts_cost rest ≡ elements_in old region + texts_cost texts
  pub sound : AddsValues old now values
  pub fixed : KeepsFixed old now

-- one text that is made
pub record Places (region : RegionKey) (old new : Store) (units : List ℕ) (value : Value) : Type 0 where
  pub value_is : value ≡ V.Ref (next_ref old region)
  pub store : new ≡ with_text region old units
  pub opened : IsOpen new region
  pub elements : elements_in new region ≡ elements_in old region + text_cost (length units)
  pub sound : AddsValues old new (value ∷ [])
  pub fixed : KeepsFixed old new

pub placing_none : (region : RegionKey) (s : Store) (texts : List (List ℕ)) → IsOpen s region → IsPlacing region s s [] texts texts
placing_none region s texts opened = record {
  all = refl;
  store = refl;
  opened = opened;
  elements = refl;
  sound = AddsValues-none s s refl;
  fixed = KeepsFixed-refl s s refl;
}

pub texts_cost-cons : (units : List ℕ) (texts : List (List ℕ)) → texts_cost (units ∷ texts) ≡ text_cost (length units) + texts_cost texts
texts_cost-cons units texts = sum_by-cons (λ (n : ℕ). n) (text_cost (length units)) (map (λ (u : List ℕ). text_cost (length u)) texts)

pub placing_more : (region : RegionKey) (old now new : Store) (values more : List Value) (texts rest : List (List ℕ)) (units : List ℕ) (value : Value) → IsPlacing region old now values texts (units ∷ rest)
    → Places region now new units value → more ≡ values ++ value ∷ [] → IsPlacing region old new more texts rest
placing_more region old now new values more texts rest units value h p is = record {
  all =
      ap (λ xs. xs ++ text_values region new rest) is ∙ append_assoc values (value ∷ []) (text_values region new rest)
      ∙ ap (λ v. values ++ v ∷ text_values region new rest) p.value_is
      ∙ ap (λ s. values ++ V.Ref (next_ref now region) ∷ text_values region s rest) p.store
      ∙ h.all;
  store = ap (λ s. with_texts region s rest) p.store ∙ h.store;
  opened = p.opened;
  elements = omega (arith, h.elements, p.elements, texts_cost-cons units rest);
  sound = subst (AddsValues old new) (sym is) (AddsValues-push old now new values value h.sound p.sound);
  fixed = KeepsFixed-then old now new h.fixed p.fixed;
}

-- the text at a place, where those before it were made
pub placing_step : (region : RegionKey) (old now new : Store) (values more : List Value) (texts : List (List ℕ)) (n : ℕ) (units : List ℕ) (value : Value) → (n < length texts) × (units ≡ get_or texts n units)
    → IsPlacing region old now values texts (drop n texts) → Places region now new units value → more ≡ values ++ value ∷ [] → IsPlacing region old new more texts (drop (n + 1) texts)
placing_step region old now new values more texts n units value at h p is =
    let next : drop n texts ≡ units ∷ drop (n + 1) texts = drop_more texts n units at.0 ∙ ap (λ u. u ∷ drop (n + 1) texts) (sym at.1) in
    placing_more region old now new values more texts (drop (n + 1) texts) units value (subst (IsPlacing region old now values texts) next h) p is

-- ---- what is to be made of parts

length-text_values : (region : RegionKey) (s : Store) (texts : List (List ℕ)) → length (text_values region s texts) ≡ length texts
length-text_values region s [] = refl
length-text_values region s (units ∷ texts) = ap (λ n. suc n) (length-text_values region (with_text region s units) texts)

abbrev limits : {X : Type 0} → Bool → Bool → X → Result X OpError
limits a b x = if a then Err E.HeapFull else if b then Err E.StepsOut else Ok x

limits-map : {X Y : Type 0} (f : X → Y) (a b : Bool) (x : X) → result_map_both f (λ (e : OpError). e) (limits a b x) ≡ limits a b (f x)
limits-map f true b x = refl
limits-map f false true x = refl
limits-map f false false x = refl

limited-map : {X Y : Type 0} (f : X → Y) (elements left made steps : ℕ) (x : X) → result_map_both f (λ (e : OpError). e) (limited elements left made steps x) ≡ limited elements left made steps (f x)
limited-map f elements left made steps x = limits-map f (nat_lt 50000 (elements + made)) (nat_lt left (made + steps)) x

pub texts_answer : (s : Store) (region : RegionKey) (left : ℕ) (texts : List (List ℕ)) (r : Result (List (List ℕ)) OpError) → r ≡ parts_answer (elements_in s region) left texts
    → result_map_both (λ parts. gives_texts s region parts) (λ (e : OpError). e) r ≡ answer_of s left (Ok (gives_texts s region texts))
texts_answer s region left texts r e =
    ap (result_map_both (λ parts. gives_texts s region parts) (λ (e : OpError). e)) e
    ∙ limited-map (λ parts. gives_texts s region parts) (elements_in s region) left (array_cost texts) 0 texts
    ∙ ap (λ n. limited (elements_in s region) left (texts_cost texts + (1 + n)) 0 (gives_texts s region texts)) (sym (length-text_values region s texts))
