-- The elements of the region never fall.
use Rattle.std.proofs.Common.{ℕ, ◌+◌, ◌≤◌, Bool, true, false, Option, Some, None, List, subst, sym, inl, inr, arith, if◌then◌else◌}
use Rattle.std.specs.Option.{option_map_or, option_map}
use Rattle.ob_items.specs.Items.{live}
use Rattle.ob_items.specs.Region.{Cells, with_item, rewritten, after_literal, literal_at, with_literal}
use Rattle.ob_items.proofs.ListLemmas.{equal_or_not}
use Rattle.ob_values.specs.Store.{Store, region_of, elements_in, body_of}
use Rattle.ob_actions.specs.World.{World}
use Rattle.ob_actions.proofs.AnyGood.{AnyRef, any_body, any_there}
use Rattle.ob_actions.proofs.Regions.{updated, updated_at, updated_other}
use Rattle.ob_actions.proofs.StoreLaw.{StoreLaw}
use Rattle.ob_actions.specs.Within.{GoodBody}

module _ (n : ℕ) (world : World) where
  abbrev pub HasElements : Store → Type 0
  HasElements s = n ≤ elements_in s world.region

  rises : (s : Store) (key : ℕ) (f : Cells → Cells) → ((c : Cells) → c.elements ≤ (f c).elements) → HasElements s → HasElements (updated s key f)
  rises s key f more h =
      elim (equal_or_not world.region.0 key) [
        | inl e ↦ subst (λ k. n ≤ option_map_or (λ (c : Cells). c.elements) (region_of (updated s k f) world.region.0) 0) e
            (subst (λ o. n ≤ option_map_or (λ (c : Cells). c.elements) o 0) (sym (updated_at s world.region.0 f)) (by (region_of s world.region.0) h))
        | inr apart ↦ subst (λ o. n ≤ option_map_or (λ (c : Cells). c.elements) o 0) (sym (updated_other s key world.region.0 f apart)) h
      ]
    where
      by : (o : Option Cells) → n ≤ option_map_or (λ (c : Cells). c.elements) o 0 → n ≤ option_map_or (λ (c : Cells). c.elements) (option_map f o) 0
      by None k = k
      by (Some c) k = let l : c.elements ≤ (f c).elements = more c in omega (arith, k, l)

  same : (c : Cells) → c.elements ≤ c.elements
  same c = omega arith

  grown : (b : Bool) (e : ℕ) → e ≤ (if b then e + 1 else e)
  grown true e = omega arith
  grown false e = omega arith

  in_literal : (o : Option ℕ) (c : Cells) (units : List ℕ) → c.elements ≤ (option_map_or (λ at. c) o (with_literal c units)).elements
  in_literal None c units = omega arith
  in_literal (Some at) c units = omega arith

  pub elements_law : StoreLaw HasElements AnyRef world
  elements_law = record {
    fresh = λ s q. tt;
    news = λ s body cost g q. rises s world.region.0 (λ c. with_item c (live body) cost) (λ c. let l : c.elements ≤ c.elements + cost = omega arith in l) q;
    literal_good = λ s units q. tt;
    literals = λ s units q. rises s world.region.0 (λ c. after_literal c units) (λ c. in_literal (literal_at c units) c units) q;
    counted = λ k s q. rises s world.region.0 (λ c. record { items = c.items; elements = c.elements + k; literals = c.literals }) (λ c. let l : c.elements ≤ c.elements + k = omega arith in l) q;
    inside = λ s q r g. any_there (GoodBody AnyRef) any_body (body_of s r);
    arrays = λ s r make grows values q g cold is good. rises s r.region.0 (λ c. rewritten _ make c r.item grows) (λ c. grown grows c.elements) q;
    objects = λ s r make grows properties q g cold is good. rises s r.region.0 (λ c. rewritten _ make c r.item grows) (λ c. grown grows c.elements) q;
    boxes = λ s r v q g good cold. rises s r.region.0 (λ c. rewritten _ _ c r.item false) (λ c. same c) q;
    hooks = λ s r q g cold. rises s r.region.0 (λ c. rewritten _ _ c r.item false) (λ c. same c) q;
    kepts = λ s r k q g cold. rises s r.region.0 (λ c. rewritten _ _ c r.item false) (λ c. same c) q;
  }
