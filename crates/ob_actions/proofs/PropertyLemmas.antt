-- The values of an object after a write of a property.
use Rattle.std.proofs.Common.{ℕ, Bool, true, false, List, [], ◌∷◌, map, nat_eq, Option, Some, None, if◌then◌else◌}
use Rattle.std.specs.BTreeMap as tree
use Rattle.std.specs.Cmp.Lexicographic.{pointwise}
use Rattle.std.specs.Option.{option_map_or}
use Rattle.std.specs.Ordering.{nat_cmp, match_ordering}
use Rattle.std.specs.declared.cmp.Ordering.{Ordering}
use Rattle.std.specs.declared.cmp.Ordering.TheVariants as order
use Rattle.indexmap.specs.IndexMap as table
use Rattle.ob_items.specs.IndexText.{index_in}
use Rattle.ob_items.specs.Properties.{Keyed, with_property, values_of}
use Rattle.ob_items.specs.declared.value.Ref.{Ref}
use Rattle.ob_items.specs.declared.value.Value.{Value}
use Rattle.ob_actions.proofs.Each.{each_append}
use Rattle.ob_actions.proofs.Kept.{left_of, right_of}
use Rattle.ob_actions.specs.Within.{Each, Good}

module _ (G : Ref → Type 0) where
  abbrev GoodValues : {X : Type 0} → List (X × Value) → Type 0
  GoodValues es = Each (Good G) (map (λ e. e.1) es)

  pick : {X : Type 0} (b : Bool) (xs ys : List (X × Value)) → GoodValues xs → GoodValues ys → GoodValues (if b then xs else ys)
  pick true xs ys f g = f
  pick false xs ys f g = g

  of_three : {X : Type 0} (o : Ordering) (xs ys zs : List (X × Value)) → GoodValues xs → GoodValues ys → GoodValues zs → GoodValues (match_ordering o xs ys zs)
  of_three order.Less xs ys zs f g h = f
  of_three order.Equal xs ys zs f g h = g
  of_three order.Greater xs ys zs f g h = h

  table_good : (es : List (List ℕ × Value)) (key : List ℕ) (v : Value) → GoodValues es → Good G v → GoodValues (table.insert_entry (pointwise nat_eq) es key v)
  table_good [] key v h g = (g, tt)
  table_good (e ∷ es) key v h g =
      pick (pointwise nat_eq key e.0) ((e.0, v) ∷ es) (e ∷ table.insert_entry (pointwise nat_eq) es key v) (g, h.1) (h.0, table_good es key v h.1 g)

  tree_good : (es : List (ℕ × Value)) (n : ℕ) (v : Value) → GoodValues es → Good G v → GoodValues (tree.insert_entry nat_cmp es n v)
  tree_good [] n v h g = (g, tt)
  tree_good (e ∷ es) n v h g =
      of_three (nat_cmp n e.0) ((n, v) ∷ e ∷ es) ((e.0, v) ∷ es) (e ∷ tree.insert_entry nat_cmp es n v) (g, h) (g, h.1) (h.0, tree_good es n v h.1 g)

  at_key : (p : Keyed) (key : List ℕ) (v : Value) (o : Option ℕ) → Each (Good G) (values_of p) → Good G v
      → Each (Good G) (values_of (option_map_or (λ n. record { indices = tree.insert_entry nat_cmp p.indices n v; named = p.named }) o
      (record { indices = p.indices; named = table.insert_entry (pointwise nat_eq) p.named key v })))
  at_key p key v None h g =
      each_append (Good G) (map (λ e. e.1) p.indices) _ (left_of G (Good G) (map (λ e. e.1) p.indices) (map (λ e. e.1) p.named) h)
      (table_good p.named key v (right_of G (Good G) (map (λ e. e.1) p.indices) (map (λ e. e.1) p.named) h) g)
  at_key p key v (Some n) h g =
      each_append (Good G) (map (λ e. e.1) (tree.insert_entry nat_cmp p.indices n v)) (map (λ e. e.1) p.named)
      (tree_good p.indices n v (left_of G (Good G) (map (λ e. e.1) p.indices) (map (λ e. e.1) p.named) h) g)
      (right_of G (Good G) (map (λ e. e.1) p.indices) (map (λ e. e.1) p.named) h)

  pub good_with_property : (p : Keyed) (key : List ℕ) (v : Value) → Each (Good G) (values_of p) → Good G v → Each (Good G) (values_of (with_property p key v))
  good_with_property p key v h g = at_key p key v (index_in key) h g
