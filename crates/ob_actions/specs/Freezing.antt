-- The store after a value was frozen, as it is computed (this project): the mark stands at all that is reached.
use Rattle.std.specs.Prelude.{ℕ, zero, suc, List, [], ◌∷◌, map, length, sum}
use Rattle.std.specs.List.{flat_map}
use Rattle.std.specs.Option.{option_map_or}
use Rattle.ob_items.specs.declared.value.Ref.{Ref}
use Rattle.ob_items.specs.declared.value.Value.{Value}
use Rattle.ob_values.specs.Freeze.{refs_of, frozen_next, all_marked, with_refs}
use Rattle.ob_values.specs.Store.{Store}

-- these, with what is reached from them in so many steps
abbrev pub reached_in : ℕ → Store → List Ref → List Ref
reached_in zero store refs = refs
reached_in (suc n) store refs = reached_in n store (with_refs refs (flat_map (frozen_next store) refs))

-- how many items there are: no shortest way to one of them takes more steps
abbrev pub item_count : Store → ℕ
item_count store = sum (map (λ c. option_map_or (λ cells. length cells.items) c 0) store)

abbrev pub freeze : Value → Store → Store
freeze v store = all_marked store (reached_in (item_count store) store (with_refs [] (refs_of (v ∷ []))))
