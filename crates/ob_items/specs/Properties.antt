-- The properties of an object in the order of their keys: array indices rising, then the others in order of creation
-- (ECMA-262, "OrdinaryOwnPropertyKeys").
use Rattle.std.specs.Prelude.{ℕ, ◌+◌, ◌++◌, List, [], Option, map, length, nat_eq, decimal}
use Rattle.std.specs.Ordering.{nat_cmp}
use Rattle.std.specs.Option.{option_map_or}
use Rattle.std.specs.Cmp.Lexicographic.{pointwise}
use Rattle.std.specs.Map.{lookup}
use Rattle.std.specs.BTreeMap as tree
use Rattle.indexmap.specs.IndexMap as table
use Rattle.ob_items.specs.IndexText.{index_in}
use Rattle.ob_items.specs.declared.value.Value.{Value}
use Rattle.ob_items.specs.declared.properties.Property.{Property}

pub record Keyed : Type 0 where
  pub indices : List (ℕ × Value)
  pub named : List (List ℕ × Value)

-- no property
abbrev pub no_properties : Keyed
no_properties = record { indices = []; named = [] }

-- these properties, none of them at an array index
abbrev pub only_named : List (List ℕ × Value) → Keyed
only_named named = record { indices = []; named = named }

-- these properties, all of them at array indices
abbrev pub only_indices : List (ℕ × Value) → Keyed
only_indices indices = record { indices = indices; named = [] }

-- the value at a key
abbrev pub property : Keyed → List ℕ → Option Value
property p key =
    option_map_or (λ n. lookup (tree.is_at (nat_cmp n)) p.indices) (index_in key) (lookup (pointwise nat_eq key) p.named)

-- the properties after a write: a key that is there keeps its place, and a new one that is no index goes last
abbrev pub with_property : Keyed → List ℕ → Value → Keyed
with_property p key value =
    option_map_or (λ n. record { indices = tree.insert_entry nat_cmp p.indices n value; named = p.named }) (index_in key)
    (record { indices = p.indices; named = table.insert_entry (pointwise nat_eq) p.named key value })

-- how many there are
abbrev pub count : Keyed → ℕ
count p = length p.indices + length p.named

-- the keys, in their order
abbrev pub keys_of : Keyed → List (List ℕ)
keys_of p = map (λ e. decimal e.0) p.indices ++ map (λ e. e.0) p.named

-- the values, in the order of the keys
abbrev pub values_of : Keyed → List Value
values_of p = map (λ e. e.1) p.indices ++ map (λ e. e.1) p.named

abbrev pub index_entry : (ℕ × Value) → Property
index_entry e = record { key = decimal e.0; value = e.1 }

abbrev pub named_entry : (List ℕ × Value) → Property
named_entry e = record { key = e.0; value = e.1 }

-- the keys with their values, in the order of the keys
abbrev pub entries_of : Keyed → List Property
entries_of p = map index_entry p.indices ++ map named_entry p.named
