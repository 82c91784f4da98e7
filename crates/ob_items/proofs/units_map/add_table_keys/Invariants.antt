use Rattle.std.proofs.Common.{◌≡◌, ◌++◌, map}
use Rattle.std.specs.Map.{keys_of}
use Rattle.ob_items.proofs.units_map.add_table_keys.Given as goal

abbrev pub invariant-loop-key : goal.invariant-loop-key
invariant-loop-key g l = l.keys ++ map (λ key. key.items) l.key-iterator ≡ l.fn.keys ++ map (λ key. key.items) (keys_of l.table.entries)
