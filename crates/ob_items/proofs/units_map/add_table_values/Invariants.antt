use Rattle.std.proofs.Common.{◌≡◌, ◌++◌}
use Rattle.std.specs.Map.{values_of}
use Rattle.ob_items.proofs.units_map.add_table_values.Given as goal

abbrev pub invariant-loop-value : goal.invariant-loop-value
invariant-loop-value g l = l.values ++ l.value-iterator ≡ l.fn.values ++ values_of l.table.entries
