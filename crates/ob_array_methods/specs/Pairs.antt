-- Values that are made of others (this project).
use Rattle.std.specs.Prelude.{List, ◌++◌}
use Rattle.std.specs.List.{Contains}
use Rattle.ob_items.specs.declared.value.Value.{Value}
use Rattle.ob_values.specs.Reach.{Reaches}
use Rattle.ob_values.specs.Sound.{Pointer, pointers_of, leads_to, IsSound}
use Rattle.ob_values.specs.Store.{Store}

-- whatever the roots are: if they reach these pointers, what was sound from them stays so, and the values are sound beside
-- them
abbrev pub AddsMade : Store → Store → List Pointer → List Value → Type 0
AddsMade old new used values =
    (roots : List Pointer) → ((p : Pointer) → Contains used p → Reaches (leads_to old) roots p) → IsSound old roots → IsSound new (pointers_of values ++ roots)
