-- What `join` gives of elements and the units of a separator (this project).
use Rattle.std.specs.Prelude.{ℕ, List, length, Result}
use Rattle.std.specs.List.{join_by}
use Rattle.ob_items.specs.declared.thrown.Thrown.{Thrown}
use Rattle.ob_items.specs.declared.value.RegionKey.{RegionKey}
use Rattle.ob_items.specs.declared.value.Value.{Value}
use Rattle.ob_values.specs.ArrayMethods.{written_as}
use Rattle.ob_values.specs.Effects.{Effect, makes_text, or_bad, all_some}
use Rattle.ob_values.specs.Store.{Store}

abbrev pub join_answer : Store → RegionKey → List Value → List ℕ → Result Effect Thrown
join_answer s region values between =
    or_bad (all_some (written_as s) values) (λ texts. makes_text s region (length values) (join_by (λ units. units) between texts))
