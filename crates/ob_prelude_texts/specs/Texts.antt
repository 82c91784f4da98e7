-- The texts of the builtins that are written in the language itself.
use Rattle.std.specs.Prelude.{ℕ, List, [], slice_index_or}
use Rattle.ob_base.specs.declared.prelude.TheConstants.{PRELUDE_TEXTS}
use Rattle.ob_tree_prelude.specs.declared.prelude.Prelude.{Prelude}
use Rattle.ob_tree_prelude.specs.declared.prelude.Prelude.TheVariants as prelude

-- its place among the texts
abbrev pub place_of : Prelude → ℕ
place_of prelude.Map = 0
place_of prelude.Filter = 1
place_of prelude.ForEach = 2
place_of prelude.Some = 3
place_of prelude.Every = 4
place_of prelude.Reduce = 5
place_of prelude.From = 6

-- the bytes of its text
abbrev pub text_of : Prelude → List ℕ
text_of which = (slice_index_or PRELUDE_TEXTS (place_of which) (record { now = [] })).now
