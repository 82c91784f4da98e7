-- How large plain data is (this project).
use Rattle.std.specs.Prelude.{ℕ, ◌+◌, ◌/◌, ◌&&◌, List, [], ◌∷◌, length, sum, max, Bool, true, nat_le}
use Rattle.std.specs.List.{list_all}
use Rattle.ob_base.specs.declared.plain.Plain.{Plain, fold-Plain}
use Rattle.ob_base.specs.declared.plain.PlainProp.{PlainProp, fold-PlainProp}
use Rattle.ob_base.specs.declared.plain.Plain.TheOpen.{Plain-F, PlainProp-F}

-- ---- elements: a text has one for each 16 units that it begins, and at least 1; an array or an object of n has 1 + n, with its parts; other
-- values have none

abbrev pub elements_step : Plain-F ℕ ℕ → ℕ
elements_step Plain-F.Undefined = 0
elements_step Plain-F.Null = 0
elements_step (Plain-F.Bool b) = 0
elements_step (Plain-F.Int n) = 0
elements_step (Plain-F.Text units) = max 1 ((length units + 15) / 16)
elements_step (Plain-F.Array items) = 1 + (length items + sum items)
elements_step (Plain-F.Object props) = 1 + (length props + sum props)

abbrev pub prop_value : PlainProp-F ℕ ℕ → ℕ
prop_value p = p.value

abbrev pub elements : Plain → ℕ
elements = fold-Plain ℕ ℕ elements_step prop_value

-- those of a property: its value's
abbrev pub prop_elements : PlainProp → ℕ
prop_elements = fold-PlainProp ℕ ℕ elements_step prop_value

-- ---- how deep arrays and objects stand in one another, whatever the innermost holds

abbrev pub greatest : List ℕ → ℕ
greatest [] = 0
greatest (n ∷ ns) = max n (greatest ns)

abbrev pub nesting_step : Plain-F ℕ ℕ → ℕ
nesting_step Plain-F.Undefined = 0
nesting_step Plain-F.Null = 0
nesting_step (Plain-F.Bool b) = 0
nesting_step (Plain-F.Int n) = 0
nesting_step (Plain-F.Text units) = 0
nesting_step (Plain-F.Array items) = 1 + greatest items
nesting_step (Plain-F.Object props) = 1 + greatest props

abbrev pub nesting : Plain → ℕ
nesting = fold-Plain ℕ ℕ nesting_step prop_value

abbrev pub prop_nesting : PlainProp → ℕ
prop_nesting = fold-PlainProp ℕ ℕ nesting_step prop_value

-- ---- whether each text and each key has at most 65,536 units

abbrev pub are_all : List Bool → Bool
are_all = list_all (λ b. b)

abbrev pub short_step : Plain-F Bool Bool → Bool
short_step Plain-F.Undefined = true
short_step Plain-F.Null = true
short_step (Plain-F.Bool b) = true
short_step (Plain-F.Int n) = true
short_step (Plain-F.Text units) = nat_le (length units) 65536
short_step (Plain-F.Array items) = are_all items
short_step (Plain-F.Object props) = are_all props

abbrev pub short_prop : PlainProp-F Bool Bool → Bool
short_prop p = nat_le (length p.key) 65536 && p.value

abbrev pub has_short_texts : Plain → Bool
has_short_texts = fold-Plain Bool Bool short_step short_prop

abbrev pub prop_has_short_texts : PlainProp → Bool
prop_has_short_texts = fold-PlainProp Bool Bool short_step short_prop
