-- What a set of pairs holds.
use Rattle.std.specs.Prelude.{ℕ, List}
use denote.Ref.{Bor}
use Rattle.ob_names.specs.declared.form.NameForm.{NameForm}
use Rattle.ob_cells.specs.declared.def.Pair.{Pair}
use Rattle.ob_cells.specs.Imports.{pair}

-- a pair in the set: the form of both names, and the two
abbrev pub pair_of : NameForm × Bor (List ℕ) × Bor (List ℕ) → Pair
pair_of k = pair k.0 k.1.now k.2.now
