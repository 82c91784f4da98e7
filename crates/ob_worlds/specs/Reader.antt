-- How the texts of cells are read, and which names are those of builtins and host functions.
use Rattle.std.specs.Prelude.{ℕ, Bool, List}
use Rattle.ob_cells.specs.Readings.{Reading}

pub record Reader : Type 0 where
  -- what a text defines
  pub read : List ℕ → Reading
  -- whether what a text needs is built
  pub is_built : List ℕ → Bool
  -- whether a name is that of a builtin or a host function
  pub is_builtin : List ℕ → Bool
