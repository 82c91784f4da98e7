-- Whether a key is a reserved word.
use Rattle.std.specs.Prelude.{ℕ, Bool, List, is_some}
use Rattle.ob_base.specs.Reserved.{reserved_word}

unfoldable pub is_reserved : List ℕ → Bool
is_reserved units = is_some (reserved_word units)
