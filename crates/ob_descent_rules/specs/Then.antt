-- One reader behind another.
use Rattle.ob_grammar.specs.Taking.{Read, Parser, ◌>>=◌}

-- one reader, and then another that has what the first read
abbrev pub then : {A B : Type 0} → Read A → (A → Parser B) → Read B
then r f = r >>= f
