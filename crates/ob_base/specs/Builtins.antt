-- The names of the builtins (after ECMA-262's global properties; `log` and `invalidation` are this project's and
-- Observable's).
use Rattle.std.specs.Prelude.{ℕ, List, [], ◌∷◌, Bool, codes, bytes_eq}
use Rattle.std.specs.List.{list_any}

abbrev pub builtin_names : List (List ℕ)
builtin_names = codes "Math" ∷ codes "Object" ∷ codes "Array" ∷ codes "String" ∷ codes "Error" ∷ codes "TypeError"
    ∷ codes "RangeError" ∷ codes "log" ∷ codes "invalidation" ∷ []

abbrev pub is_builtin_name : List ℕ → Bool
is_builtin_name name = list_any (λ b. bytes_eq b name) builtin_names
