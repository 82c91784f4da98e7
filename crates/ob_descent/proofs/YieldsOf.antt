-- Any of some statements.
use Rattle.std.proofs.Common.{◌≡◌, List, [], ◌∷◌, refl, ap, map}
use Rattle.std.specs.Prelude.{◌||◌}
use Rattle.ob_tree_types.specs.declared.tree.Stmt.{Stmt}
use Rattle.ob_grammar.specs.Yields.{in_any, yields_in, yields}
use Rattle.ob_descent.specs.YieldsIn.{stmt_yields}

pub yields_any : (items : List Stmt) → yields items ≡ in_any (map stmt_yields items)
unfolding yields yields_in
yields_any [] = refl
yields_any (s ∷ items) = ap (λ b. stmt_yields s || b) (yields_any items)
