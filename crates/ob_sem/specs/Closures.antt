-- Function values where they are made (ECMA-262, "InstantiateOrdinaryFunctionExpression", "InstantiateArrowFunctionExpression" and
-- "InstantiateGeneratorFunctionExpression", in this project's profile).
use Rattle.std.specs.Prelude.{ℕ, Bool, true, List, [], ◌∷◌, Option, Some, None}
use Rattle.ob_items.specs.declared.value.Value.{Value}
use Rattle.ob_tree.specs.Walks.{binding, constant}
use Rattle.ob_tree_types.specs.declared.tree.Function.{Function}
use Rattle.ob_actions.specs.Act.{Act, ◌>>=◌, pure}
use Rattle.ob_actions.specs.NewItems.{new_closure}
use Rattle.ob_sem.specs.Bindings.{enter_with, first_name}
use Rattle.ob_tree.specs.Captures.{captured_in}
use Rattle.ob_sem.specs.Captures.{boxes_for, kept_invalidation}
use Rattle.ob_tree.specs.Functions.{whole}
use Rattle.ob_sem.specs.Scope.{Scope, next_code}
use Rattle.ob_sem.specs.Setting.{Setting}
use Rattle.ob_sem.specs.Whole.{Whole, lift}

module _ (set : Setting) where
  -- the number of a function is that of the next one at its place
  abbrev pub closure : Function → Scope → Act Whole Value
  closure f sc = lift (new_closure set.world (next_code sc) (boxes_for sc.names f) sc.inputs (kept_invalidation sc f))

  -- the own name of a function expression is a binding of a scope around it, if the function refers to it; else there is none
  abbrev pub with_own_name : List ℕ → Function → Scope → List Bool → Act Whole Value
  with_own_name x f sc (true ∷ []) =
      enter_with set (true ∷ []) (binding constant x ∷ []) sc >>= (λ around.
      closure f around >>= (λ v. first_name set x v around >>= (λ _. pure v)))
  with_own_name x f sc flags = closure f sc

  abbrev pub named_function : Option (List ℕ) → Function → Scope → Act Whole Value
  named_function None f sc = closure f sc
  named_function (Some x) f sc = with_own_name x f sc (captured_in (binding constant x ∷ []) (whole f))
