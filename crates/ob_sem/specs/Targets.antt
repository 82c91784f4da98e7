-- Assignments and updates (ECMA-262, "Assignment Operators" and "Update Expressions", in this project's profile).
use Rattle.std.specs.Prelude.{ℕ, Bool, List, if◌then◌else◌}
use Rattle.ob_base.specs.declared.operators.AssignOp.{AssignOp}
use Rattle.ob_base.specs.declared.operators.AssignOp.TheVariants as A
use Rattle.ob_base.specs.declared.operators.UpdateOp.{UpdateOp}
use Rattle.ob_items.specs.declared.value.Value.{Value}
use Rattle.ob_actions.specs.Act.{Act, ◌>>=◌, pure, asks, choose}
use Rattle.ob_actions.specs.Operators.{needs_second, binary, one_more}
use Rattle.ob_actions.specs.Properties.{Key, get_property, set_property}
use Rattle.ob_sem.specs.Bindings.{read_name, assign_name}
use Rattle.ob_sem.specs.Scope.{Scope}
use Rattle.ob_sem.specs.Setting.{Setting}
use Rattle.ob_sem.specs.Whole.{Whole, lift}

-- a target, its parts evaluated
pub data Target : Type 0 where
  Variable : List ℕ → Target
  Property : Value → Key → Target

module _ (set : Setting) where
  abbrev pub read_target : Target → Scope → Act Whole Value
  read_target (Variable x) sc = read_name set x sc
  read_target (Property a k) sc = lift (get_property set.world a k)

  abbrev pub write_target : Target → Value → Scope → Act Whole (Unit {0})
  write_target (Variable x) v sc = assign_name set x v sc
  write_target (Property a k) v sc = lift (set_property set.world a k v)

  abbrev pub write_value : Target → Scope → Value → Act Whole Value
  write_value t sc v = write_target t v sc >>= (λ _. pure v)

  -- a compound assignment reads before its right side; the logical ones evaluate that only where it is needed
  abbrev pub assign_to : AssignOp → Target → Scope → Act Whole Value → Act Whole Value
  assign_to A.Set t sc right = right >>= write_value t sc
  assign_to (A.Binary op) t sc right =
      read_target t sc >>= (λ old. right >>= (λ v. lift (binary set.world op old v) >>= write_value t sc))
  assign_to (A.Logic op) t sc right =
      read_target t sc >>= (λ old. asks (λ s. needs_second s.core.store op old) >>= (λ needed.
      choose needed (right >>= write_value t sc) (pure old)))

  -- `++` and `--`, before the target with the new value, behind it with the old one
  abbrev pub update : UpdateOp → Bool → Target → Scope → Act Whole Value
  update op before t sc =
      read_target t sc >>= (λ old. lift (one_more set.world op old) >>= (λ v.
      write_target t v sc >>= (λ _. pure (if before then v else old))))
