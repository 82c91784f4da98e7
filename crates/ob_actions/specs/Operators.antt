-- The operators as actions (ECMA-262, "Unary Operators", "ApplyStringOrNumericBinaryOperator", "Relational Operators", "Binary Logical
-- Operators" and "Update Expressions", in this project's profile).
use Rattle.std.specs.Prelude.{pos, Bool, true, false, not, Result, Ok, Err}
use Rattle.ob_base.specs.declared.operators.BinaryOp.{BinaryOp}
use Rattle.ob_base.specs.declared.operators.BinaryOp.TheVariants as O
use Rattle.ob_base.specs.declared.operators.CompareOp.{CompareOp}
use Rattle.ob_base.specs.declared.operators.LogicOp.{LogicOp}
use Rattle.ob_base.specs.declared.operators.LogicOp.TheVariants as L
use Rattle.ob_base.specs.declared.operators.UnaryOp.{UnaryOp}
use Rattle.ob_base.specs.declared.operators.UnaryOp.TheVariants as U
use Rattle.ob_base.specs.declared.operators.UpdateOp.{UpdateOp}
use Rattle.ob_base.specs.declared.operators.UpdateOp.TheVariants as P
use Rattle.ob_items.specs.declared.thrown.Thrown.{Thrown}
use Rattle.ob_items.specs.declared.thrown.Thrown.TheVariants as T
use Rattle.ob_items.specs.declared.value.Value.{Value}
use Rattle.ob_items.specs.declared.value.Value.TheVariants as V
use Rattle.ob_values.specs.Operators.{is_truthy, binary_answer, compare_result, unary_result, typeof_value}
use Rattle.ob_values.specs.Store.{Store}
use Rattle.ob_actions.specs.Act.{Go, Act, pure}
use Rattle.ob_actions.specs.Core.{Core}
use Rattle.ob_actions.specs.Meters.{made, literal_value, throws}
use Rattle.ob_actions.specs.World.{World}

-- the second operand of a logical operator is needed
abbrev pub needs_second : Store → LogicOp → Value → Bool
needs_second s L.And v = is_truthy s v
needs_second s L.Or v = not (is_truthy s v)
needs_second s L.Nullish V.Undefined = true
needs_second s L.Nullish V.Null = true
needs_second s L.Nullish v = false

-- `++` adds 1, `--` takes 1 away
abbrev pub step_of : UpdateOp → BinaryOp
step_of P.Up = O.Add
step_of P.Down = O.Sub

-- whether a value is truthy
abbrev pub truth : Value → Act Core Bool
truth v s = Go (is_truthy s.store v) s

module _ (world : World) where
  -- a value, or the error that is thrown
  abbrev pub answer : Result Value Thrown → Act Core Value
  answer (Ok v) = pure v
  answer (Err t) = throws world t

  abbrev pub answer_bool : Result Bool Thrown → Act Core Value
  answer_bool (Ok b) = pure (V.Bool b)
  answer_bool (Err t) = throws world t

  -- the text of `typeof` is there already and costs nothing
  abbrev pub unary : UnaryOp → Value → Act Core Value
  unary U.Typeof v s = literal_value world (typeof_value s.store v) s
  unary op v s = answer (unary_result s.store op v) s

  abbrev pub binary : BinaryOp → Value → Value → Act Core Value
  binary op a b s = made world (binary_answer s.store world.region op a b s.left) s

  abbrev pub compare : CompareOp → Value → Value → Act Core Value
  compare op a b s = answer_bool (compare_result s.store op a b) s

  -- `++` and `--` are of numbers alone
  abbrev pub one_more : UpdateOp → Value → Act Core Value
  one_more op (V.Int n) = binary (step_of op) (V.Int n) (V.Int (pos 1))
  one_more op _ = throws world T.WrongOperand
