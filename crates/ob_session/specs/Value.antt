-- The value of a cell from that of its input, by ECMA-262's "Additive Operators" in the integers of the language.
use Rattle.std.specs.Prelude.{ℤ, ◌+ℤ◌, Option, Some, None, option_and_then, if◌then◌else◌}
use Rattle.ob_base.specs.Integers.{is_in_range}
use Rattle.ob_base.specs.declared.operators.BinaryOp.{BinaryOp}
use Rattle.ob_base.specs.declared.operators.BinaryOp.TheVariants as op
use Rattle.ob_tree_types.specs.declared.tree.Expr.{Expr, fold-Expr}
use Rattle.ob_tree_types.specs.declared.tree.Function.{Function, fold-Function}
use Rattle.ob_tree_types.specs.declared.tree.DeclValue.TheOpen as layer

-- a sum out of the range of integers has no value
abbrev pub sum : ℤ → ℤ → Option ℤ
sum a b = if is_in_range (a +ℤ b) then Some (a +ℤ b) else None

abbrev pub operate : BinaryOp → Option ℤ → Option ℤ → Option ℤ
operate op.Add l r = option_and_then (λ a. option_and_then (sum a) r) l
operate other l r = None

abbrev pub U : Type 0
U = Unit {0}

-- one level of an expression: each name has the value of the input
abbrev pub expr_step : Option ℤ → layer.Expr-F U (Option ℤ) (Option ℤ) U U U U U (Option ℤ) → Option ℤ
expr_step input (layer.Int n) = Some n
expr_step input (layer.Name x) = input
expr_step input (layer.Binary o l r) = operate o l r
expr_step input other = None

abbrev pub body_step : layer.FnBody-F U (Option ℤ) (Option ℤ) U U U U U (Option ℤ) → Option ℤ
body_step (layer.FnBody::Value a) = a
body_step (layer.Items items) = None

abbrev pub function_step : layer.Function-F U (Option ℤ) (Option ℤ) U U U U U (Option ℤ) → Option ℤ
function_step f = f.body

abbrev pub expr_value : Option ℤ → Expr → Option ℤ
expr_value input = fold-Expr U (Option ℤ) (Option ℤ) U U U U U (Option ℤ) (λ d. tt) (expr_step input) body_step (λ h. tt) (λ p. tt) (λ s. tt) (λ c. tt) (λ d. tt) function_step

abbrev pub function_value : Option ℤ → Function → Option ℤ
function_value input = fold-Function U (Option ℤ) (Option ℤ) U U U U U (Option ℤ) (λ d. tt) (expr_step input) body_step (λ h. tt) (λ p. tt) (λ s. tt) (λ c. tt) (λ d. tt) function_step
