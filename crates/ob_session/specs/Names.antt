-- The name that a sum reads.
use Rattle.std.specs.Prelude.{ℕ, List, Option, Some, None}
use Rattle.ob_tree_types.specs.declared.tree.Expr.{Expr, fold-Expr}
use Rattle.ob_tree_types.specs.declared.tree.Function.{Function, fold-Function}
use Rattle.ob_tree_types.specs.declared.tree.DeclValue.TheOpen as layer
use Rattle.ob_session.specs.Value.{U}

-- a name, or none
abbrev pub N : Type 0
N = Option (List ℕ)

abbrev pub first_of : N → N → N
first_of (Some x) other = Some x
first_of None other = other

abbrev pub expr_step : layer.Expr-F U N N U U U U U N → N
expr_step (layer.Name x) = Some x
expr_step (layer.Binary o l r) = first_of l r
expr_step other = None

abbrev pub body_step : layer.FnBody-F U N N U U U U U N → N
body_step (layer.FnBody::Value a) = a
body_step (layer.Items items) = None

abbrev pub function_step : layer.Function-F U N N U U U U U N → N
function_step f = f.body

-- the first name of a sum
abbrev pub expr_name : Expr → N
expr_name = fold-Expr U N N U U U U U N (λ d. tt) expr_step body_step (λ h. tt) (λ p. tt) (λ s. tt) (λ c. tt) (λ d. tt) function_step

abbrev pub function_name : Function → N
function_name = fold-Function U N N U U U U U N (λ d. tt) expr_step body_step (λ h. tt) (λ p. tt) (λ s. tt) (λ c. tt) (λ d. tt) function_step
