-- The cells that the session runs today: named cells whose body is a sum (this project, for now).
use Rattle.std.specs.Prelude.{ℕ, suc, ◌==◌, List, Bool, true, false, not, ◌&&◌, ◌||◌, nat_lt, int_le, pos, is_some, Option, Some, None, if◌then◌else◌}
use Rattle.ob_base.specs.Builtins.{is_builtin_name}
use Rattle.ob_hosts.specs.Names.{is_host_name}
use Rattle.ob_base.specs.declared.operators.BinaryOp.{BinaryOp}
use Rattle.ob_base.specs.declared.operators.BinaryOp.TheVariants as op
use Rattle.ob_tree_types.specs.declared.tree.Expr.{Expr, fold-Expr}
use Rattle.ob_tree_types.specs.declared.tree.Function.{Function, fold-Function}
use Rattle.ob_tree_types.specs.declared.tree.DeclValue.TheOpen as layer
use Rattle.ob_session.specs.declared.sums.Terms.{Terms}

abbrev pub U : Type 0
U = Unit {0}

-- how many terms an expression has as a sum, and whether one of them is a name; none where it is no sum
abbrev pub T : Type 0
T = Option Terms

-- one more term behind a sum: there are at most ten, of which at most one is a name
abbrev pub with_term : Terms → Terms → T
with_term sum term = if (term.count == 1) && nat_lt sum.count 10 && not (sum.has_name && term.has_name)
    then Some (record { count = suc sum.count; has_name = sum.has_name || term.has_name }) else None

abbrev pub joined : BinaryOp → T → T → T
joined op.Add (Some sum) (Some term) = with_term sum term
joined other sum term = None

-- a term is an integer literal of at most 1,000,000 or a name
abbrev pub expr_step : layer.Expr-F U T T U U U U U T → T
expr_step (layer.Int n) = if int_le (pos 0) n && int_le n (pos 1000000) then Some (record { count = 1; has_name = false }) else None
expr_step (layer.Name x) = Some (record { count = 1; has_name = true })
expr_step (layer.Binary o l r) = joined o l r
expr_step other = None

abbrev pub body_step : layer.FnBody-F U T T U U U U U T → T
body_step (layer.FnBody::Value a) = a
body_step (layer.Items items) = None

abbrev pub function_step : layer.Function-F U T T U U U U U T → T
function_step f = f.body

-- the terms of a sum that is grouped to the left
abbrev pub expr_terms : Expr → T
expr_terms = fold-Expr U T T U U U U U T (λ d. tt) expr_step body_step (λ h. tt) (λ p. tt) (λ s. tt) (λ c. tt) (λ d. tt) function_step

abbrev pub is_sum : Function → Bool
is_sum body = is_some (fold-Function U T T U U U U U T (λ d. tt) expr_step body_step (λ h. tt) (λ p. tt) (λ s. tt) (λ c. tt) (λ d. tt) function_step body)

-- a cell of such a name is not built
abbrev pub is_taken : List ℕ → Bool
is_taken name = is_builtin_name name || is_host_name name
