-- What is still to be done in the body of a generator that stands at a `yield` (ECMA-262, "GeneratorStart" and "GeneratorYield": the
-- execution context that is kept).
use Rattle.std.specs.Prelude.{ℕ, Bool, List, Option}
use Rattle.ob_items.specs.declared.value.Ref.{Ref}
use Rattle.ob_items.specs.declared.value.Value.{Value}
use Rattle.ob_tree_types.specs.declared.tree.DeclValue.TheBlock as tree
use Rattle.ob_tree_types.specs.declared.tree.Expr.{Expr}
use Rattle.ob_tree_types.specs.declared.tree.Stmt.{Stmt}
use Rattle.ob_sem.specs.Scope.{Scope}

-- what takes the value that is sent: nothing, an assignment to a name, or the declaration of a name
pub data Taker : Type 0 where
  Ignored : Taker
  Assigned : List ℕ → Scope → Taker
  Declared : List ℕ → Scope → Taker

-- a frame: the rest of a block or of a row of declarations; a loop whose turn is under way, in the scope of that turn; the `catch` and the
-- `finally` part of a `try`
pub data Pending : Type 0 where
  Rest : {m : _} → tree.Row_of-Stmt m → Scope → Pending
  MoreDecls : {m : _} → tree.Row_of-Decl m → Scope → Pending
  WhileLoop : Expr → Stmt → Scope → Pending
  DoLoop : Stmt → Expr → Scope → Pending
  ForLoop : ℕ → tree.Held-DeclValue-Yield-0 → tree.Held-DeclValue-Yield-0 → Stmt → Scope → Pending
  ElementLoop : Ref → ℕ → Bool → List ℕ → Stmt → Scope → Pending
  PullLoop : Ref → Bool → List ℕ → Stmt → Scope → Pending
  Handler : tree.Held-Stmt-Try-1 → Scope → Pending
  Last : tree.Held-Stmt-Try-2 → Scope → Pending

-- a generator that stands still: what takes the value that is sent, the frames from the innermost on, the locals, and the number of its text
-- with the array of its inputs
pub record Suspended : Type 0 where
  pub taker : Taker
  pub frames : List Pending
  pub locals : List (Option Value)
  pub code : ℕ
  pub inputs : Ref
