-- Function values that read expressions and statements to a depth.
use Rattle.std.specs.Prelude.{ℕ, List, Result}
use Rattle.std.specs.declared.alloc.Global.{Global}
use denote.Ref.{MutBor}
use Rattle.ob_lex.specs.declared.token.Token.{Token}
use Rattle.ob_tree_types.specs.declared.tree.Stmt.{Stmt}
use Rattle.ob_grammar.specs.declared.form.Level.{Level}
use Rattle.ob_grammar.specs.declared.piece.Piece.{Piece}
use Rattle.ob_descent_rules.specs.Inside.{inner, nested}
use Rattle.ob_descent_tokens.specs.declared.error.ParseError.{ParseError}
use Rattle.ob_descent_rules.specs.declared.nesting.Nested.{Nested}
use Rattle.ob_descent_tokens.specs.Gives.{Gives}
use Rattle.ob_descent_rules.specs.Views.{rule_of}

pub record ReadsPieces (depth : ℕ) (pre : Global → MutBor (List Token) → ℕ → Nested → Type 0)
    (post : Global → MutBor (List Token) → ℕ → Nested → Result Piece ParseError → MutBor (List Token) → Type 0) : Type 0 where
  pub callable : (alloc : Global) (old : MutBor (List Token)) (rule : Nested) → pre alloc old depth rule
  pub gives : (alloc : Global) (old new : MutBor (List Token)) (rule : Nested) (r : Result Piece ParseError) → post alloc old depth rule r new
      → Gives (inner depth (rule_of rule) old.now) r new.now

pub record ReadsStatements (depth : ℕ) (pre : Global → MutBor (List Token) → ℕ → Level → Type 0)
    (post : Global → MutBor (List Token) → ℕ → Level → Result Stmt ParseError → MutBor (List Token) → Type 0) : Type 0 where
  pub callable : (alloc : Global) (old : MutBor (List Token)) (level : Level) → pre alloc old depth level
  pub gives : (alloc : Global) (old new : MutBor (List Token)) (level : Level) (r : Result Stmt ParseError) → post alloc old depth level r new
      → Gives (nested depth level old.now) r new.now
