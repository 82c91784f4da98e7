-- The rules of statements by how a statement begins.
use Rattle.std.specs.Prelude.{ℕ, Bool, true, false, List, [], ◌∷◌, Some, None, option_and_then}
use Rattle.ob_lex.specs.declared.token.Token.{Token}
use Rattle.ob_lex.specs.declared.token.TokenKind.{TokenKind}
use Rattle.ob_tree_types.specs.declared.tree.Decl.{Decl}
use Rattle.ob_tree_types.specs.declared.tree.ForHead.{ForHead}
use Rattle.ob_tree_types.specs.declared.tree.ForHead.TheVariants as head
use Rattle.ob_tree_types.specs.declared.tree.Stmt.{Stmt}
use Rattle.ob_tree_types.specs.declared.tree.Stmt.TheVariants as stmt
use Rattle.ob_grammar.specs.declared.form.Form.TheVariants.{Bare}
use Rattle.ob_grammar.specs.Reading.{block_of, expression_of, assigned_yield, named_by, yield_of, changed_of, if_of, while_of, do_of, for_of, return_of, throw_by, try_of}
use Rattle.ob_grammar.specs.Taking.{Read, Parser, mapped, ended, name_of, starts_on_line}
use Rattle.ob_descent_rules.specs.Inside.{depth_limit, inner, nested}
use Rattle.ob_descent_rules.specs.declared.starts.Start.{Start}
use Rattle.ob_descent_rules.specs.declared.starts.Start.TheVariants as start

-- what declares these, constant or not: a head of `for`, and a statement
abbrev pub head_of_decls : Bool → List Decl → ForHead
head_of_decls true = head.Const
head_of_decls false = head.Let

abbrev pub declaring : Bool → List Decl → Stmt
declaring true = stmt.Const
declaring false = stmt.Let

module _ (depth : ℕ) where
  -- a statement that begins with a name
  abbrev pub named_at : TokenKind → Token → List Token → Read Stmt
  named_at k t ts = option_and_then (λ x. named_by depth_limit (inner depth) (nested depth) (assigned_yield depth_limit (inner depth) (nested depth) ts) x t ts) (name_of k)

  abbrev pub named_of : Parser Stmt
  named_of [] = None
  named_of (t ∷ ts) = named_at t.kind t ts

  -- what follows the first token of a statement that is no expression
  abbrev pub behind_start : Start → Parser Stmt
  behind_start start.Empty ts = Some (stmt.Empty, ts)
  behind_start start.Yield ts = yield_of depth_limit (inner depth) (nested depth) None ts
  behind_start start.Mutable ts = changed_of depth_limit (inner depth) (nested depth) ts
  behind_start start.If ts = if_of depth_limit (inner depth) (nested depth) ts
  behind_start start.While ts = while_of depth_limit (inner depth) (nested depth) ts
  behind_start start.Do ts = do_of depth_limit (inner depth) (nested depth) ts
  behind_start start.For ts = for_of depth_limit (inner depth) (nested depth) ts
  behind_start start.Break ts = ended stmt.Break Bare ts
  behind_start start.Continue ts = ended stmt.Continue Bare ts
  behind_start start.Return ts = return_of depth_limit (inner depth) (nested depth) ts
  behind_start start.Throw ts = throw_by depth_limit (inner depth) (nested depth) (starts_on_line ts) ts
  behind_start start.Try ts = try_of depth_limit (inner depth) (nested depth) ts
  behind_start _ ts = None

  -- a statement whose first token, of this kind, begins it so
  abbrev pub statement_as : Start → TokenKind → Token → List Token → Read Stmt
  statement_as start.Block k t ts = mapped stmt.Block (block_of depth_limit (inner depth) (nested depth) (t ∷ ts))
  statement_as start.Name k t ts = named_at k t ts
  statement_as start.Let k t ts = expression_of depth_limit (inner depth) (nested depth) (t ∷ ts)
  statement_as start.Const k t ts = expression_of depth_limit (inner depth) (nested depth) (t ∷ ts)
  statement_as start.Expression k t ts = expression_of depth_limit (inner depth) (nested depth) (t ∷ ts)
  statement_as s k t ts = behind_start s ts
