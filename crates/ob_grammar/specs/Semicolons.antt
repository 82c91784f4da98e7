-- What it means that a rule lets a token go on.
use Rattle.std.specs.Prelude.{Bool, true, false, List, [], ◌++◌}
use Rattle.ob_lex.specs.declared.punctuator.Punctuator.TheVariants as mark
use Rattle.ob_lex.specs.declared.token.Token.{Token}
use Rattle.ob_lex.specs.declared.token.TokenKind.{TokenKind}
use Rattle.ob_lex.specs.declared.token.TokenKind.TheVariants as kind
use Rattle.ob_tree_types.specs.declared.tree.Expr.{Expr}
use Rattle.ob_tree_types.specs.declared.tree.Stmt.{Stmt}
use Rattle.ob_grammar.specs.declared.form.Form.{Form}
use Rattle.ob_grammar.specs.Grammar.{whole, Reads, ReadsItem}

-- some expression begins with these tokens
pub record BeginsExpression (front : List Token) : Type 0 where
  pub rest : List Token
  pub tree : Expr
  pub form : Form
  pub reads : Reads whole (front ++ rest) tree form []

-- some statement or declaration begins with these tokens
pub record BeginsItem (front : List Token) : Type 0 where
  pub rest : List Token
  pub tree : Stmt
  pub reads : ReadsItem (front ++ rest) tree []

-- A token that can stand directly behind a statement: one that begins another, `else`, or the `while` of a `do`. (Before any other token
-- but `}` it makes no difference whether a `;` is there: nothing is read either way. A `;` ends the statement itself.)
unfoldable pub may_follow : TokenKind → Bool
may_follow (kind.Punctuator mark.OpenParenthesis) = true
may_follow (kind.Punctuator mark.OpenBracket) = true
may_follow (kind.Punctuator mark.OpenBrace) = true
may_follow (kind.Punctuator mark.Plus) = true
may_follow (kind.Punctuator mark.Minus) = true
may_follow (kind.Punctuator mark.PlusPlus) = true
may_follow (kind.Punctuator mark.MinusMinus) = true
may_follow (kind.Punctuator mark.Not) = true
may_follow (kind.Punctuator mark.Tilde) = true
may_follow (kind.Punctuator m) = false
may_follow _ = true
