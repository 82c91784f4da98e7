-- How statements begin.
use Rattle.ob_base.specs.declared.reserved.ReservedWord.{ReservedWord}
use Rattle.ob_base.specs.declared.reserved.ReservedWord.TheVariants as word
use Rattle.ob_lex.specs.declared.punctuator.Punctuator.{Punctuator}
use Rattle.ob_lex.specs.declared.punctuator.Punctuator.TheVariants as mark
use Rattle.ob_lex.specs.declared.token.TokenKind.{TokenKind}
use Rattle.ob_lex.specs.declared.token.TokenKind.TheVariants as kind
use Rattle.ob_descent_rules.specs.declared.starts.Start.{Start}
use Rattle.ob_descent_rules.specs.declared.starts.Start.TheVariants as start

unfoldable pub mark_start : Punctuator → Start
mark_start mark.OpenBrace = start.Block
mark_start mark.Semicolon = start.Empty
mark_start _ = start.Expression

unfoldable pub word_start : ReservedWord → Start
word_start word.Let = start.Let
word_start word.Const = start.Const
word_start word.Function = start.Function
word_start word.Yield = start.Yield
word_start word.Mutable = start.Mutable
word_start word.If = start.If
word_start word.While = start.While
word_start word.Do = start.Do
word_start word.For = start.For
word_start word.Break = start.Break
word_start word.Continue = start.Continue
word_start word.Return = start.Return
word_start word.Throw = start.Throw
word_start word.Try = start.Try
word_start _ = start.Expression

-- how a statement that begins with such a token begins
unfoldable pub start_of : TokenKind → Start
start_of (kind.Punctuator m) = mark_start m
start_of (kind.Reserved w) = word_start w
start_of (kind.Name x) = start.Name
start_of _ = start.Expression
