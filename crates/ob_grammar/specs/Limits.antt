-- How many brackets are open at once in a text.
use Rattle.std.specs.Prelude.{ℕ, ◌+◌, ◌-◌, max, List, [], ◌∷◌}
use Rattle.ob_lex.specs.declared.punctuator.Punctuator.TheVariants as mark
use Rattle.ob_lex.specs.declared.token.Token.{Token}
use Rattle.ob_lex.specs.declared.token.TokenKind.{TokenKind}
use Rattle.ob_lex.specs.declared.token.TokenKind.TheVariants as kind

-- how many of `(`, `[` and `{` are open after a token, with n open before it
unfoldable pub open_after : TokenKind → ℕ → ℕ
open_after (kind.Punctuator mark.OpenParenthesis) n = n + 1
open_after (kind.Punctuator mark.OpenBracket) n = n + 1
open_after (kind.Punctuator mark.OpenBrace) n = n + 1
open_after (kind.Punctuator mark.CloseParenthesis) n = n - 1
open_after (kind.Punctuator mark.CloseBracket) n = n - 1
open_after (kind.Punctuator mark.CloseBrace) n = n - 1
open_after _ n = n

-- the most that are open at once, with n open before these tokens
unfoldable pub most_open : ℕ → List Token → ℕ
most_open n [] = n
most_open n (t ∷ ts) = max n (most_open (open_after t.kind n) ts)
