-- The tokens that the rules name.
use Rattle.std.specs.Prelude.{Bool}
use Rattle.ob_lex.specs.declared.token.TokenKind.{TokenKind}
use Rattle.ob_grammar.specs.Taking as taking
use Rattle.ob_descent_tokens.specs.declared.expected.Expected.{Expected}
use Rattle.ob_descent_tokens.specs.declared.expected.Expected.TheVariants as expected

-- the test that such a token passes
abbrev pub test_of : Expected → TokenKind → Bool
test_of expected.OpenParenthesis = taking.opens_parenthesis
test_of expected.CloseParenthesis = taking.closes_parenthesis
test_of expected.OpenBracket = taking.opens_bracket
test_of expected.CloseBracket = taking.closes_bracket
test_of expected.OpenBrace = taking.opens_brace
test_of expected.CloseBrace = taking.closes_brace
test_of expected.Comma = taking.is_comma
test_of expected.Semicolon = taking.is_semicolon
test_of expected.Colon = taking.is_colon
test_of expected.Question = taking.is_question
test_of expected.Star = taking.is_star
test_of expected.StarStar = taking.is_star_star
test_of expected.Assign = taking.is_assign
test_of expected.Arrow = taking.is_arrow
test_of expected.Else = taking.is_else
test_of expected.While = taking.is_while
test_of expected.Catch = taking.is_catch
test_of expected.Yield = taking.is_yield
test_of expected.Function = taking.is_function
test_of expected.With = taking.is_with
test_of expected.Of = taking.is_of
test_of expected.As = taking.is_as
test_of expected.From = taking.is_from
