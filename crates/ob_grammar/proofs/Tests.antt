-- What the tests on single tokens say.
use Rattle.std.proofs.Common.{◌≡◌, true, false, refl, ap}
use Rattle.ob_lex.specs.declared.punctuator.Punctuator.TheVariants as mark
use Rattle.ob_base.specs.declared.reserved.ReservedWord.TheVariants as word
use Rattle.ob_lex.specs.declared.token.TokenKind.{TokenKind}
use Rattle.ob_lex.specs.declared.token.TokenKind.TheVariants as kind
use Rattle.ob_grammar.specs.Taking.{opens_parenthesis, closes_parenthesis, closes_bracket, opens_brace, closes_brace, is_comma, is_semicolon, is_colon, is_question, is_star, is_star_star, is_assign, is_else, is_while, is_catch, is_yield, is_with}

pub opens_parenthesis_on : (k : TokenKind) → k ≡ kind.Punctuator mark.OpenParenthesis → opens_parenthesis k ≡ true
unfolding opens_parenthesis
opens_parenthesis_on k h = ap opens_parenthesis h

pub closes_parenthesis_on : (k : TokenKind) → k ≡ kind.Punctuator mark.CloseParenthesis → closes_parenthesis k ≡ true
unfolding closes_parenthesis
closes_parenthesis_on k h = ap closes_parenthesis h

pub closes_bracket_on : (k : TokenKind) → k ≡ kind.Punctuator mark.CloseBracket → closes_bracket k ≡ true
unfolding closes_bracket
closes_bracket_on k h = ap closes_bracket h

pub opens_brace_on : (k : TokenKind) → k ≡ kind.Punctuator mark.OpenBrace → opens_brace k ≡ true
unfolding opens_brace
opens_brace_on k h = ap opens_brace h

pub opens_brace_off : (k : TokenKind) → (k ≡ kind.Punctuator mark.OpenBrace → ⊥) → opens_brace k ≡ false
unfolding opens_brace
opens_brace_off (kind.Punctuator mark.OpenBrace) h = absurd (h refl)
opens_brace_off _ h = refl

pub closes_brace_on : (k : TokenKind) → k ≡ kind.Punctuator mark.CloseBrace → closes_brace k ≡ true
unfolding closes_brace
closes_brace_on k h = ap closes_brace h

pub is_comma_on : (k : TokenKind) → k ≡ kind.Punctuator mark.Comma → is_comma k ≡ true
unfolding is_comma
is_comma_on k h = ap is_comma h

pub is_comma_off : (k : TokenKind) → (k ≡ kind.Punctuator mark.Comma → ⊥) → is_comma k ≡ false
unfolding is_comma
is_comma_off (kind.Punctuator mark.Comma) h = absurd (h refl)
is_comma_off _ h = refl

pub is_semicolon_on : (k : TokenKind) → k ≡ kind.Punctuator mark.Semicolon → is_semicolon k ≡ true
unfolding is_semicolon
is_semicolon_on k h = ap is_semicolon h

pub is_semicolon_off : (k : TokenKind) → (k ≡ kind.Punctuator mark.Semicolon → ⊥) → is_semicolon k ≡ false
unfolding is_semicolon
is_semicolon_off (kind.Punctuator mark.Semicolon) h = absurd (h refl)
is_semicolon_off _ h = refl

pub is_colon_on : (k : TokenKind) → k ≡ kind.Punctuator mark.Colon → is_colon k ≡ true
unfolding is_colon
is_colon_on k h = ap is_colon h

pub is_question_on : (k : TokenKind) → k ≡ kind.Punctuator mark.Question → is_question k ≡ true
unfolding is_question
is_question_on k h = ap is_question h

pub is_question_off : (k : TokenKind) → (k ≡ kind.Punctuator mark.Question → ⊥) → is_question k ≡ false
unfolding is_question
is_question_off (kind.Punctuator mark.Question) h = absurd (h refl)
is_question_off _ h = refl

pub is_star_on : (k : TokenKind) → k ≡ kind.Punctuator mark.Star → is_star k ≡ true
unfolding is_star
is_star_on k h = ap is_star h

pub is_star_star_on : (k : TokenKind) → k ≡ kind.Punctuator mark.StarStar → is_star_star k ≡ true
unfolding is_star_star
is_star_star_on k h = ap is_star_star h

pub is_star_star_off : (k : TokenKind) → (k ≡ kind.Punctuator mark.StarStar → ⊥) → is_star_star k ≡ false
unfolding is_star_star
is_star_star_off (kind.Punctuator mark.StarStar) h = absurd (h refl)
is_star_star_off _ h = refl

pub is_assign_on : (k : TokenKind) → k ≡ kind.Punctuator mark.Assign → is_assign k ≡ true
unfolding is_assign
is_assign_on k h = ap is_assign h

pub is_assign_off : (k : TokenKind) → (k ≡ kind.Punctuator mark.Assign → ⊥) → is_assign k ≡ false
unfolding is_assign
is_assign_off (kind.Punctuator mark.Assign) h = absurd (h refl)
is_assign_off _ h = refl

pub is_else_on : (k : TokenKind) → k ≡ kind.Reserved word.Else → is_else k ≡ true
unfolding is_else
is_else_on k h = ap is_else h

pub is_else_off : (k : TokenKind) → (k ≡ kind.Reserved word.Else → ⊥) → is_else k ≡ false
unfolding is_else
is_else_off (kind.Reserved word.Else) h = absurd (h refl)
is_else_off _ h = refl

pub is_while_on : (k : TokenKind) → k ≡ kind.Reserved word.While → is_while k ≡ true
unfolding is_while
is_while_on k h = ap is_while h

pub is_catch_on : (k : TokenKind) → k ≡ kind.Reserved word.Catch → is_catch k ≡ true
unfolding is_catch
is_catch_on k h = ap is_catch h

pub is_yield_on : (k : TokenKind) → k ≡ kind.Reserved word.Yield → is_yield k ≡ true
unfolding is_yield
is_yield_on k h = ap is_yield h

pub is_with_on : (k : TokenKind) → k ≡ kind.Reserved word.With → is_with k ≡ true
unfolding is_with
is_with_on k h = ap is_with h
