-- How the descent takes tokens. `None` means that no piece at the front is read.
use Rattle.std.specs.Prelude.{ℕ, Bool, true, false, not, ◌&&◌, ◌||◌, nat_le, List, [], ◌∷◌, codes, bytes_eq, Option, Some, None, option_and_then, option_map, if◌then◌else◌}
use Rattle.ob_lex.specs.declared.punctuator.Punctuator.TheVariants as mark
use Rattle.ob_base.specs.declared.reserved.ReservedWord.TheVariants as word
use Rattle.ob_lex.specs.declared.token.Token.{Token}
use Rattle.ob_lex.specs.declared.token.TokenKind.{TokenKind}
use Rattle.ob_lex.specs.declared.token.TokenKind.TheVariants as kind
use Rattle.ob_tree_types.specs.declared.tree.Expr.{Expr}
use Rattle.ob_grammar.specs.declared.piece.Piece.{Piece}
use Rattle.ob_grammar.specs.Marks.{rank}
use Rattle.ob_grammar.specs.declared.form.Form.{Form}
use Rattle.ob_grammar.specs.declared.form.Form.TheVariants.{Target, Other, Updated, Closed, Bare}
use Rattle.ob_grammar.specs.Forms.{ends_value}
use Rattle.ob_grammar.specs.declared.piece.Signature.{Signature}

abbrev pub Read : Type 0 → Type 0
Read A = Option (A × List Token)

abbrev pub Parser : Type 0 → Type 0
Parser A = List Token → Read A

infixl 10 ◌>>=◌
abbrev pub ◌>>=◌ : {A B : Type 0} → Read A → (A → Parser B) → Read B
r >>= f = option_and_then (λ p. f p.0 p.1) r

abbrev pub mapped : {A B : Type 0} → (A → B) → Read A → Read B
mapped f r = r >>= (λ x ts. Some (f x, ts))

abbrev pub piece : Expr → Form → Piece
piece a f = record { tree = a; form = f }

-- ---- single tokens

unfoldable pub opens_parenthesis : TokenKind → Bool
opens_parenthesis (kind.Punctuator mark.OpenParenthesis) = true
opens_parenthesis _ = false

unfoldable pub closes_parenthesis : TokenKind → Bool
closes_parenthesis (kind.Punctuator mark.CloseParenthesis) = true
closes_parenthesis _ = false

unfoldable pub opens_bracket : TokenKind → Bool
opens_bracket (kind.Punctuator mark.OpenBracket) = true
opens_bracket _ = false

unfoldable pub closes_bracket : TokenKind → Bool
closes_bracket (kind.Punctuator mark.CloseBracket) = true
closes_bracket _ = false

unfoldable pub opens_brace : TokenKind → Bool
opens_brace (kind.Punctuator mark.OpenBrace) = true
opens_brace _ = false

unfoldable pub closes_brace : TokenKind → Bool
closes_brace (kind.Punctuator mark.CloseBrace) = true
closes_brace _ = false

unfoldable pub is_comma : TokenKind → Bool
is_comma (kind.Punctuator mark.Comma) = true
is_comma _ = false

unfoldable pub is_semicolon : TokenKind → Bool
is_semicolon (kind.Punctuator mark.Semicolon) = true
is_semicolon _ = false

unfoldable pub is_colon : TokenKind → Bool
is_colon (kind.Punctuator mark.Colon) = true
is_colon _ = false

unfoldable pub is_question : TokenKind → Bool
is_question (kind.Punctuator mark.Question) = true
is_question _ = false

unfoldable pub is_star : TokenKind → Bool
is_star (kind.Punctuator mark.Star) = true
is_star _ = false

unfoldable pub is_star_star : TokenKind → Bool
is_star_star (kind.Punctuator mark.StarStar) = true
is_star_star _ = false

unfoldable pub is_assign : TokenKind → Bool
is_assign (kind.Punctuator mark.Assign) = true
is_assign _ = false

unfoldable pub is_arrow : TokenKind → Bool
is_arrow (kind.Punctuator mark.Arrow) = true
is_arrow _ = false

unfoldable pub is_else : TokenKind → Bool
is_else (kind.Reserved word.Else) = true
is_else _ = false

unfoldable pub is_while : TokenKind → Bool
is_while (kind.Reserved word.While) = true
is_while _ = false

unfoldable pub is_catch : TokenKind → Bool
is_catch (kind.Reserved word.Catch) = true
is_catch _ = false

unfoldable pub is_yield : TokenKind → Bool
is_yield (kind.Reserved word.Yield) = true
is_yield _ = false

unfoldable pub is_function : TokenKind → Bool
is_function (kind.Reserved word.Function) = true
is_function _ = false

unfoldable pub is_with : TokenKind → Bool
is_with (kind.Reserved word.With) = true
is_with _ = false

unfoldable pub name_of : TokenKind → Option (List ℕ)
name_of (kind.Name x) = Some x
name_of _ = None

unfoldable pub text_of : TokenKind → Option (List ℕ)
text_of (kind.Text units) = Some units
text_of _ = None

abbrev pub name_is : List ℕ → Option (List ℕ) → Bool
name_is x None = false
name_is x (Some y) = bytes_eq x y

unfoldable pub is_of : TokenKind → Bool
is_of k = name_is (codes "of") (name_of k)

unfoldable pub is_as : TokenKind → Bool
is_as k = name_is (codes "as") (name_of k)

unfoldable pub is_from : TokenKind → Bool
is_from k = name_is (codes "from") (name_of k)

-- ---- taking a token

-- what follows the first token, where it passes the test
unfoldable pub take : (TokenKind → Bool) → List Token → Option (List Token)
take test [] = None
take test (t ∷ ts) = if test t.kind then Some ts else None

-- whether the first token passes the test
unfoldable pub next_is : (TokenKind → Bool) → List Token → Bool
next_is test [] = false
next_is test (t ∷ ts) = test t.kind

-- a value, behind a token that passes the test
abbrev pub before : {A : Type 0} → (TokenKind → Bool) → A → Parser A
before test a ts = option_map (λ rest. (a, rest)) (take test ts)

-- the value that the first token has
unfoldable pub one : {A : Type 0} → (TokenKind → Option A) → Parser A
one value [] = None
one value (t ∷ ts) = option_map (λ a. (a, ts)) (value t.kind)

-- whether a first token stands there with no line break before it
unfoldable pub starts_on_line : List Token → Bool
starts_on_line [] = false
starts_on_line (t ∷ ts) = not t.break_before

-- whether nothing stands behind `return` or `yield`
unfoldable pub no_value : List Token → Bool
no_value [] = true
no_value (t ∷ ts) = t.break_before || ends_value t.kind

-- ---- the end of a statement

unfoldable pub is_quiet : Form → ℕ → Token → Bool
is_quiet Target n t = nat_le n (rank t)
is_quiet Other n t = nat_le n (rank t)
is_quiet Updated n t = nat_le n (rank t) || nat_le (rank t) 1
is_quiet Closed n t = nat_le n (rank t) || nat_le (rank t) 14
is_quiet Bare n t = (t.break_before || ends_value t.kind) && (nat_le n (rank t) || nat_le (rank t) 16)

-- the end of a statement at a token that is neither `;` nor `}`
abbrev pub line_end : Form → Token → List Token → Option (List Token)
line_end f t ts = if t.break_before && is_quiet f 19 t then Some (t ∷ ts) else None

-- what follows the end of a statement
unfoldable pub end_of : Form → List Token → Option (List Token)
end_of f [] = Some []
end_of f (t ∷ ts) = if is_semicolon t.kind then Some ts else if closes_brace t.kind then Some (t ∷ ts) else line_end f t ts

abbrev pub ended : {A : Type 0} → A → Form → List Token → Read A
ended a f ts = option_map (λ rest. (a, rest)) (end_of f ts)

-- ---- the head of a function

abbrev pub after_name : List ℕ → TokenKind → List Token → Read (List (List ℕ)) → Read (List (List ℕ))
after_name x k ts more = if closes_parenthesis k then Some (x ∷ [], ts) else if is_comma k then mapped (λ xs. x ∷ xs) more else None

abbrev pub first_name : Option (List ℕ) → TokenKind → List Token → (List ℕ → Read (List (List ℕ))) → Read (List (List ℕ))
first_name (Some x) k ts more = more x
first_name None k ts more = if closes_parenthesis k then Some ([], ts) else None

-- names up to the `)`
unfoldable mutual
  pub names : Parser (List (List ℕ))
  names [] = None
  names (t ∷ ts) = first_name (name_of t.kind) t.kind ts (λ x. names_after x ts)

  pub names_after : List ℕ → Parser (List (List ℕ))
  names_after x [] = None
  names_after x (c ∷ ts) = after_name x c.kind ts (names ts)

abbrev pub if_taken : {A : Type 0} → Option (List Token) → Parser A → Read A
if_taken None f = None
if_taken (Some ts) f = f ts

unfoldable pub parameters : Parser (List (List ℕ))
parameters ts = if_taken (take opens_parenthesis ts) names

-- what follows `=>`, where one stands on the same line
unfoldable pub arrow_sign : List Token → Option (List Token)
arrow_sign [] = None
arrow_sign (t ∷ ts) = if is_arrow t.kind && not t.break_before then Some ts else None

abbrev pub with_arrow : List (List ℕ) → Parser (List (List ℕ))
with_arrow xs ts = option_map (λ rest. (xs, rest)) (arrow_sign ts)

abbrev pub head_by : Option (List ℕ) → TokenKind → Parser (List (List ℕ))
head_by (Some x) k ts = with_arrow (x ∷ []) ts
head_by None k ts = if opens_parenthesis k then names ts >>= with_arrow else None

-- the parameters and the arrow, where an arrow function begins: a scan that stops at the first token that can stand in no list of parameters
unfoldable pub arrow_head : Parser (List (List ℕ))
arrow_head [] = None
arrow_head (t ∷ ts) = head_by (name_of t.kind) t.kind ts

abbrev pub signature_by : Bool → Read (List ℕ) → List Token → Read Signature
signature_by g (Some p) ts = mapped (λ xs. record { generator = g; name = Some p.0; params = xs }) (parameters p.1)
signature_by g None ts = mapped (λ xs. record { generator = g; name = None; params = xs }) (parameters ts)

abbrev pub after_star : Option (List Token) → List Token → Read Signature
after_star (Some rest) ts = signature_by true (one name_of rest) rest
after_star None ts = signature_by false (one name_of ts) ts

-- what stands between `function` and the block
unfoldable pub signature_of : Parser Signature
signature_of ts = after_star (take is_star ts) ts
